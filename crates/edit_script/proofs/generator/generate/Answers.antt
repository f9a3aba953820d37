use Rattle.std.proofs.Common.{◌∙◌, ap}
use Rattle.edit_script.specs.Generator.{document, edits, edits_of, section_count, sheet}
use Rattle.edit_script.proofs.generator.generate.Goals as goal

pub returns-clause-document : goal.returns-clause-document
unfolding document
returns-clause-document c = c.in_ok-document.ensures.tree

pub returns-clause-sheet : goal.returns-clause-sheet
unfolding sheet
returns-clause-sheet c = c.in_ok-sheet.ensures.characters

pub returns-clause-edits : goal.returns-clause-edits
unfolding edits_of
returns-clause-edits c = c.in_ok-edits.ensures.edits ∙ ap (edits (section_count c.args.count) c.args.count) c.in_ok-document.ensures.state
