use Rattle.edit_script.proofs.SectionLaws.{document-is}
use Rattle.edit_script.proofs.generator.draw_document.Goals as goal

pub returns-clause-tree : goal.returns-clause-tree
returns-clause-tree c =
    document-is c.new-builder.result c.start.new.self c.put_sections.new.builder c.end.new.self c.args.sections c.args.draws.now.state c.in_ok-copied.field-0 c.new.result c.finish.result
    c.new-builder.ensures.empty c.in_ok-copied.ensures.characters c.new.ensures.empty c.in_ok-start.ensures.ok c.in_ok-put_sections.ensures.ok c.end.ensures.ended c.finish.ensures.rows
