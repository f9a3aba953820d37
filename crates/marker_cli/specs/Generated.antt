-- The command `gen SEED COUNT` (our own).
use Rattle.std.specs.Prelude.{ℕ, ◌+◌, List, [], ◌∷◌, ◌++◌, length, Result, Ok, Err, codes}
use Rattle.std.specs.Fmt.{decimal}
use Rattle.document_walk.specs.Elements.{element_count}
use Rattle.edit_inverses.specs.Versions.{Version}
use Rattle.edit_script.specs.Generator.{document, edits_of, sheet}
use Rattle.generated_texts.specs.Lines.{document_lines}
use Rattle.marker_engine.specs.Census.{box_count, saturated}
use Rattle.marker_engine.specs.Edited.{edited}
use Rattle.marker_engine.specs.Engines.{Source}
use Rattle.node_arena.specs.declared.place_fault.PlaceFault.{PlaceFault}
use Rattle.plain_types.specs.declared.edit.Edit.{Edit}
use Rattle.marker_cli.specs.declared.status.Status.TheVariants as status
use Rattle.marker_cli.specs.EditSteps.{edit_steps, show_steps, start_steps}
use Rattle.marker_cli.specs.Output.{Output, ends, writes}
use Rattle.marker_cli.specs.WorkSteps.{EditsTake, IsWithinCalls}

-- a document under its sheet after some edits, and how many of these were accepted and refused
pub record Outcome : Type 0 where
  pub source : Source
  pub accepted : ℕ
  pub refused : ℕ

-- one more edit
abbrev pub with_answer : Outcome → Result Source PlaceFault → Outcome
with_answer outcome (Ok source) = record { source = source; accepted = outcome.accepted + 1; refused = outcome.refused }
with_answer outcome (Err fault) = record { source = outcome.source; accepted = outcome.accepted; refused = outcome.refused + 1 }

-- these edits, in their order
abbrev pub after_edits : List Edit → Outcome → Outcome
after_edits [] outcome = outcome
after_edits (edit ∷ edits) outcome = after_edits edits (with_answer outcome (edited outcome.source edit))

-- no edit yet
abbrev pub unedited : Source → Outcome
unedited source = record { source = source; accepted = 0; refused = 0 }

-- the run of this seed with so many edits
abbrev pub generated : ℕ → ℕ → Outcome
generated seed count = after_edits (edits_of seed count) (unedited (record { tree = document seed count; sheet = sheet }))

-- a line with a number
abbrev pub number_line : List ℕ → ℕ → List ℕ
number_line what number = what ++ (decimal number ++ codes "\n")

abbrev pub number_lines : (elements boxes accepted refused lines : ℕ) → List ℕ
number_lines elements boxes accepted refused lines =
    number_line (codes "elements ") elements
    ++ (number_line (codes "boxes ") boxes
    ++ (number_line (codes "accepted ") accepted
    ++ (number_line (codes "refused ") refused
    ++ number_line (codes "lines ") lines)))

-- the lines about a run: what there is of the document at its end, and what became of the edits
abbrev pub numbers : Outcome → List ℕ
numbers outcome =
    number_lines (saturated (element_count outcome.source.tree)) (saturated (box_count outcome.source.sheet outcome.source.tree)) outcome.accepted outcome.refused
    (saturated (length (document_lines outcome.source.sheet outcome.source.tree)))

-- the output of `gen SEED COUNT`
abbrev pub generated_output : ℕ → ℕ → Output
generated_output seed count = writes (numbers (generated seed count)) (ends status.Ok)

-- How many steps it takes at most: one evaluation at the start, what each edit takes, and at the end one look at each element.

-- a document under its sheet, as one of its versions
abbrev pub version_in : Source → Version
version_in source = record { document = source.tree; sheet = source.sheet }

abbrev pub edits_steps : List Edit → Outcome → ℕ
edits_steps [] outcome = 0
edits_steps (edit ∷ edits) outcome = edit_steps (version_in outcome.source) edit + edits_steps edits (with_answer outcome (edited outcome.source edit))

abbrev pub outcome_steps : List Edit → Source → ℕ
outcome_steps edits source = edits_steps edits (unedited source) + show_steps (version_in (after_edits edits (unedited source)).source)

abbrev pub most_generated_steps : ℕ → ℕ → ℕ
most_generated_steps seed count = start_steps (document seed count) + outcome_steps (edits_of seed count) (record { tree = document seed count; sheet = sheet })

-- and by the work of its edits
abbrev pub IsGeneratedWithinWork : ℕ → ℕ → (old new : ℕ) → Type 0
IsGeneratedWithinWork seed count old new = IsWithinCalls (record { document = document seed count; sheet = sheet }) (EditsTake (edits_of seed count)) old new
