-- What a fresh evaluation keeps of the elements of a document (our own).
use Rattle.std.specs.Prelude.{ℕ, List, Option, map}
use Rattle.forest.specs.Forest.{Forest}
use Rattle.forest.specs.Keys.{Keyed}
use Rattle.plain_types.specs.declared.counter_style.CounterStyle.{CounterStyle}
use Rattle.plain_types.specs.declared.node.Node.{Node}
use Rattle.plain_types.specs.declared.sheet.Sheet.{Sheet}
use Rattle.plain_types.specs.declared.style.ElementStyle.{ElementStyle}
use Rattle.plain_types.specs.declared.style.Style.{Style}
use Rattle.content_eval.specs.Targets.{Known}
use Rattle.box_eval.specs.Starts.{started}
use Rattle.box_pieces.specs.BoxPieces.{pieces_with_urls}
use Rattle.generated_texts.specs.Documents.{counter_styles, document_style}
use Rattle.generated_texts.specs.Entries.{node_entry}
use Rattle.generated_texts.specs.References.{known_targets}
use Rattle.merged_walk.specs.Evaluators.{told_all}
use Rattle.surroundings.specs.declared.told.Told.{Told}
use Rattle.surroundings.specs.StyledEvaluators.{root_surroundings, styled_evaluator}
use Rattle.reference_reach.specs.ChangedTargets.{Evaluated}
use Rattle.referring_elements.specs.References.{said_of}
use Rattle.kept_elements.specs.declared.kept.Kept.{Kept}

-- what the evaluation tells of a document's elements, under their keys
abbrev pub told_of : List CounterStyle → (ℕ → Option Style → ElementStyle) → Forest (Keyed Node) → List (ℕ × Told)
told_of table style document = told_all (styled_evaluator table) root_surroundings (started table style document)

abbrev pub document_told : Sheet → Forest (Keyed Node) → List (ℕ × Told)
document_told author document = told_of (counter_styles author) (document_style author document) document

-- a document, with what a fresh evaluation under the author's sheet says of its elements
abbrev pub evaluated_document : Sheet → Forest (Keyed Node) → Evaluated
evaluated_document author document = record { tree = document; said = said_of (document_told author document) }

module _ (table : List CounterStyle) (known : Known) where
  -- what is kept of an element of which this is told
  abbrev pub kept_of : Told → Kept
  kept_of told = record { entry = node_entry table known told.said; walked = told.walked; pieces = pieces_with_urls told.said }

  abbrev pub all_kept_of : List (ℕ × Told) → List (ℕ × Kept)
  all_kept_of told = map (λ (element : ℕ × Told). (element.0, kept_of element.1)) told

-- what is kept of the elements of a document under the author's sheet, under their keys
abbrev pub document_kept : Sheet → Forest (Keyed Node) → List (ℕ × Kept)
document_kept author document =
    let table = counter_styles author in
    let told = document_told author document in
    all_kept_of table (known_targets table document (said_of told)) told
