-- The references of elements, as changes of an index (our own, over CSS Generated Content 3, 2.6).
use Rattle.std.specs.Prelude.{◌≡◌, ◌==◌, ℕ, false, flat_map, map, List, [], ◌∷◌, ◌++◌, Option}
use Rattle.std.specs.List.{list_any}
use Rattle.std.specs.Option.{option_map_or}
use Rattle.forest.specs.Forest.{Forest}
use Rattle.forest.specs.Keys.{Keyed}
use Rattle.plain_types.specs.declared.node.Node.{Node}
use Rattle.content_eval.specs.declared.generated.Piece.{Piece}
use Rattle.content_eval.specs.Targets.{reference}
use Rattle.box_eval.specs.declared.element_record.ElementRecord.{ElementRecord}
use Rattle.box_eval.specs.declared.made.Made.{Made}
use Rattle.surroundings.specs.declared.told.Told.{Told}
use Rattle.target_index.specs.declared.change.IndexChange.{IndexChange}
use Rattle.target_index.specs.declared.change.IndexChange.TheVariants.{Refer}
use Rattle.target_index.specs.declared.index.Index.{Index}
use Rattle.referring_elements.specs.Indexes.{TellsReferences}

module _ (key : ℕ) where
  -- that the element refers to the id of a piece, where the piece has one
  abbrev pub piece_changes : Piece → List IndexChange
  piece_changes piece = option_map_or (λ id. Refer id key ∷ []) (reference piece) []

  -- that it refers to the ids of a box of it
  abbrev pub box_changes : Option Made → List IndexChange
  box_changes made = option_map_or (λ (box : Made). flat_map piece_changes box.pieces) made []

  -- that it refers to those of all its boxes, where this is said of it
  abbrev pub element_changes : ElementRecord → List IndexChange
  element_changes said = box_changes said.marker ++ (box_changes said.before ++ box_changes said.after)

abbrev pub all_changes : List (ℕ × Told) → List IndexChange
all_changes told = flat_map (λ (element : ℕ × Told). element_changes element.0 element.1.said) told

-- something is told of each element once
abbrev pub AreOnce : List (ℕ × Told) → Type 0
AreOnce [] = Unit {0}
AreOnce (element ∷ elements) = (list_any (λ (other : ℕ × Told). other.0 == element.0) elements ≡ false) × AreOnce elements

-- what is said of them
abbrev pub said_of : List (ℕ × Told) → List (ℕ × ElementRecord)
said_of told = map (λ (element : ℕ × Told). (element.0, element.1.said)) told

-- the index has the elements with the ids to which they refer, in whatever document they stand
abbrev pub TellsReferencesOf : Index → List (ℕ × Told) → Type 0
TellsReferencesOf index told = (document : Forest (Keyed Node)) → TellsReferences index (record { tree = document; said = said_of told })
