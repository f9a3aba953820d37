-- The references of elements, as they are listed to be exchanged.
use Rattle.std.specs.Prelude.{ℕ, flat_map, map, List, [], ◌∷◌, ◌++◌, Option}
use Rattle.std.specs.FinMap.{FinMap, get}
use Rattle.std.specs.Option.{option_and_then, option_map_or}
use Rattle.std.specs.Ordering.{nat_cmp}
use Rattle.content_eval.specs.Targets.{reference}
use Rattle.content_eval.specs.declared.generated.Piece.{Piece}
use Rattle.box_eval.specs.declared.element_record.ElementRecord.{ElementRecord}
use Rattle.box_eval.specs.declared.made.Made.{Made}
use Rattle.box_pieces.specs.declared.box_pieces.BoxPieces.{BoxPieces}
use Rattle.surroundings.specs.declared.told.Told.{Told}
use Rattle.target_index.specs.declared.change.IndexChange.{IndexChange}
use Rattle.target_index.specs.declared.change.IndexChange.TheVariants.{Refer, Unrefer}
use Rattle.kept_elements.specs.declared.kept.Kept.{Kept}
use Rattle.dirty_walk.specs.declared.reference_exchange.Reference.{Reference}

module _ (key : ℕ) where
  -- the reference of a piece of the element, where it has one
  abbrev pub piece_references : Piece → List Reference
  piece_references piece = option_map_or (λ id. record { key = key; id = id } ∷ []) (reference piece) []

  -- those of a box, by the pieces that are kept of it
  abbrev pub kept_box_references : Option (List Piece) → List Reference
  kept_box_references pieces = option_map_or (flat_map piece_references) pieces []

  abbrev pub boxes_references : BoxPieces → List Reference
  boxes_references boxes = kept_box_references boxes.marker ++ (kept_box_references boxes.before ++ kept_box_references boxes.after)

  -- those of a box that was evaluated
  abbrev pub box_references : Option Made → List Reference
  box_references made = option_map_or (λ (box : Made). flat_map piece_references box.pieces) made []

  abbrev pub element_references : ElementRecord → List Reference
  element_references said = box_references said.marker ++ (box_references said.before ++ box_references said.after)

-- the references of an element, by what is held of it
abbrev pub kept_references : FinMap nat_cmp Kept → ℕ → List Reference
kept_references held key = option_map_or (boxes_references key) (option_and_then (λ (kept : Kept). kept.pieces) (get held key)) []

abbrev pub all_kept : FinMap nat_cmp Kept → List ℕ → List Reference
all_kept held keys = flat_map (kept_references held) keys

-- those of the elements of which this is told
abbrev pub all_told : List (ℕ × Told) → List Reference
all_told told = flat_map (λ (element : ℕ × Told). element_references element.0 element.1.said) told

-- The changes of an index.

abbrev pub unreferred : Reference → IndexChange
unreferred one = Unrefer one.id one.key

abbrev pub referred : Reference → IndexChange
referred one = Refer one.id one.key

-- the first references go, and the second come
abbrev pub exchanged : (was is : List Reference) → List IndexChange
exchanged was is = map unreferred was ++ map referred is
