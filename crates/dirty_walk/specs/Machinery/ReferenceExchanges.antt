-- The references of a document's elements before an edit and after it, and an index that is brought from one to the other (our
-- own, over CSS Generated Content 3, 2.6).
use Rattle.std.specs.Prelude.{◌≡◌, ◌≤◌, ◌+◌, ◌++◌, ℕ, Bool, true, false, List, [], All, Option, length}
use Rattle.std.specs.FinMap.{FinMap, get}
use Rattle.std.specs.List.{filter_map}
use Rattle.std.specs.Option.{option_and_then, option_map_or}
use Rattle.std.specs.Ordering.{nat_cmp}
use Rattle.content_eval.specs.Targets.{reference}
use Rattle.content_eval.specs.declared.generated.Piece.{Piece}
use Rattle.box_pieces.specs.declared.box_pieces.BoxPieces.{BoxPieces}
use Rattle.edit_work.specs.KeyedSources.{is_among, references_of}
use Rattle.surroundings.specs.declared.told.Told.{Told}
use Rattle.target_index.specs.declared.change.IndexChange.{IndexChange}
use Rattle.target_index.specs.declared.index.Index.{Index}
use Rattle.target_index.specs.Changes.{AddsNoHolders, AddsNoReferences, AreReserved, holds_after_all, refers_after_all}
use Rattle.target_index.specs.Holders.{is_reference}
use Rattle.reference_reach.specs.ChangedTargets.{Evaluated, references_at}
use Rattle.kept_elements.specs.declared.kept.Kept.{Kept}
use Rattle.kept_elements.specs.Renewals.{is_told}

-- References that are kept.

-- the ids to which a box of these pieces refers
abbrev pub references_in : Option (List Piece) → List (List ℕ)
references_in pieces = option_map_or (filter_map reference) pieces []

-- those of all boxes of an element
abbrev pub references_of_boxes : BoxPieces → List (List ℕ)
references_of_boxes boxes = references_in boxes.marker ++ (references_in boxes.before ++ references_in boxes.after)

-- those of the element of this key, by the pieces that are kept of it
abbrev pub references_kept : FinMap nat_cmp Kept → ℕ → List (List ℕ)
references_kept held key = option_map_or references_of_boxes (option_and_then (λ (kept : Kept). kept.pieces) (get held key)) []

-- Edits.

-- By an edit these elements go, and this is told of elements of the edited document. Each other element refers to the ids to
-- which it referred before, which is what is held of it.
pub record ChangesReferences (held : FinMap nat_cmp Kept) (takes : List ℕ) (told : List (ℕ × Told)) (before after : Evaluated) : Type 0 where
  pub kept : (key : ℕ) → references_kept held key ≡ references_at before key
  pub gone : (key : ℕ) → is_among takes key ≡ true → references_at after key ≡ []
  pub come : All (λ (element : ℕ × Told). references_at after element.0 ≡ references_of element.1.said) told
  pub others : (key : ℕ) → is_among takes key ≡ false → is_told told key ≡ false → references_at after key ≡ references_at before key

-- Between one number of steps and another are so many, and no more than a list has, of its own choice, of all elements of which
-- this is told.
abbrev pub IsWithinKeys : List (ℕ × Told) → (more before now : ℕ) → Type 0
IsWithinKeys told more before now = (keys : List ℕ) → ((key : ℕ) → is_told told key ≡ true → is_among keys key ≡ true) → now ≤ before + (more + length keys)

-- Ways back.

-- these changes of an index are reserved, and take its references back to those of another; they touch no holder
pub record LeadsBack (back : List IndexChange) (now before : Index) : Type 0 where
  pub reserved : AreReserved now back
  pub references : (id : List ℕ) (key : ℕ) → refers_after_all back id key (is_reference now id key) ≡ is_reference before id key
  pub holders : (id : List ℕ) (key : ℕ) (held : Bool) → holds_after_all back id key held ≡ held
  pub adds_none : AddsNoHolders back

-- changes that are reserved stay so, where they add holders alone
abbrev pub HoldersStayReserved : (before now : Index) → Type 0
HoldersStayReserved before now = (changes : List IndexChange) → AddsNoReferences changes → AreReserved before changes → AreReserved now changes
