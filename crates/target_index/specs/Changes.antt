-- What changes make of the pairs of an index (our own).
use Rattle.std.specs.Prelude.{ℕ, ◌≡◌, ◌≤◌, nat_eq, Bool, true, false, ◌&&◌, cond, List, [], Option, Some, None, count_by, flat_map, fold}
use Rattle.std.specs.Option.{option_to_list}
use Rattle.std.specs.Str.{bytes_eq}
use Rattle.target_index.specs.declared.change.IndexChange.{IndexChange}
use Rattle.target_index.specs.declared.change.IndexChange.TheVariants.{Hold, Unhold, Refer, Unrefer}
use Rattle.target_index.specs.declared.change.Relation.{Relation}
use Rattle.target_index.specs.declared.change.Relation.TheVariants.{Holder, Reference}
use Rattle.target_index.specs.declared.index.Index.{Index}
use Rattle.target_index.specs.Pairs.{Pairs, room_of}

-- an id and a key are those of a change
abbrev pub is_that : List ℕ → ℕ → List ℕ → ℕ → Bool
is_that id key other element = bytes_eq other id && nat_eq key element

-- whether an element holds an id after a change, where it did before or not
abbrev pub holds_after : IndexChange → List ℕ → ℕ → Bool → Bool
holds_after (Hold id key) other element before = cond (is_that id key other element) true before
holds_after (Unhold id key) other element before = cond (is_that id key other element) false before
holds_after (Refer id key) other element before = before
holds_after (Unrefer id key) other element before = before

-- whether an element refers to an id after a change
abbrev pub refers_after : IndexChange → List ℕ → ℕ → Bool → Bool
refers_after (Hold id key) other element before = before
refers_after (Unhold id key) other element before = before
refers_after (Refer id key) other element before = cond (is_that id key other element) true before
refers_after (Unrefer id key) other element before = cond (is_that id key other element) false before

-- The same after changes, in their order.

abbrev pub holds_after_all : List IndexChange → List ℕ → ℕ → Bool → Bool
holds_after_all changes id key before = fold (λ held change. holds_after change id key held) before changes

abbrev pub refers_after_all : List IndexChange → List ℕ → ℕ → Bool → Bool
refers_after_all changes id key before = fold (λ held change. refers_after change id key held) before changes

-- What changes need.

-- the id to which a change adds a pair of this relation
abbrev pub added_id : Relation → IndexChange → Option (List ℕ)
added_id Holder (Hold id key) = Some id
added_id Reference (Refer id key) = Some id
added_id _ _ = None

-- the ids to which changes add pairs, each as often as they do
abbrev pub added_ids : Relation → List IndexChange → List (List ℕ)
added_ids relation changes = flat_map (λ change. option_to_list (added_id relation change)) changes

-- they add no pair of the one relation, or of the other
abbrev pub AddsNoHolders : List IndexChange → Type 0
AddsNoHolders changes = added_ids Holder changes ≡ []

abbrev pub AddsNoReferences : List IndexChange → Type 0
AddsNoReferences changes = added_ids Reference changes ≡ []

-- there is room for a pair more of each of these ids
abbrev pub HasRoomFor : Pairs → List (List ℕ) → Type 0
HasRoomFor pairs ids = (id : List ℕ) → count_by (bytes_eq id) ids ≤ room_of pairs id

-- the changes were reserved: they need no memory
pub record AreReserved (index : Index) (changes : List IndexChange) : Type 0 where
  pub holders : HasRoomFor index.holders (added_ids Holder changes)
  pub references : HasRoomFor index.references (added_ids Reference changes)
