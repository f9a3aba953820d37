-- Places of rules in their sheet, as they are filed under the bytes of names.
use Rattle.std.specs.Prelude.{◌≡◌, ℕ, nat_eq, Bool, false, List, [], unwrap_or, slice_get, encode_utf8_all}
use Rattle.std.specs.List.{list_any}
use Rattle.std.specs.Map.{lookup}
use Rattle.std.specs.Option.{option_map_or}
use Rattle.std.specs.Str.{bytes_eq}
use Rattle.std.specs.Vec.{vec_items}
use Rattle.plain_types.specs.declared.selector.Selector.{Selector}
use Rattle.plain_types.specs.declared.sheet.StyleRule.{StyleRule}
use Rattle.mini_cascade.specs.declared.shelf.Shelf.{Shelf}
use Rattle.mini_cascade.specs.declared.shelves.Shelves.{Shelves}
use Rattle.mini_cascade.specs.RuleTables.{Slot, Id, Class, Name, Other, filed_under, is_same_slot}

-- what is filed under a name
abbrev pub filed_at : Shelf → List ℕ → List ℕ
filed_at shelf name = unwrap_or (lookup (λ key. bytes_eq name (vec_items key)) shelf.by_name.entries) []

abbrev pub is_filed : Shelf → List ℕ → ℕ → Bool
is_filed shelf name place = list_any (nat_eq place) (filed_at shelf name)

-- a place is filed in a slot
abbrev pub is_in_slot : Shelves → Slot → ℕ → Bool
is_in_slot shelves (Id name) place = is_filed shelves.ids (encode_utf8_all name) place
is_in_slot shelves (Class name) place = is_filed shelves.classes (encode_utf8_all name) place
is_in_slot shelves (Name name) place = is_filed shelves.names (encode_utf8_all name) place
is_in_slot shelves Other place = list_any (nat_eq place) shelves.others

-- a selector of the rule is filed in this slot
abbrev pub has_slot : Slot → StyleRule → Bool
has_slot slot rule = list_any (λ (selector : Selector). is_same_slot (filed_under selector) slot) rule.selectors

-- an item stands at this place, and passes
abbrev pub passes_at : {X : Type 0} → (X → Bool) → List X → ℕ → Bool
passes_at test items place = option_map_or test (slice_get items place) false

-- each rule is filed in the slots of its selectors, and nothing else is
abbrev pub AreFiled : List StyleRule → Shelves → Type 0
AreFiled rules shelves = (slot : Slot) (place : ℕ) → is_in_slot shelves slot place ≡ passes_at (has_slot slot) rules place

-- what one of the first passes, one of the others does, and the other way round
abbrev pub HaveSameMembers : {X : Type 0} → List X → List X → Type 0
HaveSameMembers {X} first second = (test : X → Bool) → list_any test first ≡ list_any test second
