-- Rules that are filed in slots, and what is found where an element is looked up.
use Rattle.std.proofs.Common.{◌≡◌, ◌∙◌, ◌&&◌, ◌||◌, ℕ, nat_eq, Bool, false, List, [], ◌∷◌, ◌++◌, Option, Some, None, option_map, encode_utf8_all, refl, sym, ap}
use Rattle.std.specs.List.{list_any}
use Rattle.std.specs.Option.{option_map_or}
use Rattle.std.specs.Prelude.{slice_get}
use Rattle.std.specs.Str.{bytes_eq}
use Rattle.std.proofs.lemmas.Bool.Decides.{same_from_decides}
use Rattle.std.proofs.lemmas.Slice.Eq.{bytes_eq-Decides}
use Rattle.std.proofs.lemmas.Str.{encodes_same}
use Rattle.forest.specs.Forest.{Forest}
use Rattle.forest.specs.Keys.{Keyed}
use Rattle.plain_types.specs.declared.node.Node.{Node}
use Rattle.plain_types.specs.declared.selector.Selector.{Selector}
use Rattle.plain_types.specs.declared.selector.Compound.{Compound}
use Rattle.plain_types.specs.declared.selector.Simple.{Simple, Simple-F, roll-Simple}
use Rattle.plain_types.specs.declared.selector.Simple.TheFolds.{fold-roll-Simple}
use Rattle.plain_types.specs.declared.selector.Simple.TheOpen as layer
use Rattle.plain_types.specs.declared.selector.Simple.TheVariants as simple
use Rattle.plain_types.specs.declared.sheet.StyleRule.{StyleRule}
use Rattle.selector_match.specs.Attributes.{parts}
use Rattle.selector_match.proofs.Encoding.{parts-encode}
use Rattle.mini_cascade.specs.Machinery.Shelves.{AreFiled, has_slot, is_filed, is_in_slot, passes_at}
use Rattle.mini_cascade.specs.RuleTables.{Slot, Id, Class, Name, Other, filed_under, is_looked_at, is_same_slot, slot_in, slot_of, slots_of}
use Rattle.mini_cascade.specs.declared.shelf.Shelf.{Shelf}
use Rattle.mini_cascade.specs.declared.shelves.Shelves.{Shelves}
use Rattle.mini_cascade.proofs.SlotLaws.{each_simple}
use Rattle.mini_cascade.proofs.Members.{any_alike, any_crossed, any_map, any_none, any_pushed, or_false}

-- the slots of the simple selectors that have one
pub id_slot : (name : List ℕ) → slot_of (simple.Id name) ≡ Id name
id_slot name = ap slot_of (sym (simple.rolls-Id name)) ∙ fold-roll-Simple Slot Slot slot_in (λ compound. Other) (layer.Id name)

pub class_slot : (name : List ℕ) → slot_of (simple.Class name) ≡ Class name
class_slot name = ap slot_of (sym (simple.rolls-Class name)) ∙ fold-roll-Simple Slot Slot slot_in (λ compound. Other) (layer.Class name)

pub name_slot : (name : List ℕ) → slot_of (simple.Element name) ≡ Name name
name_slot name = ap slot_of (sym (simple.rolls-Element name)) ∙ fold-roll-Simple Slot Slot slot_in (λ compound. Other) (layer.Element name)

-- all others have the one slot
abbrev IsOther : Simple → Type 0
IsOther one = ((name : List ℕ) → one ≡ simple.Id name → ⊥) → ((name : List ℕ) → one ≡ simple.Class name → ⊥) → ((name : List ℕ) → one ≡ simple.Element name → ⊥) → slot_of one ≡ Other

rolled : (part : Simple-F Simple Compound) → IsOther (roll-Simple part)
rolled (layer.Id name) not_id not_class not_name = absurd (not_id name (simple.rolls-Id name))
rolled (layer.Class name) not_id not_class not_name = absurd (not_class name (simple.rolls-Class name))
rolled (layer.Element name) not_id not_class not_name = absurd (not_name name (simple.rolls-Element name))
rolled layer.Any _ _ _ = fold-roll-Simple Slot Slot slot_in (λ compound. Other) layer.Any
rolled layer.Root _ _ _ = fold-roll-Simple Slot Slot slot_in (λ compound. Other) layer.Root
rolled layer.Empty _ _ _ = fold-roll-Simple Slot Slot slot_in (λ compound. Other) layer.Empty
rolled layer.Never _ _ _ = fold-roll-Simple Slot Slot slot_in (λ compound. Other) layer.Never
rolled (layer.Attr name test value fold) _ _ _ = fold-roll-Simple Slot Slot slot_in (λ compound. Other) (layer.Attr name test value fold)
rolled (layer.Only same_type) _ _ _ = fold-roll-Simple Slot Slot slot_in (λ compound. Other) (layer.Only same_type)
rolled (layer.Nth a b from_end same_type) _ _ _ = fold-roll-Simple Slot Slot slot_in (λ compound. Other) (layer.Nth a b from_end same_type)
rolled (layer.Is choices) _ _ _ = fold-roll-Simple Slot Slot slot_in (λ compound. Other) (layer.Is choices)
rolled (layer.Weightless choices) _ _ _ = fold-roll-Simple Slot Slot slot_in (λ compound. Other) (layer.Weightless choices)
rolled (layer.Not choices) _ _ _ = fold-roll-Simple Slot Slot slot_in (λ compound. Other) (layer.Not choices)

pub other_slot : (one : Simple) → IsOther one
other_slot = each_simple IsOther rolled

-- names are the same where their bytes are
same_name : (name other : List ℕ) → bytes_eq (encode_utf8_all other) (encode_utf8_all name) ≡ bytes_eq name other
same_name name other =
    let of_bytes = bytes_eq-Decides (encode_utf8_all other) (encode_utf8_all name) in
    let of_names = bytes_eq-Decides name other in
    same_from_decides _ _ of_bytes (λ e. ap encode_utf8_all (sym (of_names.0 e)), λ e. of_names.1 (sym (encodes_same other name e)))

module _ (old : Shelves) (place : ℕ) where
  -- the place is filed in this slot, and nothing else changes
  abbrev pub Files : Slot → Shelves → Type 0
  Files under new = (slot : Slot) (one : ℕ) → is_in_slot new slot one ≡ (is_in_slot old slot one || (is_same_slot under slot && nat_eq one place))

  -- the place is filed on this shelf
  abbrev pub IsShelved : Shelf → Shelf → List ℕ → Type 0
  IsShelved shelf new bytes = (other : List ℕ) (one : ℕ) → is_filed new other one ≡ (is_filed shelf other one || (bytes_eq other bytes && nat_eq one place))

  stays : (slot : Slot) (one : ℕ) → is_in_slot old slot one ≡ (is_in_slot old slot one || false)
  stays slot one = sym (or_false (is_in_slot old slot one))

  named : (shelf new : Shelf) (name other : List ℕ) (one : ℕ) → IsShelved shelf new (encode_utf8_all name) → is_filed new (encode_utf8_all other) one ≡ (is_filed shelf (encode_utf8_all other) one || (bytes_eq name other && nat_eq one place))
  named shelf new name other one files = files (encode_utf8_all other) one ∙ ap (λ b. is_filed shelf (encode_utf8_all other) one || (b && nat_eq one place)) (same_name name other)

  pub files_id : (name : List ℕ) (new : Shelf) → IsShelved old.ids new (encode_utf8_all name) → Files (Id name) (record { ids = new; classes = old.classes; names = old.names; others = old.others })
  files_id name new files (Id other) one = named old.ids new name other one files
  files_id name new files (Class other) one = stays (Class other) one
  files_id name new files (Name other) one = stays (Name other) one
  files_id name new files Other one = stays Other one

  pub files_class : (name : List ℕ) (new : Shelf) → IsShelved old.classes new (encode_utf8_all name) → Files (Class name) (record { ids = old.ids; classes = new; names = old.names; others = old.others })
  files_class name new files (Id other) one = stays (Id other) one
  files_class name new files (Class other) one = named old.classes new name other one files
  files_class name new files (Name other) one = stays (Name other) one
  files_class name new files Other one = stays Other one

  pub files_name : (name : List ℕ) (new : Shelf) → IsShelved old.names new (encode_utf8_all name) → Files (Name name) (record { ids = old.ids; classes = old.classes; names = new; others = old.others })
  files_name name new files (Id other) one = stays (Id other) one
  files_name name new files (Class other) one = stays (Class other) one
  files_name name new files (Name other) one = named old.names new name other one files
  files_name name new files Other one = stays Other one

  pub files_other : (new : List ℕ) → new ≡ old.others ++ place ∷ [] → Files Other (record { ids = old.ids; classes = old.classes; names = old.names; others = new })
  files_other new is (Id other) one = stays (Id other) one
  files_other new is (Class other) one = stays (Class other) one
  files_other new is (Name other) one = stays (Name other) one
  files_other new is Other one = ap (list_any (nat_eq one)) is ∙ any_pushed (nat_eq one) old.others place

-- what is found under the bytes of a name that may be missing, and under those of the words of a text
pub found_name : (test : List ℕ → Bool) (name : Option (List ℕ)) → option_map_or test (option_map encode_utf8_all name) false ≡ option_map_or (λ one. test (encode_utf8_all one)) name false
found_name test None = refl
found_name test (Some name) = refl

pub found_words : (test : List ℕ → Bool) (text : Option (List ℕ))
    → option_map_or (λ bytes. list_any test (parts bytes)) (option_map encode_utf8_all text) false ≡ option_map_or (λ one. list_any (λ word. test (encode_utf8_all word)) (parts one)) text false
found_words test None = refl
found_words test (Some text) = ap (list_any test) (parts-encode text) ∙ any_map test encode_utf8_all (parts text)

-- where rules are filed, those are found that have a selector which is looked at
module _ (rules : List StyleRule) (shelves : Shelves) (filed : AreFiled rules shelves) (tree : Forest (Keyed Node)) (key : ℕ) where
  at_place : (found : Option StyleRule) → list_any (λ slot. option_map_or (has_slot slot) found false) (slots_of tree key) ≡ option_map_or (λ (rule : StyleRule). list_any (is_looked_at tree key) rule.selectors) found false
  at_place None = any_none (slots_of tree key)
  at_place (Some rule) = any_crossed (λ slot (selector : Selector). is_same_slot (filed_under selector) slot) (slots_of tree key) rule.selectors

  pub found_there : (place : ℕ) → list_any (λ slot. is_in_slot shelves slot place) (slots_of tree key) ≡ passes_at (λ (rule : StyleRule). list_any (is_looked_at tree key) rule.selectors) rules place
  found_there place =
      any_alike (λ slot. is_in_slot shelves slot place) (λ slot. passes_at (has_slot slot) rules place) (λ slot. filed slot place) (slots_of tree key) ∙ at_place (slice_get rules place)
