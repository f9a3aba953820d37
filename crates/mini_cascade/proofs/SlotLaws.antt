-- Where selectors are filed and elements are looked up.
use Rattle.std.proofs.Common.{◌≡◌, ◌∙◌, ◌||◌, ◌==◌, ℕ, nat_lt, Bool, true, false, cond, not, List, [], ◌∷◌, ◌++◌, length, map, reverse, codes, Option, Some, None, refl, sym, ap, subst}
use Rattle.std.specs.List.{list_any, list_all}
use Rattle.std.specs.Option.{option_map_or, option_to_list}
use Rattle.std.specs.Prelude.{option_map}
use Rattle.std.specs.Str.{bytes_eq}
use Rattle.std.proofs.lemmas.Bool.{and_parts, or_left, or_right}
use Rattle.plain_types.specs.declared.selector.Compound.{Compound}
use Rattle.plain_types.specs.declared.selector.Selector.{Selector}
use Rattle.plain_types.specs.declared.selector.Simple.{Simple, roll-Simple, map-Simple}
use Rattle.plain_types.specs.declared.selector.Simple.TheFolds.{fold-Compound, fold-roll-Simple, ind-Simple}
use Rattle.plain_types.specs.declared.selector.Simple.TheOpen.{Simple-F}
use Rattle.plain_types.specs.declared.selector_parts.Join.{Join}
use Rattle.selector_match.specs.Attributes.{has_word, parts}
use Rattle.selector_match.specs.Elements.{Standing}
use Rattle.selector_match.specs.Matching.{compound_matches, has_attr, matches_before, matches_complex, matches_compound, matches_from, matches_simple, simple_matches}
use Rattle.selector_match.proofs.AttributeLaws.{swapped}
use Rattle.selector_match.proofs.FoldLaws.{compound-simples}
use Rattle.plain_types.specs.Attributes.{value_of}
use Rattle.mini_cascade.specs.RuleTables.{Slot, Id, Class, Name, Other, breadth, filed_under, is_same_slot, narrower, narrowest_with, slot_by, slot_in, slot_of, slots_with}
use Rattle.mini_cascade.proofs.Members.{any_append, any_map, or_false}

-- what holds of what a layer makes holds of each simple selector
module _ (P : Simple → Type 0) where
  abbrev AnyCompound : Compound → Type 0
  AnyCompound compound = Unit {0}

  abbrev KnownSimple : Type 0
  KnownSimple = (simple : Simple) × P simple

  abbrev KnownCompound : Type 0
  KnownCompound = (compound : Compound) × AnyCompound compound

  pub each_simple : ((part : Simple-F Simple Compound) → P (roll-Simple part)) → (simple : Simple) → P simple
  each_simple rolled simple =
      ind-Simple P AnyCompound
      (λ x part is. subst (λ z. P (roll-Simple z)) is (rolled (map-Simple KnownSimple KnownCompound Simple Compound (λ e. e.0) (λ e. e.0) part)))
      (λ x part is. tt)
      simple

-- what one of the slots of an element passes
module _ (test : Slot → Bool) where
  one_slot : (make : List ℕ → Slot) (found : Option (List ℕ)) → list_any test (option_to_list (option_map make found)) ≡ option_map_or (λ name. test (make name)) found false
  one_slot make None = refl
  one_slot make (Some name) = or_false (test (make name))

  word_slots : (found : Option (List ℕ)) → list_any test (option_map_or (λ text. map Class (parts text)) found []) ≡ option_map_or (λ text. list_any (λ word. test (Class word)) (parts text)) found false
  word_slots None = refl
  word_slots (Some text) = any_map test Class (parts text)

  pub any_slot : (name id class : Option (List ℕ)) → list_any test (slots_with name id class)
      ≡ (test Other || (option_map_or (λ one. test (Name one)) name false || (option_map_or (λ one. test (Id one)) id false || option_map_or (λ text. list_any (λ word. test (Class word)) (parts text)) class false)))
  any_slot name id class =
      let names = option_to_list (option_map Name name) in
      let ids = option_to_list (option_map Id id) in
      let words = option_map_or (λ text. map Class (parts text)) class [] in
      ap (λ b. test Other || b) (any_append test names (ids ++ words)
      ∙ ap (λ b. list_any test names || b) (any_append test ids words)
      ∙ ap (λ b. b || (list_any test ids || list_any test words)) (one_slot Name name)
      ∙ ap (λ b. option_map_or (λ one. test (Name one)) name false || (b || list_any test words)) (one_slot Id id)
      ∙ ap (λ b. option_map_or (λ one. test (Name one)) name false || (option_map_or (λ one. test (Id one)) id false || b)) (word_slots class))

module _ (standing : Standing) where
  abbrev name_here : List ℕ
  name_here = standing.level.element.name

  abbrev id_here : Option (List ℕ)
  id_here = value_of (codes "id") standing.level.element.attrs

  abbrev class_here : Option (List ℕ)
  class_here = value_of (codes "class") standing.level.element.attrs

  abbrev pub is_there : Slot → Bool
  is_there slot = list_any (is_same_slot slot) (slots_with (Some name_here) id_here class_here)

  by_name : (name : List ℕ) → bytes_eq name_here name ≡ true → is_there (Name name) ≡ true
  by_name name h = any_slot (is_same_slot (Name name)) (Some name_here) id_here class_here ∙ or_left _ _ (swapped name name_here ∙ h)

  id_there : (name : List ℕ) (found : Option (List ℕ)) → option_map_or (λ value. bytes_eq value name) found false ≡ true → option_map_or (λ one. bytes_eq name one) found false ≡ true
  id_there name None h = h
  id_there name (Some value) h = swapped name value ∙ h

  by_id : (name : List ℕ) → has_attr standing.level.element (codes "id") (λ value. bytes_eq value name) ≡ true → is_there (Id name) ≡ true
  by_id name h = any_slot (is_same_slot (Id name)) (Some name_here) id_here class_here ∙ or_left _ _ (id_there name id_here h)

  word_there : (name : List ℕ) (found : Option (List ℕ)) → option_map_or (λ value. has_word value name) found false ≡ true → option_map_or (λ text. list_any (λ word. bytes_eq name word) (parts text)) found false ≡ true
  word_there name None h = h
  word_there name (Some value) h = (and_parts (not (length name == 0)) (list_any (bytes_eq name) (parts value)) h).1

  by_class : (name : List ℕ) → has_attr standing.level.element (codes "class") (λ value. has_word value name) ≡ true → is_there (Class name) ≡ true
  by_class name h = any_slot (is_same_slot (Class name)) (Some name_here) id_here class_here ∙ or_right _ _ (word_there name class_here h)

  -- what matches a simple selector is looked up in its slot
  abbrev IsFound : Simple → Type 0
  IsFound simple = matches_simple standing simple ≡ true → is_there (slot_of simple) ≡ true

  abbrev compound_slot : Compound → Slot
  compound_slot compound = fold-Compound Slot Slot slot_in (λ compound. Other) compound

  part_found : (part : Simple-F Simple Compound) → simple_matches standing (map-Simple Simple Compound Bool Bool (matches_simple standing) (matches_compound standing) part) ≡ true
      → is_there (slot_in (map-Simple Simple Compound Slot Slot slot_of compound_slot part)) ≡ true
  part_found Simple-F.Any h = refl
  part_found (Simple-F.Element name) h = by_name name h
  part_found (Simple-F.Id name) h = by_id name h
  part_found (Simple-F.Class name) h = by_class name h
  part_found Simple-F.Root h = refl
  part_found Simple-F.Empty h = refl
  part_found Simple-F.Never h = refl
  part_found (Simple-F.Attr name test value fold) h = refl
  part_found (Simple-F.Only same_type) h = refl
  part_found (Simple-F.Nth a b from_end same_type) h = refl
  part_found (Simple-F.Is choices) h = refl
  part_found (Simple-F.Weightless choices) h = refl
  part_found (Simple-F.Not choices) h = refl

  rolled : (part : Simple-F Simple Compound) → IsFound (roll-Simple part)
  rolled part h =
      ap is_there (fold-roll-Simple Slot Slot slot_in (λ compound. Other) part)
      ∙ part_found part (sym (fold-roll-Simple Bool Bool (simple_matches standing) compound_matches part) ∙ h)

  found : (simple : Simple) → IsFound simple
  found = each_simple IsFound rolled

  one_there : (first : Bool) (held next : Slot) → is_there held ≡ true → is_there next ≡ true → is_there (cond first next held) ≡ true
  one_there true held next h k = k
  one_there false held next h k = h

  narrowest_there : (held : Slot) (simples : List Simple) → is_there held ≡ true → list_all (matches_simple standing) simples ≡ true → is_there (narrowest_with held simples) ≡ true
  narrowest_there held [] h all = h
  narrowest_there held (simple ∷ simples) h all =
      let both = and_parts (matches_simple standing simple) (list_all (matches_simple standing) simples) all in
      narrowest_there (narrower held (slot_of simple)) simples (one_there (nat_lt (breadth (slot_of simple)) (breadth held)) held (slot_of simple) h (found simple both.0)) both.1

  last_there : (compounds : List Compound) (joins : List Join) → matches_from compounds joins standing ≡ true → is_there (slot_by compounds) ≡ true
  last_there [] joins h = absurd (cc)
  last_there (last ∷ compounds) joins h =
      narrowest_there Other last.simples refl (sym (compound-simples standing last) ∙ (and_parts (matches_compound standing last) (matches_before joins compounds standing) h).0)

  pub matching_there : (selector : Selector) → matches_complex selector standing ≡ true → is_there (filed_under selector) ≡ true
  matching_there selector h = last_there (reverse selector.compounds) (reverse selector.joins) h
