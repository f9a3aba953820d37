-- The rules that are looked at for an element declare what all rules do.
use Rattle.std.proofs.Common.{◌≡◌, ◌∙◌, ◌++◌, Bool, true, false, cond, List, [], ◌∷◌, filter, map, flat_map, codes, Option, Some, None, IsSome, option_map, unwrap_or, refl, sym, ap, inl, inr, true≢false}
use Rattle.std.specs.List.{list_any}
use Rattle.std.specs.Option.{option_map_or}
use Rattle.std.proofs.lemmas.Bool.{and_parts, cases_Bool, or_parts, false_from_ne_true}
use Rattle.plain_types.specs.Attributes.{value_of}
use Rattle.plain_types.specs.declared.selector.Selector.{Selector}
use Rattle.plain_types.specs.declared.sheet.StyleRule.{StyleRule}
use Rattle.node_arena.specs.Nodes.{attrs_of}
use Rattle.selector_match.specs.Elements.{standing_of}
use Rattle.selector_match.specs.Machinery.Lookups.{IsElement, standing_at}
use Rattle.selector_match.specs.Matching.{matches, matches_complex}
use Rattle.selector_match.proofs.StandingLaws.{element-attrs, element-name, stands-there}
use Rattle.selector_match.proofs.StepLaws.{matches-there}
use Rattle.selectors.specs.Specificity.{is_less, specificity}
use Rattle.mini_cascade.specs.Declarations.{declared_in, declared_with, selects, is_same}
use Rattle.mini_cascade.specs.Greatest.{greatest}
use Rattle.mini_cascade.specs.RuleTables.{CandidatesDeclareAll, MatchingAreLookedAt, filed_under, is_looked_at, is_same_slot, slots_with}
use Rattle.mini_cascade.proofs.SlotLaws.{is_there, matching_there}

some_there : {A : Type 0} (test : A → Bool) (found : Option A) → option_map_or test found false ≡ true → IsSome found
some_there test None h = absurd (true≢false (sym h))
some_there test (Some a) h = refl

pub matching_are_looked_at : MatchingAreLookedAt
matching_are_looked_at tree key selector document live h =
    let some : IsElement tree key = some_there (matches_complex selector) (standing_of tree key) h in
    let standing = standing_at tree key in
    let there : is_there standing (filed_under selector) ≡ true = matching_there standing selector (sym (matches-there tree key selector standing (stands-there tree key some)) ∙ h) in
    let attrs = element-attrs tree document key live some in
    ap (λ name. list_any (is_same_slot (filed_under selector)) (slots_with name (value_of (codes "id") (attrs_of tree key)) (value_of (codes "class") (attrs_of tree key)))) (element-name tree document key live some)
    ∙ ap (λ all. list_any (is_same_slot (filed_under selector)) (slots_with (Some standing.level.element.name) (value_of (codes "id") all) (value_of (codes "class") all))) attrs
    ∙ there

-- what only some items give, all give
only_some : {A B : Type 0} (test : A → Bool) (gives : A → List B) → ((a : A) → test a ≡ false → gives a ≡ []) → (all : List A) → flat_map gives (filter test all) ≡ flat_map gives all
only_some test gives others [] = refl
only_some test gives others (a ∷ all) = elim (cases_Bool (test a)) [
  | inl h ↦ ap (λ b. flat_map gives (cond b (a ∷ filter test all) (filter test all))) h ∙ ap (λ xs. gives a ++ xs) (only_some test gives others all)
  | inr h ↦
      ap (λ b. flat_map gives (cond b (a ∷ filter test all) (filter test all))) h
      ∙ only_some test gives others all
      ∙ ap (λ xs. xs ++ flat_map gives all) (sym (others a h))
]

-- where none passes one test, and what passes the other passes it too, none passes the other
none_pass : {A : Type 0} (test other : A → Bool) → ((a : A) → other a ≡ true → test a ≡ true) → (all : List A) → list_any test all ≡ false → filter other all ≡ []
none_pass test other implies [] none = refl
none_pass test other implies (a ∷ all) none =
    let both = or_parts (test a) (list_any test all) none in
    let fails : other a ≡ false = false_from_ne_true (other a) (λ h. true≢false (sym (implies a h) ∙ both.0)) in
    ap (λ b. cond b (a ∷ filter other all) (filter other all)) fails ∙ none_pass test other implies all both.1

pub candidates_declare_all : CandidatesDeclareAll
candidates_declare_all tree key pseudo origin rules document live =
    only_some (λ (rule : StyleRule). list_any (is_looked_at tree key) rule.selectors) (declared_in tree key pseudo origin)
    (λ (rule : StyleRule) none.
    ap (λ selectors. unwrap_or (option_map (declared_with pseudo origin rule.declared) (greatest is_less (map specificity selectors))) [])
    (none_pass (is_looked_at tree key) (selects tree key pseudo)
    (λ (selector : Selector) h. matching_are_looked_at tree key selector document live (and_parts (is_same selector.pseudo pseudo) (matches tree key selector) h).1)
    rule.selectors none))
    rules
