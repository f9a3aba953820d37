-- The selectors of a sheet look at no more than its features.
use Rattle.std.proofs.Common.{◌≡◌, Bool, true, List, [], ◌∷◌, map, refl, ◌∙◌}
use Rattle.std.specs.List.{list_any, AllByRecursion}
use Rattle.plain_types.specs.declared.selector.Compound.{Compound}
use Rattle.plain_types.specs.declared.selector.Selector.{Selector}
use Rattle.plain_types.specs.declared.sheet.Features.{Features}
use Rattle.plain_types.specs.declared.sheet.Sheet.{Sheet}
use Rattle.plain_types.specs.declared.sheet.StyleRule.{StyleRule}
use Rattle.css_reader.specs.Features.{any_true, features, is_sibling_join, joins_siblings, some_selector}
use Rattle.style_reach.specs.Reaches.{all_features}
use Rattle.style_reach.proofs.Seen.{FitsCompound, FitsRule, FitsSelector, compound_looks, emptiness_by_choices, position_by_choices, selector_looks}
use Rattle.style_reach.proofs.TestLaws.{or-first, or-second}

-- where one that passes makes this so, each that passes does
any-each : {A : Type 0} (p : A → Bool) (b : Bool) (xs : List A) → (list_any p xs ≡ true → b ≡ true) → AllByRecursion (λ x. p x ≡ true → b ≡ true) xs
any-each p b [] h = tt
any-each p b (x ∷ xs) h = (λ is. h (or-first (p x) (list_any p xs) is), any-each p b xs (λ is. h (or-second (p x) (list_any p xs) is)))

module _ (all : Features) where
  compounds-fit : (compounds : List Compound) → (any_true (map (compound_looks position_by_choices) compounds) ≡ true → all.positions ≡ true)
      → (any_true (map (compound_looks emptiness_by_choices) compounds) ≡ true → all.empties ≡ true) → AllByRecursion (FitsCompound all) compounds
  compounds-fit [] p e = tt
  compounds-fit (compound ∷ compounds) p e = (
    record { position = λ h. p (or-first _ _ h); emptiness = λ h. e (or-first _ _ h) },
    compounds-fit compounds (λ h. p (or-second (compound_looks position_by_choices compound) _ h)) (λ h. e (or-second (compound_looks emptiness_by_choices compound) _ h)),
  )

  selectors-fit : (selectors : List Selector) → (list_any joins_siblings selectors ≡ true → all.siblings ≡ true) → (list_any (selector_looks position_by_choices) selectors ≡ true → all.positions ≡ true)
      → (list_any (selector_looks emptiness_by_choices) selectors ≡ true → all.empties ≡ true) → AllByRecursion (FitsSelector all) selectors
  selectors-fit [] s p e = tt
  selectors-fit (selector ∷ selectors) s p e = (
    record {
      joins = any-each is_sibling_join all.siblings selector.joins (λ h. s (or-first _ _ h));
      compounds = compounds-fit selector.compounds (λ h. p (or-first _ _ h)) (λ h. e (or-first _ _ h));
    },
    selectors-fit selectors (λ h. s (or-second (joins_siblings selector) _ h))
        (λ h. p (or-second (selector_looks position_by_choices selector) _ h)) (λ h. e (or-second (selector_looks emptiness_by_choices selector) _ h)),
  )

  rules-fit : (rules : List StyleRule) → (some_selector joins_siblings rules ≡ true → all.siblings ≡ true) → (some_selector (selector_looks position_by_choices) rules ≡ true → all.positions ≡ true)
      → (some_selector (selector_looks emptiness_by_choices) rules ≡ true → all.empties ≡ true) → AllByRecursion (FitsRule all) rules
  rules-fit [] s p e = tt
  rules-fit (rule ∷ rules) s p e = (
    selectors-fit rule.selectors (λ h. s (or-first _ _ h)) (λ h. p (or-first _ _ h)) (λ h. e (or-first _ _ h)),
    rules-fit rules (λ h. s (or-second (list_any joins_siblings rule.selectors) _ h))
        (λ h. p (or-second (list_any (selector_looks position_by_choices) rule.selectors) _ h)) (λ h. e (or-second (list_any (selector_looks emptiness_by_choices) rule.selectors) _ h)),
  )

-- the features of a sheet, by what its selectors look at
positions-are : (sheet : Sheet) → (features sheet).positions ≡ some_selector (selector_looks position_by_choices) sheet.rules
positions-are sheet = refl

empties-are : (sheet : Sheet) → (features sheet).empties ≡ some_selector (selector_looks emptiness_by_choices) sheet.rules
empties-are sheet = refl

-- those of both sheets are enough for each
pub agent-fits : (agent author : Sheet) → AllByRecursion (FitsRule (all_features agent author)) agent.rules
agent-fits agent author =
    rules-fit (all_features agent author) agent.rules (λ h. or-first _ _ h) (λ h. or-first _ _ (positions-are agent ∙ h)) (λ h. or-first _ _ (empties-are agent ∙ h))

pub author-fits : (agent author : Sheet) → AllByRecursion (FitsRule (all_features agent author)) author.rules
author-fits agent author =
    rules-fit (all_features agent author) author.rules (λ h. or-second (features agent).siblings _ h)
    (λ h. or-second (features agent).positions _ (positions-are author ∙ h)) (λ h. or-second (features agent).empties _ (empties-are author ∙ h))
