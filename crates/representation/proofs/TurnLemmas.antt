-- A chain of fallbacks tries no name twice, so it tries no more styles than the table has, and the first.
use Rattle.std.proofs.Common.{◌≡◌, ◌+◌, ◌∷◌, ◌||◌, ◌<◌, ◌≤◌, ℕ, zero, suc, ℤ, List, [], Bool, true, false, Some, None, cond, length, map, get_or, unwrap_or, refl, sym, ap, ◌∙◌, arith, inl, inr}
use Rattle.std.specs.List.{list_any, slice_get}
use Rattle.std.specs.Option.{option_and_then}
use Rattle.std.specs.Str.{bytes_eq}
use Rattle.std.proofs.lemmas.Bool.{cases_Bool, or_left, or_right}
use Rattle.std.proofs.lemmas.List.{length-map}
use Rattle.std.proofs.lemmas.List.Quantifiers.{position-Some}
use Rattle.std.proofs.lemmas.Option.{slice_get-get_or}
use Rattle.std.proofs.lemmas.Slice.Eq.{bytes_eq-Decides}
use Rattle.plain_types.specs.declared.counter_style.CounterStyle.{CounterStyle}
use Rattle.plain_types.specs.StyleNames.{style_name}
use Rattle.plain_types.specs.Table.{place_named, style_named}
use Rattle.css_definitions.specs.Representation.{written, next_style, represented_within, represented}
use Rattle.css_definitions.proofs.Chains.{cases_option, is_met, unmet, unmet-falls}

-- a name among those that were tried, as the definition compares them
abbrev same : List ℕ → List ℕ → Bool
same tried name = bytes_eq name tried

same_is : (a b : List ℕ) → same a b ≡ true → a ≡ b
same_is a b e = sym ((bytes_eq-Decides b a).0 e)

same_itself : (a : List ℕ) → same a a ≡ true
same_itself a = (bytes_eq-Decides a a).1 refl

tried_is : (tried : List (List ℕ)) (name : List ℕ) → list_any (bytes_eq name) tried ≡ is_met same tried name
tried_is [] name = refl
tried_is (other ∷ tried) name = ap (λ rest. bytes_eq name other || rest) (tried_is tried name)

abbrev left : List (List ℕ) → List (List ℕ) → ℕ
left tried names = unmet same same_is same_itself tried names

left-le : (tried names : List (List ℕ)) → left tried names ≤ length names
left-le tried [] = omega arith
left-le tried (name ∷ names) = elim (cases_Bool (is_met same tried name)) [
  | inl e ↦ rw e (omega (arith, left-le tried names))
  | inr e ↦ rw e (omega (arith, left-le tried names))
]

no_style : {A : Type 0} {a : A} → None ≡ Some a → ⊥
no_style e = cc

module _ (table : List CounterStyle) (value : ℤ) where
  abbrev names : List (List ℕ)
  names = map (λ (style : CounterStyle). style.name) table

  among : (styles : List CounterStyle) (place : ℕ) (style : CounterStyle) → place < length styles → is_met same (map (λ (s : CounterStyle). s.name) styles) (get_or styles place style).name ≡ true
  among [] place style h = absurd (omega arith)
  among (first ∷ styles) zero style h = or_left (bytes_eq first.name first.name) (is_met same (map (λ (s : CounterStyle). s.name) styles) first.name) (same_itself first.name)
  among (first ∷ styles) (suc place) style h =
      let name = (get_or styles place style).name in
      or_right (bytes_eq name first.name) (is_met same (map (λ (s : CounterStyle). s.name) styles) name) (among styles place style (omega arith))

  -- the style that is found under a name has that name, which is one of the table's
  found_under : (name : List ℕ) (style : CounterStyle) → style_named table name ≡ Some style → (style.name ≡ style_name name) × (is_met same names style.name ≡ true)
  found_under name style e = elim (cases_option (place_named table name)) [
    | inl none ↦ absurd (no_style (sym (ap (option_and_then (slice_get table)) none) ∙ e))
    | inr (place, there) ↦
        let facts = position-Some (λ (s : CounterStyle). bytes_eq s.name (style_name name)) table place style there in
        let at : Some (get_or table place style) ≡ Some style = sym (slice_get-get_or table place style facts.0) ∙ sym (ap (option_and_then (slice_get table)) there) ∙ e in
        let it : get_or table place style ≡ style = cc in (
          ap (λ (s : CounterStyle). s.name) (sym it) ∙ (bytes_eq-Decides (get_or table place style).name (style_name name)).0 facts.1,
          ap (λ (s : CounterStyle). is_met same names s.name) (sym it) ∙ among table place style facts.0,
        )
  ]

  -- the next style has a name that was not tried
  next_is : (tried : List (List ℕ)) (style next : CounterStyle) → next_style table tried style ≡ Some next → (is_met same tried next.name ≡ false) × (is_met same names next.name ≡ true)
  next_is tried style next e = elim (cases_Bool (list_any (bytes_eq (style_name style.fallback)) tried)) [
    | inl met ↦ absurd (no_style (sym (ap (λ b. cond b None (style_named table style.fallback)) met) ∙ e))
    | inr new ↦
        let found = found_under style.fallback next (sym (ap (λ b. cond b None (style_named table style.fallback)) new) ∙ e) in
        (ap (is_met same tried) found.0 ∙ sym (tried_is tried (style_name style.fallback)) ∙ new, found.1)
  ]

  enough : (turns m : ℕ) (tried : List (List ℕ)) (style : CounterStyle) → left (style.name ∷ tried) names < turns → left (style.name ∷ tried) names < m
      → represented_within table turns tried style value ≡ represented_within table m tried style value
  enough zero m tried style h k = absurd (omega arith)
  enough (suc turns) zero tried style h k = absurd (omega arith)
  enough (suc turns) (suc m) tried style h k = elim (cases_option (next_style table (style.name ∷ tried) style)) [
    | inl none ↦ rw none refl
    | inr (next, e) ↦
        let facts = next_is (style.name ∷ tried) style next e in
        let fell = unmet-falls same same_is same_itself (style.name ∷ tried) names next.name facts.0 facts.1 in
        rw e (ap (unwrap_or (written style value)) (enough turns m (style.name ∷ tried) next (omega (arith, fell, h)) (omega (arith, fell, k))))
  ]

  pub turns-enough : (style : CounterStyle) (more : ℕ) → represented_within table (length table + 1 + more) [] style value ≡ represented table style value
  turns-enough style more =
      let few = left-le (style.name ∷ []) names in
      let long = length-map table (λ (s : CounterStyle). s.name) in
      enough (length table + 1 + more) (length table + 1) [] style (omega (arith, few, long)) (omega (arith, few, long))
