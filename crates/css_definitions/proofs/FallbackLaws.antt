-- Chains of fallbacks end, at the latest at `decimal`. The definition keeps the names that were tried;
-- a walk along the table that keeps none, and takes as many turns as there are styles, gives the same.
use Rattle.std.proofs.Common.{◌≡◌, ◌≢◌, ◌+◌, ◌-◌, ◌∷◌, ◌||◌, ◌<◌, ◌≤◌, ◌^◌, ℕ, zero, suc, ℤ, List, [], Bool, true, false, Option, Some, None, unwrap_or, cond, length, map, get_or, nat_eq, unsigned_abs, refl, sym, ap, ◌∙◌, arith, inl, inr, add-one}
use Rattle.std.specs.Fmt.{signed_decimal}
use Rattle.std.specs.List.{AllPairs, list_any, range_with_len, slice_get}
use Rattle.std.specs.Option.{option_and_then, option_map_or}
use Rattle.std.specs.Str.{bytes_eq}
use Rattle.std.proofs.lemmas.Bool.{cases_Bool, cases_eq, cases_order, eq-eqb, eqb-true, ne_eqb, or_left, or_right, false_from_ne_true}
use Rattle.std.proofs.lemmas.List.FromFn.{length-range_with_len}
use Rattle.std.proofs.lemmas.List.Quantifiers.{position-Some}
use Rattle.std.proofs.lemmas.Option.{slice_get-get_or, slice_get_within, get_or_from_slice_get}
use Rattle.std.proofs.lemmas.Slice.Eq.{bytes_eq-Decides}
use Rattle.plain_types.specs.declared.counter_style.CounterStyle.{CounterStyle}
use Rattle.plain_types.specs.declared.style_ref.Anonymous.{Anonymous}
use Rattle.plain_types.specs.StyleNames.{style_name}
use Rattle.plain_types.specs.Table.{IsTable, decimal_style, place_named, style_named}
use Rattle.css_definitions.specs.Representation.{written, next_style, represented_within, represented, anonymous_style}
use Rattle.css_definitions.proofs.Chains.{cases_option, goes, is_met, by_met, by_turns, by_turns-by_met}
use Rattle.css_definitions.proofs.DecimalLaws.{written-decimal}

cond_none : {A : Type 0} (b : Bool) → cond {A = Option A} b None None ≡ None
cond_none true = refl
cond_none false = refl

module _ (table : List CounterStyle) (value : ℤ) where
  -- what the style at a place writes, and the place of its fallback
  abbrev pub attempt : ℕ → Option (List ℕ)
  attempt place = option_and_then (λ style. written style value) (slice_get table place)

  abbrev pub next : ℕ → Option ℕ
  next place = option_and_then (λ (style : CounterStyle). place_named table style.fallback) (slice_get table place)

  -- the walk from a place on, in so many turns
  abbrev pub walked : ℕ → ℕ → List ℕ
  walked turns place = by_turns attempt next (signed_decimal value) turns place

  attempt_at : (place : ℕ) (style : CounterStyle) → slice_get table place ≡ Some style → attempt place ≡ written style value
  attempt_at place style at = ap (option_and_then (λ s. written s value)) at

  next_at : (place : ℕ) (style : CounterStyle) → slice_get table place ≡ Some style → next place ≡ place_named table style.fallback
  next_at place style at = ap (option_and_then (λ (s : CounterStyle). place_named table s.fallback)) at

  -- a turn: the style writes, or leaves the value to its fallback, or to `decimal` where there is none
  pub walked-writes : (turns place : ℕ) (style : CounterStyle) (text : List ℕ) → 0 < turns → slice_get table place ≡ Some style → written style value ≡ Some text → walked turns place ≡ text
  walked-writes zero place style text some at e = absurd (omega arith)
  walked-writes (suc turns) place style text some at e =
      ap (λ answer. goes answer (λ own. own) (goes (next place) (walked turns) (signed_decimal value))) (attempt_at place style at ∙ e)

  pub walked-follows : (turns place other : ℕ) (style : CounterStyle) → 0 < turns → slice_get table place ≡ Some style → written style value ≡ None → place_named table style.fallback ≡ Some other → walked turns place ≡ walked (turns - 1) other
  walked-follows zero place other style some at e f = absurd (omega arith)
  walked-follows (suc turns) place other style some at e f =
      ap (λ answer. goes answer (λ own. own) (goes (next place) (walked turns) (signed_decimal value))) (attempt_at place style at ∙ e)
      ∙ ap (λ after. goes after (walked turns) (signed_decimal value)) (next_at place style at ∙ f)
      ∙ ap (λ n. walked n other) (omega arith)

  pub walked-ends : (turns place : ℕ) (style : CounterStyle) → 0 < turns → slice_get table place ≡ Some style → written style value ≡ None → place_named table style.fallback ≡ None → walked turns place ≡ signed_decimal value
  walked-ends zero place style some at e f = absurd (omega arith)
  walked-ends (suc turns) place style some at e f =
      ap (λ answer. goes answer (λ own. own) (goes (next place) (walked turns) (signed_decimal value))) (attempt_at place style at ∙ e)
      ∙ ap (λ after. goes after (walked turns) (signed_decimal value)) (next_at place style at ∙ f)

  pub walked-none : (turns place : ℕ) → turns ≡ 0 → walked turns place ≡ signed_decimal value
  walked-none turns place e = ap (λ n. walked n place) e

  abbrev name_at : ℕ → List ℕ
  name_at place = goes (slice_get table place) (λ style. style.name) []

  -- the style that is found under a name has that name
  found_name : (name : List ℕ) (place : ℕ) (style : CounterStyle) → place_named table name ≡ Some place → slice_get table place ≡ Some style → style.name ≡ style_name name
  found_name name place style e at =
      let facts = position-Some (λ (s : CounterStyle). bytes_eq s.name (style_name name)) table place style e in
      let same : get_or table place style ≡ style = get_or_from_slice_get table place style style at in
      (bytes_eq-Decides style.name (style_name name)).0 (ap (λ (s : CounterStyle). bytes_eq s.name (style_name name)) (sym same) ∙ facts.1)

  pub found_within : (name : List ℕ) (place : ℕ) → place_named table name ≡ Some place → place < length table
  found_within name place e = (position-Some (λ (s : CounterStyle). bytes_eq s.name (style_name name)) table place decimal_style e).0

  found_at : (name : List ℕ) (place : ℕ) → place_named table name ≡ Some place → (style : CounterStyle) × (slice_get table place ≡ Some style)
  found_at name place e =
      (get_or table place decimal_style, slice_get-get_or table place decimal_style (found_within name place e))

  module _ (distinct : AllPairs (λ (first second : CounterStyle). first.name ≢ second.name) table) where
    -- two places have one name only where they are one
    differ : (p q : ℕ) (a b : CounterStyle) → slice_get table p ≡ Some a → slice_get table q ≡ Some b → p < q → a.name ≢ b.name
    differ p q a b at there h e =
        distinct p q a h (slice_get_within table q b there)
        (ap (λ (s : CounterStyle). s.name) (get_or_from_slice_get table p a a at) ∙ e ∙ sym (ap (λ (s : CounterStyle). s.name) (get_or_from_slice_get table q b a there)))

    same_name : (p q : ℕ) (a b : CounterStyle) → slice_get table p ≡ Some a → slice_get table q ≡ Some b → bytes_eq b.name a.name ≡ nat_eq p q
    same_name p q a b at there = elim (cases_order p q) [
      | inl same ↦
          let one : Some b ≡ Some a = sym there ∙ ap (slice_get table) (sym same) ∙ at in
          let style : b ≡ a = cc in
          (bytes_eq-Decides b.name a.name).1 (ap (λ (s : CounterStyle). s.name) style) ∙ sym (eq-eqb p q same)
      | inr (inl h) ↦
          false_from_ne_true (bytes_eq b.name a.name) (λ e. differ p q a b at there h (sym ((bytes_eq-Decides b.name a.name).0 e)))
          ∙ sym (ne_eqb p q (λ same. omega arith))
      | inr (inr h) ↦
          false_from_ne_true (bytes_eq b.name a.name) (λ e. differ q p b a there at h ((bytes_eq-Decides b.name a.name).0 e))
          ∙ sym (ne_eqb p q (λ same. omega arith))
    ]

    abbrev AreIn : List ℕ → Type 0
    AreIn [] = Unit {0}
    AreIn (p ∷ places) = (p < length table) × AreIn places

    name_of : (p : ℕ) (style : CounterStyle) → slice_get table p ≡ Some style → name_at p ≡ style.name
    name_of p style at = ap (λ found. goes found (λ (s : CounterStyle). s.name) []) at

    tried_is : (places : List ℕ) (q : ℕ) (b : CounterStyle) → AreIn places → slice_get table q ≡ Some b → list_any (bytes_eq b.name) (map name_at places) ≡ is_met nat_eq places q
    tried_is [] q b within there = refl
    tried_is (p ∷ places) q b within there =
        let at : slice_get table p ≡ Some (get_or table p b) = slice_get-get_or table p b within.0 in
        ap (λ name. bytes_eq b.name name || list_any (bytes_eq b.name) (map name_at places)) (name_of p (get_or table p b) at)
        ∙ ap (λ here. here || list_any (bytes_eq b.name) (map name_at places)) (same_name p q (get_or table p b) b at there)
        ∙ ap (λ rest. nat_eq p q || rest) (tried_is places q b within.1 there)

    -- the definition, by places
    within_by_met : (turns : ℕ) (met : List ℕ) (p : ℕ) (style : CounterStyle) → AreIn met → slice_get table p ≡ Some style
        → represented_within table turns (map name_at met) style value ≡ by_met attempt next (signed_decimal value) nat_eq turns met p
    within_by_met zero met p style within at = refl
    within_by_met (suc turns) met p style within at =
        let left : Option (List ℕ) → Option CounterStyle → List ℕ = λ text after. unwrap_or text (option_map_or (λ other. represented_within table turns (style.name ∷ map name_at met) other value) after (signed_decimal value)) in
        let right : Option (List ℕ) → Option ℕ → List ℕ = λ text after. goes text (λ answer. answer) (goes after (λ other. cond (is_met nat_eq (p ∷ met) other) (signed_decimal value) (by_met attempt next (signed_decimal value) nat_eq turns (p ∷ met) other)) (signed_decimal value)) in
        let joined : right (attempt p) (next p) ≡ right (written style value) (place_named table style.fallback) = ap (λ text. right text (next p)) (attempt_at p style at) ∙ ap (right (written style value)) (next_at p style at) in
        elim (cases_option (written style value)) [
          | inr (text, e) ↦ ap (λ text. left text (next_style table (style.name ∷ map name_at met) style)) e ∙ sym (joined ∙ ap (λ text. right text (place_named table style.fallback)) e)
          | inl none ↦
              ap (λ text. left text (next_style table (style.name ∷ map name_at met) style)) none
              ∙ elim (cases_option (place_named table style.fallback)) [
                | inl e ↦
                    ap (left None) (ap (λ place. cond (list_any (bytes_eq (style_name style.fallback)) (style.name ∷ map name_at met)) None (option_and_then (slice_get table) place)) e ∙ cond_none (list_any (bytes_eq (style_name style.fallback)) (style.name ∷ map name_at met)))
                    ∙ sym (ap (right None) e)
                | inr (q, e) ↦
                    let found = found_at style.fallback q e in
                    let own : name_at p ≡ style.name = name_of p style at in
                    let inside : AreIn (p ∷ met) = (slice_get_within table p style at, within) in
                    let tried : list_any (bytes_eq (style_name style.fallback)) (style.name ∷ map name_at met) ≡ is_met nat_eq (p ∷ met) q =
                    ap (λ name. list_any (bytes_eq name) (style.name ∷ map name_at met)) (sym (found_name style.fallback q found.0 e found.1))
                    ∙ ap (λ name. list_any (bytes_eq found.0.name) (name ∷ map name_at met)) (sym own)
                    ∙ tried_is (p ∷ met) q found.0 inside found.1 in
                    let following : next_style table (style.name ∷ map name_at met) style ≡ cond (is_met nat_eq (p ∷ met) q) None (Some found.0) =
                    ap (λ is_tried. cond is_tried None (style_named table style.fallback)) tried
                    ∙ ap (λ other. cond (is_met nat_eq (p ∷ met) q) None other) (ap (option_and_then (slice_get table)) e ∙ found.1) in
                    ap (left None) following
                    ∙ elim (cases_Bool (is_met nat_eq (p ∷ met) q)) [
                      | inl h ↦ rw h refl
                      | inr h ↦ rw h (ap (λ name. represented_within table turns (name ∷ map name_at met) found.0 value) (sym own) ∙ within_by_met turns (p ∷ met) q found.0 inside found.1)
                    ]
                    ∙ sym (ap (right None) e)
              ]
              ∙ sym (joined ∙ ap (λ text. right text (place_named table style.fallback)) none)
        ]

    numbered : (a n q : ℕ) → a ≤ q → q < a + n → is_met nat_eq (range_with_len a n) q ≡ true
    numbered a zero q h k = absurd (omega arith)
    numbered a (suc n) q h k = elim (cases_eq a q) [
      | inl e ↦ or_left (nat_eq a q) (is_met nat_eq (range_with_len (a + 1) n) q) (eq-eqb a q e)
      | inr e ↦ or_right (nat_eq a q) (is_met nat_eq (range_with_len (a + 1) n) q) (numbered (a + 1) n q (omega arith) (omega arith))
    ]

    next_within : (p q : ℕ) → next p ≡ Some q → q < length table
    next_within p q e = elim (cases_option (slice_get table p)) [
      | inl none ↦ let no : None ≡ Some q = sym (ap (option_and_then (λ (s : CounterStyle). place_named table s.fallback)) none) ∙ e in absurd (cc)
      | inr (style, at) ↦ found_within style.fallback q (sym (next_at p style at) ∙ e)
    ]

    -- as many turns as there are styles are enough
    pub walked-represented : (p : ℕ) (style : CounterStyle) → slice_get table p ≡ Some style → walked (length table) p ≡ represented table style value
    walked-represented p style at =
        by_turns-by_met nat_eq (λ a b e. eqb-true a b e) (λ a. eq-eqb a a refl) attempt next (signed_decimal value) (range_with_len 0 (length table))
        (λ k q e. numbered 0 (length table) q (omega arith) (omega (arith, next_within k q e)))
        (length table + 1) (length table) p (numbered 0 (length table) p (omega arith) (omega (arith, slice_get_within table p style at)))
        (omega (arith, length-range_with_len 0 (length table))) (omega (arith, length-range_with_len 0 (length table)))
        ∙ sym (within_by_met (length table + 1) [] p style tt at)

  -- `decimal` writes the value itself, however many styles may still be tried
  pub represented-decimal : (styles : ℕ) (tried : List (List ℕ)) → unsigned_abs value < 2 ^ 64 → represented_within table styles tried decimal_style value ≡ signed_decimal value
  represented-decimal zero tried h = refl
  represented-decimal (suc styles) tried h = rw (written-decimal value h) refl

  -- a style of `symbols()` that does not write the value leaves it to `decimal`
  pub represented-anonymous : (anonymous : Anonymous) → IsTable table → unsigned_abs value < 2 ^ 64
      → represented table (anonymous_style anonymous) value ≡ unwrap_or (written (anonymous_style anonymous) value) (signed_decimal value)
  represented-anonymous anonymous sound h =
      ap (λ styles. represented_within table styles [] (anonymous_style anonymous) value) (add-one (length table))
      ∙ ap (λ after. unwrap_or (written (anonymous_style anonymous) value) (option_map_or (λ other. represented_within table (length table) ([] ∷ []) other value) after (signed_decimal value))) sound.decimal
      ∙ ap (unwrap_or (written (anonymous_style anonymous) value)) (represented-decimal (length table) ([] ∷ []) h)
