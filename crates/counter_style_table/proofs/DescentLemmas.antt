-- The way down along `extends`.
use Rattle.std.proofs.Common.{◌≡◌, ◌∷◌, ◌==◌, ◌||◌, ◌<◌, ℕ, List, [], Bool, true, false, Option, Some, None, length, get_or, set, unwrap_or, refl, sym, ap, ◌∙◌, arith, inl, inr, ◌⊎◌}
use Rattle.std.proofs.Math.ListN.{length-set}
use Rattle.std.proofs.lemmas.Bool.{cases_eq, or_cases, or_parts, or_left, or_right, both_ways, eqb-true, eq-eqb, ne_eqb}
use Rattle.std.proofs.lemmas.Grind.{get_or-set_at}
use Rattle.std.proofs.lemmas.List.{get_or-set_other}
use Rattle.std.specs.Prelude.{is_some}
use Rattle.plain_types.specs.declared.counter_style.CounterStyle.{CounterStyle}
use Rattle.plain_types.specs.declared.counter_style.StyleDef.{StyleDef}
use Rattle.plain_types.specs.Table.{decimal_style}
use Rattle.css_definitions.proofs.Chains.{cases_option}
use Rattle.counter_style_table.specs.Extends.{AreBelow, AreSettled, IsDescent, base, finished_at, is_covered, is_done, is_on_path, over_at, style_from}
use Rattle.counter_style_table.proofs.CycleLemmas.{none_some}
use Rattle.counter_style_table.proofs.PathLemmas.{AreDistinct, AreLinked, linked_next, ready_at_finished, ready_at_cycle}
use Rattle.counter_style_table.proofs.SettledLemmas.{base_within, finished_on_cycle, finished_off_cycle}

module _ (rules : List StyleDef) (styles : List (Option CounterStyle)) (start : ℕ) where
  -- what the way down keeps: where it is, which places it passed, and which are marked
  pub record Descends (begun : List Bool) (at : ℕ) (path : List ℕ) : Type 0 where
    pub room : length begun ≡ length rules
    pub here : at < length rules
    pub below : AreBelow (length rules) path
    pub linked : AreLinked (base rules) (Some at) path
    pub distinct : AreDistinct path
    pub marked : (p : ℕ) → get_or begun p false ≡ is_covered styles path p
    pub unfinished : (p : ℕ) → is_on_path p path ≡ true → is_done styles p ≡ false
    pub started : (at ≡ start) ⊎ (is_covered styles path start ≡ true)

  pub sets_out : (begun : List Bool) → length begun ≡ length rules → start < length rules → ((p : ℕ) → get_or begun p false ≡ is_done styles p) → Descends begun start []
  sets_out begun room h marked = record {
    room = room;
    here = h;
    below = tt;
    linked = tt;
    distinct = tt;
    marked = λ p. marked p ∙ sym (or_nothing (is_done styles p));
    unfinished = λ p i. absurd (both_ways _ refl i);
    started = inl refl;
  } where
    or_nothing : (b : Bool) → (b || false) ≡ b
    or_nothing true = refl
    or_nothing false = refl

  -- a place that is not marked is neither finished nor on the path, and extends another
  unmarked : (begun : List Bool) (at : ℕ) (path : List ℕ) → Descends begun at path → get_or begun at false ≡ false → (is_done styles at ≡ false) × (is_on_path at path ≡ false)
  unmarked begun at path d h = or_parts (is_done styles at) (is_on_path at path) (sym (d.marked at) ∙ h)

  pub goes_on : (begun : List Bool) (at : ℕ) (path : List ℕ) → Descends begun at path → AreSettled rules styles → get_or begun at false ≡ false → base rules at ≡ None → ⊥
  goes_on begun at path d s h e = both_ways _ (unmarked begun at path d h).0 (s.plain at d.here e)

  covered_more : (at p : ℕ) (path : List ℕ) → is_covered styles path p ≡ true → is_covered styles (at ∷ path) p ≡ true
  covered_more at p path h = elim (or_cases (is_done styles p) (is_on_path p path) h) [
    | inl i ↦ or_left (is_done styles p) (is_on_path p (at ∷ path)) i
    | inr i ↦ or_right (is_done styles p) (is_on_path p (at ∷ path)) (or_right (at == p) (is_on_path p path) i)
  ]

  covered_here : (at : ℕ) (path : List ℕ) → is_covered styles (at ∷ path) at ≡ true
  covered_here at path = or_right (is_done styles at) (is_on_path at (at ∷ path)) (or_left (at == at) (is_on_path at path) (eq-eqb at at refl))

  pub goes_down : (begun : List Bool) (at next : ℕ) (path : List ℕ) → Descends begun at path → get_or begun at false ≡ false → base rules at ≡ Some next → Descends (set begun at true) next (at ∷ path)
  goes_down begun at next path d h e =
      let inside : at < length begun = omega (arith, d.here, d.room) in
      let off = unmarked begun at path d h in
      record {
        room = length-set begun at true ∙ d.room;
        here = base_within rules at next e;
        below = (d.here, d.below);
        linked = (e, d.linked);
        distinct = (off.1, d.distinct);
        marked = λ p. elim (cases_eq p at) [
          | inl i ↦ get_or-set_at begun at p true false i inside ∙ sym (ap (is_covered styles (at ∷ path)) i ∙ covered_here at path)
          | inr n ↦
              get_or-set_other begun at p true false n ∙ d.marked p
              ∙ ap (λ b. is_done styles p || (b || is_on_path p path)) (sym (ne_eqb at p (λ i. n (sym i))))
        ];
        unfinished = λ p i. elim (or_cases (at == p) (is_on_path p path) i) [
          | inl here ↦ ap (is_done styles) (sym (eqb-true at p here)) ∙ off.0
          | inr there ↦ d.unfinished p there
        ];
        started = elim d.started [
          | inl i ↦ inr (ap (is_covered styles (at ∷ path)) (sym i) ∙ covered_here at path)
          | inr i ↦ inr (covered_more at start path i)
        ];
      }

  -- The end of the way down.
  covered_next : (begun : List Bool) (at : ℕ) (path : List ℕ) → Descends begun at path → is_covered styles path at ≡ true → (p q : ℕ) → is_on_path p path ≡ true → base rules p ≡ Some q → is_covered styles path q ≡ true
  covered_next begun at path d h p q i e = elim (linked_next (base rules) (Some at) path p q d.linked i e) [
    | inl same ↦ let here : q ≡ at = cc in ap (is_covered styles path) here ∙ h
    | inr there ↦ or_right (is_done styles q) (is_on_path q path) there
  ]

  pub covers_start : (begun : List Bool) (at : ℕ) (path : List ℕ) → Descends begun at path → get_or begun at false ≡ true → is_covered styles path start ≡ true
  covers_start begun at path d h = elim d.started [
    | inl i ↦ ap (is_covered styles path) (sym i) ∙ sym (d.marked at) ∙ h
    | inr i ↦ i
  ]

  from_done : (at : ℕ) → AreSettled rules styles → is_done styles at ≡ true → style_from styles (Some at) ≡ finished_at rules at
  from_done at s h = elim (cases_option (get_or styles at None)) [
    | inl e ↦ absurd (both_ways _ (ap is_some e) h)
    | inr (style, e) ↦ ap (λ found. unwrap_or found decimal_style) e ∙ s.right at style e
  ]

  pub ends_finished : (begun : List Bool) (at : ℕ) (path : List ℕ) → Descends begun at path → AreSettled rules styles → get_or begun at false ≡ true → is_done styles at ≡ true → IsDescent rules styles path None (Some at)
  ends_finished begun at path d s h f = record {
    below = d.below;
    ready =
        ready_at_finished (base rules) (over_at rules) (finished_at rules) (length rules) (finished_on_cycle rules) (finished_off_cycle rules)
        (λ p. is_done styles p ≡ true) (λ p q. s.closed p q) at (style_from styles (Some at)) path
        f (from_done at s f) (λ p i g. both_ways _ (d.unfinished p i) g) d.below d.linked;
    decimal_first = λ head e. absurd (none_some e);
    covered = covered_next begun at path d (sym (d.marked at) ∙ h);
  }

  pub ends_on_cycle : (begun : List Bool) (at : ℕ) (path : List ℕ) → Descends begun at path → get_or begun at false ≡ true → is_done styles at ≡ false → IsDescent rules styles path (Some at) None
  ends_on_cycle begun at path d h f =
      let covered : is_covered styles path at ≡ true = sym (d.marked at) ∙ h in
      let here : is_on_path at path ≡ true = elim (or_cases (is_done styles at) (is_on_path at path) covered) [ inl g ↦ absurd (both_ways _ f g) | inr i ↦ i ] in
      record {
        below = d.below;
        ready =
            ready_at_cycle (base rules) (over_at rules) (finished_at rules) (length rules) (finished_on_cycle rules) (finished_off_cycle rules)
            at path d.linked d.below here d.distinct;
        decimal_first = λ head e. refl;
        covered = covered_next begun at path d covered;
      }
