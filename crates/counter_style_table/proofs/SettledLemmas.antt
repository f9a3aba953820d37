-- How far styles are finished.
use Rattle.std.proofs.Common.{◌≡◌, ◌+◌, ◌<◌, ◌≤◌, ℕ, List, [], ◌∷◌, ◌++◌, Option, Some, None, Bool, true, false, length, map, get_or, take, drop, append-nil, refl, sym, ap, ◌∙◌, arith, inl, inr, length-append}
use Rattle.std.specs.List.{filter_map, position, range_with_len, slice_get}
use Rattle.std.specs.Option.{option_and_then, option_map_or}
use Rattle.std.specs.Prelude.{is_some}
use Rattle.std.proofs.lemmas.Bool.{cases_lt, cases_eq, both_ways, or_left}
use Rattle.std.proofs.Math.ListN.{drop_of_length-le, get_or-append, get_or-map}
use Rattle.std.proofs.Math.Seq.{get_or-append_seam}
use Rattle.std.proofs.lemmas.List.{get_or_default, get_or_past, length-map, take_all}
use Rattle.std.proofs.lemmas.List.FromFn.{fill_by_all}
use Rattle.std.proofs.lemmas.List.Quantifiers.{position-Some}
use Rattle.plain_types.specs.declared.counter_style.CounterStyle.{CounterStyle}
use Rattle.plain_types.specs.declared.counter_style.StyleDef.{StyleDef}
use Rattle.plain_types.specs.StyleNames.{style_name}
use Rattle.plain_types.specs.Table.{decimal_style}
use Rattle.css_definitions.specs.CounterStyles.{extended_by, system_of}
use Rattle.css_definitions.proofs.Chains.{cases_option}
use Rattle.counter_style_table.specs.Extends.{AreSettled, OnCycle, base, base_of, finished_at, is_covered, is_done, is_on_path, own, over_at}
use Rattle.counter_style_table.specs.Rules.{is_named}
use Rattle.counter_style_table.proofs.CycleLemmas.{none_some, finished-plain, finished-cyclic, finished-extends}

module _ (rules : List StyleDef) where
  base_of_within : (rule : StyleDef) (q : ℕ) → base_of rules rule ≡ Some q → q < length rules
  base_of_within rule q e = named_within (extended_by (system_of rule)) e where
    named_within : (name : Option (List ℕ)) → option_and_then (λ n. position (is_named n) rules) name ≡ Some q → q < length rules
    named_within None f = absurd (none_some f)
    named_within (Some name) f = (position-Some (is_named name) rules q rule f).0

  pub base_within : (p q : ℕ) → base rules p ≡ Some q → q < length rules
  base_within p q e = elim (cases_option (slice_get rules p)) [
    | inl none ↦ absurd (none_some (sym (ap (option_and_then (base_of rules)) none) ∙ e))
    | inr (rule, at) ↦ base_of_within rule q (sym (ap (option_and_then (base_of rules)) at) ∙ e)
  ]

  pub base_at : (p : ℕ) (rule : StyleDef) → slice_get rules p ≡ Some rule → base rules p ≡ base_of rules rule
  base_at p rule at = ap (option_and_then (base_of rules)) at

  pub base_named : (p : ℕ) (rule : StyleDef) (name : List ℕ) → slice_get rules p ≡ Some rule → Some (style_name name) ≡ extended_by (system_of rule) → base rules p ≡ position (is_named (style_name name)) rules
  base_named p rule name at e = base_at p rule at ∙ ap (option_and_then (λ n. position (is_named n) rules)) (sym e)

  -- what a finished style is, by what it extends
  pub finished_plain : (p : ℕ) → p < length rules → base rules p ≡ None → finished_at rules p ≡ own rules p
  finished_plain p h e = finished-plain (base rules) (length rules) base_within (own rules) (over_at rules) (length rules) p (omega arith) e

  pub finished_on_cycle : (p q : ℕ) → p < length rules → base rules p ≡ Some q → OnCycle (base rules) p → finished_at rules p ≡ over_at rules p decimal_style
  finished_on_cycle p q h e o = finished-cyclic (base rules) (length rules) base_within (own rules) (over_at rules) (length rules) p q (omega arith) h e o

  pub finished_off_cycle : (p q : ℕ) → p < length rules → base rules p ≡ Some q → (OnCycle (base rules) p → ⊥) → finished_at rules p ≡ over_at rules p (finished_at rules q)
  finished_off_cycle p q h e n = finished-extends (base rules) (length rules) base_within (own rules) (over_at rules) (length rules) p q refl h e n

  -- what is known of a place at first: the style where it extends nothing
  abbrev pub first_style : ℕ → Option CounterStyle
  first_style place = option_map_or (λ _. None) (base rules place) (Some (own rules place))

  pub first_some : (place other : ℕ) → base rules place ≡ Some other → first_style place ≡ None
  first_some place other e = ap (λ b. option_map_or (λ _. None) b (Some (own rules place))) e

  pub first_none : (place : ℕ) → base rules place ≡ None → first_style place ≡ Some (own rules place)
  first_none place e = ap (λ b. option_map_or (λ _. None) b (Some (own rules place))) e

  abbrev pub AreFirst : ℕ → List (Option CounterStyle) → Type 0
  AreFirst count styles = (length styles ≡ count) × ((place : ℕ) → place < count → get_or styles place None ≡ first_style place)

  pub first_more : (place : ℕ) (styles styles' : List (Option CounterStyle)) (style : Option CounterStyle) → styles' ≡ styles ++ style ∷ [] → style ≡ first_style place → AreFirst place styles → AreFirst (place + 1) styles'
  first_more place styles styles' style e f a = (
    ap length e ∙ length-append styles (style ∷ []) ∙ omega (arith, a.0),
    λ p h. elim (cases_eq p place) [
      | inl same ↦
          let seam : get_or styles' place None ≡ style = ap (λ xs. get_or xs place None) e ∙ ap (λ n. get_or (styles ++ style ∷ []) n None) (sym a.0) ∙ get_or-append_seam styles style [] None in
          ap (λ n. get_or styles' n None) same ∙ seam ∙ f ∙ ap first_style (sym same)
      | inr away ↦
          let below : p < length styles = omega (arith, a.0, h, away) in
          ap (λ xs. get_or xs p None) e ∙ get_or-append styles (style ∷ []) None p below ∙ a.1 p (omega (arith, a.0, below))
    ],
  )

  -- a place with a style is one of the places
  done_within : (styles : List (Option CounterStyle)) (place : ℕ) → is_done styles place ≡ true → place < length styles
  done_within styles place d = elim (cases_lt place (length styles)) [
    | inl h ↦ h
    | inr h ↦ absurd (both_ways _ (ap is_some (get_or_past styles place None h)) d)
  ]

  some_done : (styles : List (Option CounterStyle)) (place : ℕ) (style : CounterStyle) → get_or styles place None ≡ Some style → is_done styles place ≡ true
  some_done styles place style e = ap is_some e

  -- a place whose style is known at first extends nothing
  first_done : (place : ℕ) → is_some (first_style place) ≡ true → base rules place ≡ None
  first_done place d = elim (cases_option (base rules place)) [
    | inl e ↦ e
    | inr (other, e) ↦ absurd (both_ways _ (ap is_some (first_some place other e)) d)
  ]

  pub settled_first : (styles : List (Option CounterStyle)) → AreFirst (length rules) styles → AreSettled rules styles
  settled_first styles a =
      let inside : (place : ℕ) → is_done styles place ≡ true → place < length rules = λ place d. omega (arith, done_within styles place d, a.0) in
      let plainly : (place : ℕ) → is_done styles place ≡ true → base rules place ≡ None = λ place d. first_done place (ap is_some (sym (a.1 place (inside place d))) ∙ d) in
      record {
        room = a.0;
        right = λ place style e.
            let d : is_done styles place ≡ true = some_done styles place style e in
            let known : Some style ≡ Some (own rules place) = sym e ∙ a.1 place (inside place d) ∙ first_none place (plainly place d) in
            let same : style ≡ own rules place = cc in
            same ∙ sym (finished_plain place (inside place d) (plainly place d));
        closed = λ place other d e. absurd (none_some (sym (plainly place d) ∙ e));
        plain = λ place h e. some_done styles place (own rules place) (a.1 place h ∙ first_none place e);
      }

-- whether a style is finished, as the code reads it
pub done_by : (styles : List (Option CounterStyle)) (place : ℕ) (found : Option CounterStyle) (test : Bool) → place < length styles → found ≡ get_or styles place found → test ≡ is_some found → is_done styles place ≡ test
done_by styles place found test h e f = ap is_some (get_or_default styles place None found h ∙ sym e) ∙ sym f

-- What holds between one way down and the next: the styles are settled, those are marked that are finished,
-- and all before a place are.
pub record AreFinishedBefore (rules : List StyleDef) (styles : List (Option CounterStyle)) (begun : List Bool) (place : ℕ) : Type 0 where
  pub settled : AreSettled rules styles
  pub room : length begun ≡ length rules
  pub marked : (p : ℕ) → get_or begun p false ≡ is_done styles p
  pub done : (p : ℕ) → p < place → is_done styles p ≡ true

module _ (rules : List StyleDef) where
  pub finished_none : (styles : List (Option CounterStyle)) (begun : List Bool) → AreSettled rules styles → begun ≡ map is_some styles → AreFinishedBefore rules styles begun 0
  finished_none styles begun s e = record {
    settled = s;
    room = ap length e ∙ length-map styles is_some ∙ s.room;
    marked = λ p. ap (λ marks. get_or marks p false) e ∙ get_or-map is_some styles p None;
    done = λ p h. absurd (omega arith);
  }

  pub finished_more : (styles styles' : List (Option CounterStyle)) (begun begun' : List Bool) (place : ℕ) (path : List ℕ)
      → AreFinishedBefore rules styles begun place → AreSettled rules styles' → length begun' ≡ length begun
      → ((p : ℕ) → get_or begun' p false ≡ is_covered styles path p) → ((p : ℕ) → is_done styles' p ≡ is_covered styles path p) → is_covered styles path place ≡ true
      → AreFinishedBefore rules styles' begun' (place + 1)
  finished_more styles styles' begun begun' place path f s e marked covered here = record {
    settled = s;
    room = e ∙ f.room;
    marked = λ p. marked p ∙ sym (covered p);
    done = λ p h. elim (cases_eq p place) [
      | inl same ↦ covered p ∙ ap (is_covered styles path) same ∙ here
      | inr away ↦ covered p ∙ or_left (is_done styles p) (is_on_path p path) (f.done p (omega (arith, h, away)))
    ];
  }

  pub finished_all : (styles : List (Option CounterStyle)) (begun : List Bool) (place : ℕ) → length rules ≤ place → AreFinishedBefore rules styles begun place
      → styles ≡ map (λ p. Some (finished_at rules p)) (range_with_len 0 (length rules))
  finished_all styles begun place h f =
      fill_by_all (λ p. Some (finished_at rules p)) styles (length rules) None f.settled.room (λ p k. finished_here p (f.done p (omega (arith, h, k)))) where
        finished_here : (p : ℕ) → is_done styles p ≡ true → get_or styles p None ≡ Some (finished_at rules p)
        finished_here p d = elim (cases_option (get_or styles p None)) [
          | inl e ↦ absurd (both_ways _ (ap is_some e) d)
          | inr (style, e) ↦ e ∙ ap Some (f.settled.right p style e)
        ]

pub filter_map-Some : {X : Type 0} (f : ℕ → X) (places : List ℕ) → filter_map (λ (style : Option X). style) (map (λ p. Some (f p)) places) ≡ map f places
filter_map-Some f [] = refl
filter_map-Some f (p ∷ places) = ap (λ rest. f p ∷ rest) (filter_map-Some f places)

-- a slice of a whole vector that was written back
pub written_back : {X : Type 0} (new old : List X) (n : ℕ) → n ≡ length old → length new ≡ length old → take n (new ++ drop (length new) old) ≡ new
written_back new old n e h = ap (λ rest. take n (new ++ rest)) (drop_of_length-le old (omega (arith, h))) ∙ ap (take n) (append-nil new) ∙ take_all n new (omega (arith, e, h))
