-- The finished styles of the definition, by names, are those by the places of the rules that were put.
use Rattle.std.proofs.Common.{◌≡◌, ◌+◌, ◌<◌, ◌≤◌, ◌==◌, ◌||◌, ℕ, zero, suc, List, [], ◌∷◌, Bool, true, false, cond, map, Option, Some, None, length, get_or, refl, sym, ap, ◌∙◌, arith, inl, inr}
use Rattle.std.specs.List.{find, fold, position, position_or_len, range_with_len, slice_get}
use Rattle.std.specs.Option.{option_and_then, option_map_or}
use Rattle.std.specs.Prelude.{is_some}
use Rattle.std.specs.Str.{bytes_eq}
use Rattle.std.proofs.lemmas.Bool.{cases_Bool, cases_eq, cases_lt, eq-eqb, ne_eqb, lt-ltb, le-ltb, false_from_ne_true}
use Rattle.std.proofs.lemmas.List.Folds.{find_at}
use Rattle.std.proofs.lemmas.List.{get_or-map, length-map}
use Rattle.std.proofs.lemmas.List.FromFn.{fill_by_all}
use Rattle.std.proofs.lemmas.List.Quantifiers.{position-Some}
use Rattle.std.proofs.lemmas.Option.{slice_get-get_or, slice_get_past, slice_get_within}
use Rattle.plain_types.specs.declared.counter_style.CounterStyle.{CounterStyle}
use Rattle.plain_types.specs.declared.counter_style.StyleDef.{StyleDef}
use Rattle.plain_types.specs.Table.{decimal_style}
use Rattle.css_definitions.specs.CounterStyles.{distinct, extended_by, extended_name, finished, finished_within, is_on_cycle, last_named, leads_to, over, own_style, system_of}
use Rattle.css_definitions.proofs.Chains.{cases_option}
use Rattle.counter_style_table.specs.Extends.{base, finished_at, leads, own, own_of, over_at}
use Rattle.counter_style_table.specs.Extends.{finished_within as finished_place_within}
use Rattle.counter_style_table.specs.Rules.{is_named, name_of, with_rule}
use Rattle.counter_style_table.proofs.CycleLemmas.{none_some, finished-enough, finished-more, leads_enough}
use Rattle.counter_style_table.proofs.NameLemmas.{apart-put, bytes_eq-same, bytes_eq-refl, last_named-put, names-put, position-own}
use Rattle.counter_style_table.proofs.SettledLemmas.{base_at, base_within}

-- the first that passes is the one at the first place that does
find_position : {X : Type 0} (p : X → Bool) (xs : List X) → find p xs ≡ option_and_then (slice_get xs) (position p xs)
find_position p xs = elim (cases_lt (position_or_len p xs) (length xs)) [
  | inl h ↦ find_at p xs ∙ sym (ap (λ b. option_and_then (slice_get xs) (cond b (Some (position_or_len p xs)) None)) (lt-ltb (position_or_len p xs) (length xs) h))
  | inr h ↦ find_at p xs ∙ slice_get_past xs (position_or_len p xs) h ∙ sym (ap (λ b. option_and_then (slice_get xs) (cond b (Some (position_or_len p xs)) None)) (le-ltb (position_or_len p xs) (length xs) h))
]

abbrev pub no_rule : StyleDef
no_rule = record { name = []; descriptors = [] }

module _ (rules : List StyleDef) where
  abbrev pub put : List StyleDef
  put = fold with_rule [] rules

  -- what is found under a name, by its place
  pub last_position : (name : List ℕ) → last_named rules name ≡ option_and_then (slice_get put) (position (is_named name) put)
  last_position name = last_named-put rules name ∙ find_position (is_named name) put

  found_at : (name : List ℕ) (q : ℕ) → position (is_named name) put ≡ Some q → (rule : StyleDef) × (slice_get put q ≡ Some rule) × (name ≡ name_of rule)
  found_at name q e = found put q (position (is_named name) put) refl e where
    found : (all : List StyleDef) (q : ℕ) (o : Option ℕ) → position (is_named name) all ≡ o → o ≡ Some q → (rule : StyleDef) × (slice_get all q ≡ Some rule) × (name ≡ name_of rule)
    found [] q o f g = absurd (none_some (f ∙ g))
    found (first ∷ all) q o f g =
        let facts = position-Some (is_named name) (first ∷ all) q first (f ∙ g) in
        (get_or (first ∷ all) q first, slice_get-get_or (first ∷ all) q first facts.0, bytes_eq-same name (name_of (get_or (first ∷ all) q first)) facts.1)

  found_none : (name : List ℕ) → position (is_named name) put ≡ None → last_named rules name ≡ None
  found_none name e = last_position name ∙ ap (option_and_then (slice_get put)) e

  pub found_own : (p : ℕ) (rule : StyleDef) → slice_get put p ≡ Some rule → last_named rules (name_of rule) ≡ Some rule
  found_own p rule at = last_position (name_of rule) ∙ ap (option_and_then (slice_get put)) (position-own put p rule (apart-put rules) at) ∙ at

  extended_own : (p : ℕ) (rule : StyleDef) → slice_get put p ≡ Some rule → extended_name rules (name_of rule) ≡ extended_by (system_of rule)
  extended_own p rule at = ap (λ found. option_map_or (λ r. extended_by (system_of r)) found None) (found_own p rule at)

  base_by : (p : ℕ) (rule : StyleDef) (name : List ℕ) → slice_get put p ≡ Some rule → extended_by (system_of rule) ≡ Some name → base put p ≡ position (is_named name) put
  base_by p rule name at e = base_at put p rule at ∙ ap (option_and_then (λ n. position (is_named n) put)) e

  base_nothing : (p : ℕ) (rule : StyleDef) → slice_get put p ≡ Some rule → extended_by (system_of rule) ≡ None → base put p ≡ None
  base_nothing p rule at e = base_at put p rule at ∙ ap (option_and_then (λ n. position (is_named n) put)) e

  -- `extends` leads from name to name as it leads from place to place
  undefined_leads : (steps : ℕ) (name to : List ℕ) → position (is_named name) put ≡ None → leads_to rules steps name to ≡ false
  undefined_leads zero name to e = refl
  undefined_leads (suc steps) name to e =
      ap (λ found. option_map_or (λ next. bytes_eq next to || leads_to rules steps next to) (option_map_or (λ r. extended_by (system_of r)) found None) false) (found_none name e)

  same_place : (q to : ℕ) (a b : StyleDef) → slice_get put q ≡ Some a → slice_get put to ≡ Some b → bytes_eq (name_of a) (name_of b) ≡ (q == to)
  same_place q to a b at there = elim (cases_eq q to) [
    | inl same ↦
        let one : Some a ≡ Some b = sym at ∙ ap (slice_get put) same ∙ there in
        let rule : a ≡ b = cc in
        ap (λ r. bytes_eq (name_of r) (name_of b)) rule ∙ bytes_eq-refl (name_of b) ∙ sym (eq-eqb q to same)
    | inr away ↦
        false_from_ne_true _ (λ e.
        let both : Some q ≡ Some to =
        sym (position-own put q a (apart-put rules) at) ∙ ap (λ name. position (is_named name) put) (bytes_eq-same (name_of a) (name_of b) e) ∙ position-own put to b (apart-put rules) there in
        let same : q ≡ to = cc in
        away same)
        ∙ sym (ne_eqb q to away)
  ]

  leads_by_place : (steps from to : ℕ) (a b : StyleDef) → slice_get put from ≡ Some a → slice_get put to ≡ Some b → leads_to rules steps (name_of a) (name_of b) ≡ leads (base put) steps from to
  leads_by_place zero from to a b at there = refl
  leads_by_place (suc steps) from to a b at there =
      let names : Option (List ℕ) → Bool = λ o. option_map_or (λ next. bytes_eq next (name_of b) || leads_to rules steps next (name_of b)) o false in
      let places : Option ℕ → Bool = λ o. option_map_or (λ next. (next == to) || leads (base put) steps next to) o false in
      ap names (extended_own from a at)
      ∙ elim (cases_option (extended_by (system_of a))) [
        | inl e ↦ ap names e ∙ sym (ap places (base_nothing from a at e))
        | inr (name, e) ↦ ap names e ∙ elim (cases_option (position (is_named name) put)) [
          | inl f ↦
              let away : bytes_eq name (name_of b) ≡ false = false_from_ne_true _ (λ same.
              none_some (sym f ∙ ap (λ n. position (is_named n) put) (bytes_eq-same name (name_of b) same) ∙ position-own put to b (apart-put rules) there)) in
              ap (λ t. t || leads_to rules steps name (name_of b)) away ∙ undefined_leads steps name (name_of b) f ∙ sym (ap places (base_by from a name at e ∙ f))
          | inr (q, f) ↦
              let found = found_at name q f in
              ap (λ n. bytes_eq n (name_of b) || leads_to rules steps n (name_of b)) found.2
              ∙ ap (λ t. t || leads_to rules steps (name_of found.0) (name_of b)) (same_place q to found.0 b found.1 there)
              ∙ ap (λ t. (q == to) || t) (leads_by_place steps q to found.0 b found.1 there)
              ∙ sym (ap places (base_by from a name at e ∙ f))
        ]
      ]
      ∙ refl

  -- finished styles
  undefined_finished : (styles : ℕ) (name : List ℕ) → position (is_named name) put ≡ None → finished_within rules styles name ≡ decimal_style
  undefined_finished zero name e = refl
  undefined_finished (suc styles) name e =
      ap (λ found. option_map_or (λ rule. option_map_or (λ other. over rule (cond (is_on_cycle rules name) decimal_style (finished_within rules styles other))) (extended_by (system_of rule)) (own_style rule)) found decimal_style) (found_none name e)

  own_at : (p : ℕ) (rule : StyleDef) → slice_get put p ≡ Some rule → own put p ≡ own_of put rule
  own_at p rule at = ap (λ found. option_map_or (own_of put) found decimal_style) at

  cond_same : {X : Type 0} (b : Bool) (x : X) → cond b x x ≡ x
  cond_same true x = refl
  cond_same false x = refl

  finished_by_place : (styles p : ℕ) (rule : StyleDef) → slice_get put p ≡ Some rule → finished_within rules styles (name_of rule) ≡ finished_place_within (base put) (own put) (over_at put) (length rules) styles p
  finished_by_place zero p rule at = refl
  finished_by_place (suc styles) p rule at =
      let names : Option (List ℕ) → CounterStyle = λ o. option_map_or (λ other. over rule (cond (is_on_cycle rules (name_of rule)) decimal_style (finished_within rules styles other))) o (own_style rule) in
      let places : Option ℕ → CounterStyle = λ o. option_map_or (λ other. over_at put p (cond (leads (base put) (length rules) p p) decimal_style (finished_place_within (base put) (own put) (over_at put) (length rules) styles other))) o (own put p) in
      ap (λ found. option_map_or (λ r. option_map_or (λ other. over r (cond (is_on_cycle rules (name_of rule)) decimal_style (finished_within rules styles other))) (extended_by (system_of r)) (own_style r)) found decimal_style) (found_own p rule at)
      ∙ elim (cases_option (extended_by (system_of rule))) [
        | inl e ↦
            ap names e ∙ sym (ap (λ o. cond (is_some o) (over rule decimal_style) (own_style rule)) e) ∙ sym (own_at p rule at) ∙ sym (ap places (base_nothing p rule at e))
        | inr (name, e) ↦ ap names e ∙ elim (cases_option (position (is_named name) put)) [
          | inl f ↦
              ap (λ style. over rule (cond (is_on_cycle rules (name_of rule)) decimal_style style)) (undefined_finished styles name f)
              ∙ ap (over rule) (cond_same (is_on_cycle rules (name_of rule)) decimal_style)
              ∙ sym (ap (λ o. cond (is_some o) (over rule decimal_style) (own_style rule)) e) ∙ sym (own_at p rule at) ∙ sym (ap places (base_by p rule name at e ∙ f))
          | inr (q, f) ↦
              let found = found_at name q f in
              ap (λ n. over rule (cond (is_on_cycle rules (name_of rule)) decimal_style (finished_within rules styles n))) found.2
              ∙ ap (λ b. over rule (cond b decimal_style (finished_within rules styles (name_of found.0)))) (leads_by_place (length rules) p p rule rule at at)
              ∙ ap (λ style. over rule (cond (leads (base put) (length rules) p p) decimal_style style)) (finished_by_place styles q found.0 found.1)
              ∙ sym (ap (λ r. option_map_or (λ kept. over kept (cond (leads (base put) (length rules) p p) decimal_style (finished_place_within (base put) (own put) (over_at put) (length rules) styles q))) r (cond (leads (base put) (length rules) p p) decimal_style (finished_place_within (base put) (own put) (over_at put) (length rules) styles q))) at)
              ∙ sym (ap places (base_by p rule name at e ∙ f))
        ]
      ]

  -- no more rules are kept than were put
  length-with_rule : (all : List StyleDef) (rule : StyleDef) → length (with_rule all rule) ≤ length all + 1
  length-with_rule [] rule = omega arith
  length-with_rule (other ∷ all) rule = elim (cases_Bool (is_named (name_of rule) other)) [
    | inl h ↦ rw h (omega arith)
    | inr h ↦ rw h (omega (arith, length-with_rule all rule))
  ]

  pub length-fold : (more before : List StyleDef) → length (fold with_rule before more) ≤ length before + length more
  length-fold [] before = omega arith
  length-fold (rule ∷ more) before = omega (arith, length-fold more (with_rule before rule), length-with_rule before rule)

  -- the finished style of a name is that at the place of its rule
  pub finished-put : (p : ℕ) (rule : StyleDef) → slice_get put p ≡ Some rule → finished rules (name_of rule) ≡ finished_at put p
  finished-put p rule at =
      finished_by_place (length rules) p rule at
      ∙ finished-more (base put) (own put) (over_at put) (length put) (length rules) (base_within put) (omega (arith, length-fold rules [])) p (slice_get_within put p rule at)

  -- and so of all names
  pub finished-all : map (finished rules) (distinct (map name_of rules)) ≡ map (finished_at put) (range_with_len 0 (length put))
  finished-all =
      ap (map (finished rules)) (sym (names-put rules))
      ∙ fill_by_all (finished_at put) (map (finished rules) (map name_of put)) (length put) decimal_style
      (length-map (map name_of put) (finished rules) ∙ length-map put name_of)
      (λ k h. at_place k h) where
        at_place : (k : ℕ) → k < length put → get_or (map (finished rules) (map name_of put)) k decimal_style ≡ finished_at put k
        at_place k h =
            let rule = get_or put k no_rule in
            get_or-map (finished rules) (map name_of put) k [] decimal_style (omega (arith, h, length-map put name_of))
            ∙ ap (finished rules) (get_or-map name_of put k no_rule [] h)
            ∙ finished-put k rule (slice_get-get_or put k no_rule h)

  -- more steps along `extends` than there are rules lead to no other names, and to no other styles
  place_within : (p q : ℕ) → base put p ≡ Some q → q < length rules
  place_within p q e = omega (arith, base_within put p q e, length-fold rules [])

  pub cycle-enough : (name : List ℕ) (more : ℕ) → leads_to rules (length rules + more) name name ≡ is_on_cycle rules name
  cycle-enough name more = elim (cases_option (position (is_named name) put)) [
    | inl e ↦ undefined_leads (length rules + more) name name e ∙ sym (undefined_leads (length rules) name name e)
    | inr (p, e) ↦
        let found = found_at name p e in
        let within = slice_get_within put p found.0 found.1 in
        ap (λ n. leads_to rules (length rules + more) n n) found.2
        ∙ leads_by_place (length rules + more) p p found.0 found.0 found.1 found.1
        ∙ leads_enough (base put) (length rules) place_within (length rules + more) p p (omega (arith, within, length-fold rules [])) (omega arith)
        ∙ sym (leads_by_place (length rules) p p found.0 found.0 found.1 found.1)
        ∙ ap (λ n. leads_to rules (length rules) n n) (sym found.2)
  ]

  pub styles-enough : (name : List ℕ) (more : ℕ) → finished_within rules (length rules + more) name ≡ finished rules name
  styles-enough name more = elim (cases_option (position (is_named name) put)) [
    | inl e ↦ undefined_finished (length rules + more) name e ∙ sym (undefined_finished (length rules) name e)
    | inr (p, e) ↦
        let found = found_at name p e in
        let within = slice_get_within put p found.0 found.1 in
        ap (finished_within rules (length rules + more)) found.2
        ∙ finished_by_place (length rules + more) p found.0 found.1
        ∙ finished-enough (base put) (length rules) place_within (own put) (over_at put) (length rules + more) p (omega (arith, within, length-fold rules [])) (omega arith)
        ∙ sym (finished_by_place (length rules) p found.0 found.1)
        ∙ ap (finished rules) (sym found.2)
  ]
