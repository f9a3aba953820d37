-- The finished styles make a table: their names differ, each has its symbols, and `decimal` is among them.
use Rattle.std.proofs.Common.{◌≡◌, ◌≢◌, ◌<◌, ◌&&◌, ℕ, zero, suc, List, [], ◌∷◌, ◌++◌, Bool, true, false, not, cond, filter, map, codes, Option, Some, None, length, get_or, refl, sym, ap, subst, ◌∙◌, arith, inl, inr}
use Rattle.std.specs.List.{AllPairs, fold, list_all, list_any, position, slice_get}
use Rattle.std.specs.Option.{option_and_then, option_map_or}
use Rattle.std.specs.Prelude.{is_some, option_map}
use Rattle.std.specs.Str.{bytes_eq}
use Rattle.std.proofs.lemmas.Bool.{cases_Bool, both_ways, and_parts, or_parts, false_from_ne_true, not-true}
use Rattle.std.proofs.lemmas.List.{get_or-map, length-map}
use Rattle.std.proofs.lemmas.Option.{slice_get-get_or, slice_get-map}
use Rattle.plain_types.specs.declared.counter_style.CounterStyle.{CounterStyle}
use Rattle.plain_types.specs.declared.counter_style.Descriptor.{Descriptor}
use Rattle.plain_types.specs.declared.counter_style.Descriptor.TheVariants as descriptor
use Rattle.plain_types.specs.declared.counter_style.StyleDef.{StyleDef}
use Rattle.plain_types.specs.StyleNames.{lower_case, predefined_names}
use Rattle.plain_types.specs.Table.{IsTable, decimal_style, has_its_symbols}
use Rattle.plain_types.proofs.PlaceLemmas.{position-agree}
use Rattle.css_definitions.specs.CounterStyles.{defines, described, distinct, excluded_names, extended_by, finished, finished_styles, finished_within, gives_right_symbols, gives_symbols, is_on_cycle, kept_names, last_named, may_be_defined, over, own_style, rules_with, system_of}
use Rattle.css_definitions.specs.PredefinedStyles.{predefined}
use Rattle.css_definitions.proofs.Chains.{cases_option}
use Rattle.counter_style_table.specs.Rules.{is_named, name_of}
use Rattle.counter_style_table.proofs.CycleLemmas.{none_some}
use Rattle.counter_style_table.proofs.FinishedLemmas.{found_own, last_position, no_rule, put}
use Rattle.counter_style_table.proofs.NameLemmas.{apart-put, bytes_eq-same, bytes_eq-sym, names-put, position-own}

-- Each style has its symbols.

described-keeps : (style : CounterStyle) (said : Descriptor) → gives_symbols said ≡ false → has_its_symbols (described style said) ≡ has_its_symbols style
described-keeps style (descriptor.System system) h = refl
described-keeps style (descriptor.Negative before after) h = refl
described-keeps style (descriptor.Prefix text) h = refl
described-keeps style (descriptor.Suffix text) h = refl
described-keeps style descriptor.RangeAuto h = refl
described-keeps style (descriptor.Range ranges) h = refl
described-keeps style (descriptor.Pad width symbol) h = refl
described-keeps style (descriptor.Fallback name) h = refl
described-keeps style (descriptor.Symbols symbols) h = absurd (cc)
described-keeps style (descriptor.Additive weights) h = absurd (cc)

fold-keeps : (said : List Descriptor) (style : CounterStyle) → list_any gives_symbols said ≡ false → has_its_symbols (fold described style said) ≡ has_its_symbols style
fold-keeps [] style h = refl
fold-keeps (first ∷ said) style h =
    let parts = or_parts (gives_symbols first) (list_any gives_symbols said) h in
    fold-keeps said (described style first) parts.1 ∙ described-keeps style first parts.0

module _ (rules : List StyleDef) (right : list_all gives_right_symbols rules ≡ true) where
  last_right : (name : List ℕ) (all : List StyleDef) (found : Option StyleDef) → option_map_or gives_right_symbols found true ≡ true → list_all gives_right_symbols all ≡ true
      → option_map_or gives_right_symbols (fold (λ last (rule : StyleDef). cond (bytes_eq (name_of rule) name) (Some rule) last) found all) true ≡ true
  last_right name [] found h g = h
  last_right name (rule ∷ all) found h g =
      let parts = and_parts (gives_right_symbols rule) (list_all gives_right_symbols all) g in
      last_right name all (cond (bytes_eq (name_of rule) name) (Some rule) found) (elim (cases_Bool (bytes_eq (name_of rule) name)) [ inl e ↦ rw e parts.0 | inr e ↦ rw e h ]) parts.1

  rule_right : (name : List ℕ) (rule : StyleDef) → last_named rules name ≡ Some rule → gives_right_symbols rule ≡ true
  rule_right name rule e = sym (ap (λ found. option_map_or gives_right_symbols found true) e) ∙ last_right name rules None refl right

  -- a rule that extends another style leaves its symbols as they are
  over_supplied : (rule : StyleDef) (name : List ℕ) (style : CounterStyle) → gives_right_symbols rule ≡ true → extended_by (system_of rule) ≡ Some name → has_its_symbols style ≡ true → has_its_symbols (over rule style) ≡ true
  over_supplied rule name style g e h =
      let nothing : list_any gives_symbols rule.descriptors ≡ false =
      not-true _ (sym (ap (λ o. cond (is_some o) (not (list_any gives_symbols rule.descriptors)) (has_its_symbols (own_style rule))) e) ∙ g) in
      fold-keeps rule.descriptors style nothing ∙ h

  own_supplied : (rule : StyleDef) → gives_right_symbols rule ≡ true → extended_by (system_of rule) ≡ None → has_its_symbols (own_style rule) ≡ true
  own_supplied rule g e = sym (ap (λ o. cond (is_some o) (not (list_any gives_symbols rule.descriptors)) (has_its_symbols (own_style rule))) e) ∙ g

  cond_supplied : (b : Bool) (style : CounterStyle) → has_its_symbols style ≡ true → has_its_symbols (cond b decimal_style style) ≡ true
  cond_supplied true style h = refl
  cond_supplied false style h = h

  finished_supplied : (styles : ℕ) (name : List ℕ) → has_its_symbols (finished_within rules styles name) ≡ true
  finished_supplied zero name = refl
  finished_supplied (suc styles) name =
      let within : Option StyleDef → CounterStyle = λ found. option_map_or (λ rule. option_map_or (λ other. over rule (cond (is_on_cycle rules name) decimal_style (finished_within rules styles other))) (extended_by (system_of rule)) (own_style rule)) found decimal_style in
      elim (cases_option (last_named rules name)) [
        | inl e ↦ ap (λ found. has_its_symbols (within found)) e
        | inr (rule, e) ↦
            let g = rule_right name rule e in
            ap (λ found. has_its_symbols (within found)) e
            ∙ elim (cases_option (extended_by (system_of rule))) [
              | inl f ↦ ap (λ o. has_its_symbols (option_map_or (λ other. over rule (cond (is_on_cycle rules name) decimal_style (finished_within rules styles other))) o (own_style rule))) f ∙ own_supplied rule g f
              | inr (other, f) ↦
                  ap (λ o. has_its_symbols (option_map_or (λ other. over rule (cond (is_on_cycle rules name) decimal_style (finished_within rules styles other))) o (own_style rule))) f
                  ∙ over_supplied rule other (cond (is_on_cycle rules name) decimal_style (finished_within rules styles other)) g f (cond_supplied (is_on_cycle rules name) (finished_within rules styles other) (finished_supplied styles other))
            ]
      ]

  pub all_supplied : (names : List (List ℕ)) → list_all has_its_symbols (map (finished rules) names) ≡ true
  all_supplied [] = refl
  all_supplied (name ∷ names) = ap (λ b. b && list_all has_its_symbols (map (finished rules) names)) (finished_supplied (length rules) name) ∙ all_supplied names

-- The rules of a table give the right symbols, and none but its own names a style `decimal`.

right_defines : (styles : List StyleDef) → list_all gives_right_symbols (filter defines styles) ≡ true
right_defines [] = refl
right_defines (rule ∷ styles) = elim (cases_Bool (defines rule)) [
  | inl h ↦ rw h (ap (λ b. b && list_all gives_right_symbols (filter defines styles)) (and_parts (may_be_defined rule.name) (gives_right_symbols rule) h).1 ∙ right_defines styles)
  | inr h ↦ rw h (right_defines styles)
]

list_all-append : {X : Type 0} (p : X → Bool) (xs ys : List X) → list_all p xs ≡ true → list_all p ys ≡ true → list_all p (xs ++ ys) ≡ true
list_all-append p [] ys h g = g
list_all-append p (x ∷ xs) ys h g = let parts = and_parts (p x) (list_all p xs) h in ap (λ b. b && list_all p (xs ++ ys)) parts.0 ∙ list_all-append p xs ys parts.1 g

pub rules_right : (styles : List StyleDef) → list_all gives_right_symbols (rules_with styles) ≡ true
rules_right styles = list_all-append gives_right_symbols predefined (filter defines styles) refl (right_defines styles)

-- A finished style has the name of its rule.

module _ (rules : List StyleDef) where
  finished_name : (styles : ℕ) (name : List ℕ) (rule : StyleDef) → 0 < styles → last_named rules name ≡ Some rule → (finished_within rules styles name).name ≡ name_of rule
  finished_name zero name rule h e = absurd (omega arith)
  finished_name (suc styles) name rule h e =
      let extending : Option (List ℕ) → List ℕ = λ o. (option_map_or (λ other. over rule (cond (is_on_cycle rules name) decimal_style (finished_within rules styles other))) o (own_style rule)).name in
      ap (λ found. (option_map_or (λ r. option_map_or (λ other. over r (cond (is_on_cycle rules name) decimal_style (finished_within rules styles other))) (extended_by (system_of r)) (own_style r)) found decimal_style).name) e
      ∙ elim (cases_option (extended_by (system_of rule))) [
        | inl f ↦ ap extending f
        | inr (other, f) ↦ ap extending f
      ]

  names_of : 0 < length rules → (all : List StyleDef) → ((k : ℕ) (rule : StyleDef) → slice_get all k ≡ Some rule → last_named rules (name_of rule) ≡ Some rule)
      → map (λ (style : CounterStyle). style.name) (map (finished rules) (map name_of all)) ≡ map name_of all
  names_of h [] found = refl
  names_of h (rule ∷ all) found =
      ap (λ name. name ∷ map (λ (style : CounterStyle). style.name) (map (finished rules) (map name_of all))) (finished_name (length rules) (name_of rule) rule h (found 0 rule refl))
      ∙ ap (λ names. name_of rule ∷ names) (names_of h all (λ k. found (suc k)))

  abbrev table : List CounterStyle
  table = map (finished rules) (map name_of (put rules))

  table-names : 0 < length rules → map (λ (style : CounterStyle). style.name) table ≡ map name_of (put rules)
  table-names h = names_of h (put rules) (found_own rules)

  length-table : length table ≡ length (put rules)
  length-table = length-map (map name_of (put rules)) (finished rules) ∙ length-map (put rules) name_of

  -- so no two of them have one name
  name_at : 0 < length rules → (k : ℕ) (d : CounterStyle) → k < length table → (get_or table k d).name ≡ name_of (get_or (put rules) k no_rule)
  name_at h k d within =
      sym (get_or-map (λ (style : CounterStyle). style.name) table k d [] within)
      ∙ ap (λ names. get_or names k []) (table-names h)
      ∙ get_or-map name_of (put rules) k no_rule [] (omega (arith, within, length-table))

  table-distinct : 0 < length rules → AllPairs (λ (first second : CounterStyle). first.name ≢ second.name) table
  table-distinct h i j d before within same =
      let a = get_or (put rules) i no_rule in
      let b = get_or (put rules) j no_rule in
      let names : name_of a ≡ name_of b = sym (name_at h i d (omega (arith, before, within))) ∙ same ∙ name_at h j d within in
      let places : Some i ≡ Some j =
      sym (position-own (put rules) i a (apart-put rules) (slice_get-get_or (put rules) i no_rule (omega (arith, before, within, length-table))))
      ∙ ap (λ name. position (is_named name) (put rules)) names
      ∙ position-own (put rules) j b (apart-put rules) (slice_get-get_or (put rules) j no_rule (omega (arith, within, length-table))) in
      let equal : i ≡ j = cc in
      omega (arith, before, equal)

  -- and a style is found where its rule is
  tests_agree : (name : List ℕ) (styles : List CounterStyle) (all : List StyleDef) → map (λ (style : CounterStyle). style.name) styles ≡ map name_of all
      → map (λ (style : CounterStyle). bytes_eq style.name name) styles ≡ map (is_named name) all
  tests_agree name [] [] e = refl
  tests_agree name [] (rule ∷ all) e = absurd (cc)
  tests_agree name (style ∷ styles) [] e = absurd (cc)
  tests_agree name (style ∷ styles) (rule ∷ all) e =
      let first : style.name ≡ name_of rule = cc in
      let rest : map (λ (s : CounterStyle). s.name) styles ≡ map name_of all = cc in
      ap (λ b. b ∷ map (λ (s : CounterStyle). bytes_eq s.name name) styles) (ap (λ n. bytes_eq n name) first ∙ bytes_eq-sym (name_of rule) name)
      ∙ ap (λ tests. is_named name rule ∷ tests) (tests_agree name styles all rest)

  table-found : 0 < length rules → (name : List ℕ) (rule : StyleDef) → last_named rules name ≡ Some rule → name_of rule ≡ name
      → option_and_then (slice_get table) (position (λ (style : CounterStyle). bytes_eq style.name name) table) ≡ Some (finished rules name)
  table-found h name rule last own =
      ap (option_and_then (slice_get table)) (position-agree _ _ table (put rules) (tests_agree name table (put rules) (table-names h)))
      ∙ elim (cases_option (position (is_named name) (put rules))) [
        | inl e ↦ absurd (none_some (sym (last_position rules name ∙ ap (option_and_then (slice_get (put rules))) e) ∙ last))
        | inr (place, e) ↦
            let at : slice_get (put rules) place ≡ Some rule = sym (last_position rules name ∙ ap (option_and_then (slice_get (put rules))) e) ∙ last in
            ap (option_and_then (slice_get table)) e
            ∙ slice_get-map (finished rules) (map name_of (put rules)) place
            ∙ ap (option_map (finished rules)) (slice_get-map name_of (put rules) place ∙ ap (option_map name_of) at)
            ∙ ap (λ n. Some (finished rules n)) own
      ]

-- The last rule named `decimal` is the predefined one.

abbrev decimal_name : List ℕ
decimal_name = codes "decimal"

any_false : {X : Type 0} (p : X → Bool) (xs : List X) (k : ℕ) (x : X) → list_any p xs ≡ false → slice_get xs k ≡ Some x → p x ≡ false
any_false p [] zero x h e = absurd (none_some e)
any_false p [] (suc k) x h e = absurd (none_some e)
any_false p (y ∷ xs) zero x h e = let same : y ≡ x = cc in ap p (sym same) ∙ (or_parts (p y) (list_any p xs) h).0
any_false p (y ∷ xs) (suc k) x h e = any_false p xs k x (or_parts (p y) (list_any p xs) h).1 e

not_decimal : (rule : StyleDef) → defines rule ≡ true → bytes_eq (name_of rule) decimal_name ≡ false
not_decimal rule h =
    let lower : bytes_eq (lower_case rule.name) decimal_name ≡ false =
    any_false (bytes_eq (lower_case rule.name)) (excluded_names ++ kept_names) 8 decimal_name (not-true _ (and_parts (may_be_defined rule.name) (gives_right_symbols rule) h).0) refl in
    elim (cases_Bool (list_any (bytes_eq (lower_case rule.name)) predefined_names)) [
      | inl known ↦ ap (λ b. bytes_eq (cond b (lower_case rule.name) rule.name) decimal_name) known ∙ lower
      | inr other ↦
          ap (λ b. bytes_eq (cond b (lower_case rule.name) rule.name) decimal_name) other
          ∙ false_from_ne_true _ (λ same. both_ways _ other (ap (λ name. list_any (bytes_eq (lower_case name)) predefined_names) (bytes_eq-same rule.name decimal_name same)))
    ]

abbrev after : Option StyleDef → StyleDef → Option StyleDef
after last rule = cond (bytes_eq (name_of rule) decimal_name) (Some rule) last

last_stays : (styles : List StyleDef) (found : Option StyleDef) → fold after found (filter defines styles) ≡ found
last_stays [] found = refl
last_stays (rule ∷ styles) found = elim (cases_Bool (defines rule)) [
  | inl h ↦ rw h (ap (λ b. fold after (cond b (Some rule) found) (filter defines styles)) (not_decimal rule h) ∙ last_stays styles found)
  | inr h ↦ rw h (last_stays styles found)
]

fold-append : {X Y : Type 0} (f : Y → X → Y) (before : Y) (xs ys : List X) → fold f before (xs ++ ys) ≡ fold f (fold f before xs) ys
fold-append f before [] ys = refl
fold-append f before (x ∷ xs) ys = fold-append f (f before x) xs ys

abbrev decimal_rule : StyleDef
decimal_rule = get_or predefined 0 no_rule

predefined-decimal : fold after None predefined ≡ Some decimal_rule
predefined-decimal = refl

last_decimal : (styles : List StyleDef) → last_named (rules_with styles) decimal_name ≡ Some decimal_rule
last_decimal styles = fold-append after None predefined (filter defines styles) ∙ ap (λ found. fold after found (filter defines styles)) predefined-decimal ∙ last_stays styles (Some decimal_rule)

finished-decimal : (rules : List StyleDef) (styles : ℕ) → last_named rules decimal_name ≡ Some decimal_rule → finished_within rules styles decimal_name ≡ decimal_style
finished-decimal rules zero e = refl
finished-decimal rules (suc styles) e =
    ap (λ found. option_map_or (λ r. option_map_or (λ other. over r (cond (is_on_cycle rules decimal_name) decimal_style (finished_within rules styles other))) (extended_by (system_of r)) (own_style r)) found decimal_style) e

some_rules : (xs ys : List StyleDef) → 0 < length xs → 0 < length (xs ++ ys)
some_rules [] ys h = absurd (omega arith)
some_rules (x ∷ xs) ys h = omega arith

pub finished-table : (styles : List StyleDef) → IsTable (finished_styles styles)
finished-table styles =
    let rules = rules_with styles in
    let some : 0 < length rules = some_rules predefined (filter defines styles) (omega arith) in
    let names : map name_of (put rules) ≡ distinct (map name_of rules) = names-put rules in
    subst (λ all. IsTable (map (finished rules) all)) names record {
      distinct = table-distinct rules some;
      decimal = table-found rules some decimal_name decimal_rule (last_decimal styles) refl ∙ ap Some (finished-decimal rules (length rules) (last_decimal styles));
      supplied = all_supplied rules (rules_right styles) (map name_of (put rules));
    }
