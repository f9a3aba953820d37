-- Rules that are put one after the other: the last one of each name, in the order in which the names come first.
use Rattle.std.proofs.Common.{◌≡◌, ◌<◌, ◌||◌, ℕ, zero, suc, List, [], ◌∷◌, ◌++◌, Bool, true, false, not, cond, filter, map, Option, Some, None, get_or, refl, sym, ap, ◌∙◌, arith, inl, inr, append_assoc, append-nil}
use Rattle.std.specs.List.{find, fold, list_any, position, slice_get}
use Rattle.std.specs.Str.{bytes_eq}
use Rattle.std.proofs.lemmas.Bool.{cases_Bool, both_ways, or_left, or_right, false_from_ne_true}
use Rattle.std.proofs.lemmas.Bool.Decides.{same_from_decides, Decides-like}
use Rattle.std.proofs.lemmas.Slice.Eq.{bytes_eq-Decides}
use Rattle.std.proofs.lemmas.Option.{slice_get_within, get_or_from_slice_get}
use Rattle.plain_types.specs.declared.counter_style.StyleDef.{StyleDef}
use Rattle.plain_types.proofs.PlaceLemmas.{position_found}
use Rattle.css_definitions.specs.CounterStyles.{distinct, last_named}
use Rattle.counter_style_table.proofs.CycleLemmas.{none_some}
use Rattle.counter_style_table.specs.Rules.{is_named, name_of, with_rule}

pub bytes_eq-sym : (a b : List ℕ) → bytes_eq a b ≡ bytes_eq b a
bytes_eq-sym a b = same_from_decides _ _ (Decides-like _ (λ e. sym e) (λ e. sym e) (bytes_eq-Decides a b)) (bytes_eq-Decides b a)

pub bytes_eq-refl : (a : List ℕ) → bytes_eq a a ≡ true
bytes_eq-refl a = (bytes_eq-Decides a a).1 refl

pub bytes_eq-same : (a b : List ℕ) → bytes_eq a b ≡ true → a ≡ b
bytes_eq-same a b h = (bytes_eq-Decides a b).0 h

-- The last rule of a name.

find-with_rule : (name : List ℕ) (rules : List StyleDef) (rule : StyleDef) → find (is_named name) (with_rule rules rule) ≡ cond (is_named name rule) (Some rule) (find (is_named name) rules)
find-with_rule name [] rule = refl
find-with_rule name (other ∷ rules) rule = elim (cases_Bool (is_named (name_of rule) other)) [
  | inl h ↦
      let same : name_of rule ≡ name_of other = bytes_eq-same (name_of rule) (name_of other) h in
      elim (cases_Bool (is_named name rule)) [
        | inl i ↦ rw (h, i) refl
        | inr i ↦ let away : is_named name other ≡ false = ap (bytes_eq name) (sym same) ∙ i in rw (h, i, away) refl
      ]
  | inr h ↦ elim (cases_Bool (is_named name other)) [
    | inl i ↦
        let away : is_named name rule ≡ false =
        false_from_ne_true _ (λ j. both_ways _ h (ap (λ n. bytes_eq n (name_of other)) (sym (bytes_eq-same name (name_of rule) j)) ∙ i)) in
        rw (h, i, away) refl
    | inr i ↦ rw (h, i) (find-with_rule name rules rule)
  ]
]

last_from : (name : List ℕ) (rules before : List StyleDef) (found : Option StyleDef) → found ≡ find (is_named name) before
    → fold (λ last (rule : StyleDef). cond (bytes_eq (name_of rule) name) (Some rule) last) found rules ≡ find (is_named name) (fold with_rule before rules)
last_from name [] before found e = e
last_from name (rule ∷ rules) before found e =
    last_from name rules (with_rule before rule) (cond (bytes_eq (name_of rule) name) (Some rule) found)
    (ap (λ b. cond b (Some rule) found) (bytes_eq-sym (name_of rule) name) ∙ ap (cond (is_named name rule) (Some rule)) e ∙ sym (find-with_rule name before rule))

-- the last rule of a name is the one that has it among the rules that were put
pub last_named-put : (rules : List StyleDef) (name : List ℕ) → last_named rules name ≡ find (is_named name) (fold with_rule [] rules)
last_named-put rules name = last_from name rules [] None refl

-- The names, each once.

abbrev is_among : List (List ℕ) → List ℕ → Bool
is_among names name = list_any (bytes_eq name) names

is_among-push : (names : List (List ℕ)) (last name : List ℕ) → is_among (names ++ last ∷ []) name ≡ (is_among names name || bytes_eq name last)
is_among-push [] last name = or_nothing (bytes_eq name last) where
  or_nothing : (b : Bool) → (b || false) ≡ b
  or_nothing true = refl
  or_nothing false = refl
is_among-push (first ∷ names) last name = ap (λ rest. bytes_eq name first || rest) (is_among-push names last name) ∙ or_assoc (bytes_eq name first) (is_among names name) (bytes_eq name last) where
  or_assoc : (a b c : Bool) → (a || (b || c)) ≡ ((a || b) || c)
  or_assoc true b c = refl
  or_assoc false b c = refl

names-with_rule : (rules : List StyleDef) (rule : StyleDef) → map name_of (with_rule rules rule) ≡ cond (is_among (map name_of rules) (name_of rule)) (map name_of rules) (map name_of rules ++ name_of rule ∷ [])
names-with_rule [] rule = refl
names-with_rule (other ∷ rules) rule = elim (cases_Bool (is_named (name_of rule) other)) [
  | inl h ↦ rw (h) (ap (λ name. name ∷ map name_of rules) (bytes_eq-same (name_of rule) (name_of other) h))
  | inr h ↦ rw (h) (ap (λ names. name_of other ∷ names) (names-with_rule rules rule) ∙ cons_cond (is_among (map name_of rules) (name_of rule)) (name_of other) (map name_of rules) (map name_of rules ++ name_of rule ∷ []))
] where
  cons_cond : (b : Bool) (x : List ℕ) (xs ys : List (List ℕ)) → x ∷ cond b xs ys ≡ cond b (x ∷ xs) (x ∷ ys)
  cons_cond true x xs ys = refl
  cons_cond false x xs ys = refl

abbrev fresh : List (List ℕ) → List (List ℕ) → List (List ℕ)
fresh names more = filter (λ name. not (is_among names name)) more

-- a name that is there already takes nothing more away
fresh-others : (names : List (List ℕ)) (name : List ℕ) (more : List (List ℕ)) → is_among names name ≡ true → fresh names (filter (λ other. not (bytes_eq name other)) more) ≡ fresh names more
fresh-others names name [] h = refl
fresh-others names name (x ∷ more) h = elim (cases_Bool (bytes_eq name x)) [
  | inl same ↦
      let there : is_among names x ≡ true = ap (is_among names) (sym (bytes_eq-same name x same)) ∙ h in
      rw (same, there) (fresh-others names name more h)
  | inr away ↦ elim (cases_Bool (is_among names x)) [
    | inl there ↦ rw (away, there) (fresh-others names name more h)
    | inr new ↦ rw (away, new) (ap (λ rest. x ∷ rest) (fresh-others names name more h))
  ]
]

fresh-push : (names : List (List ℕ)) (name : List ℕ) (more : List (List ℕ)) → fresh (names ++ name ∷ []) more ≡ fresh names (filter (λ other. not (bytes_eq name other)) more)
fresh-push names name [] = refl
fresh-push names name (x ∷ more) =
    let test : is_among (names ++ name ∷ []) x ≡ (is_among names x || bytes_eq name x) = is_among-push names name x ∙ ap (λ b. is_among names x || b) (bytes_eq-sym x name) in
    elim (cases_Bool (bytes_eq name x)) [
      | inl same ↦
          let there : is_among (names ++ name ∷ []) x ≡ true = test ∙ or_right (is_among names x) (bytes_eq name x) same in
          rw (there, same) (fresh-push names name more)
      | inr away ↦ elim (cases_Bool (is_among names x)) [
        | inl in_names ↦
            let there : is_among (names ++ name ∷ []) x ≡ true = test ∙ or_left (is_among names x) (bytes_eq name x) in_names in
            rw (there, away, in_names) (fresh-push names name more)
        | inr new ↦
            let gone : is_among (names ++ name ∷ []) x ≡ false = test ∙ ap (λ b. b || bytes_eq name x) new ∙ away in
            rw (gone, away, new) (ap (λ rest. x ∷ rest) (fresh-push names name more))
      ]
    ]

names_from : (rules before : List StyleDef) → map name_of (fold with_rule before rules) ≡ map name_of before ++ fresh (map name_of before) (distinct (map name_of rules))
names_from [] before = sym (append-nil (map name_of before))
names_from (rule ∷ rules) before =
    names_from rules (with_rule before rule)
    ∙ elim (cases_Bool (is_among (map name_of before) (name_of rule))) [
      | inl there ↦
          let same : map name_of (with_rule before rule) ≡ map name_of before = names-with_rule before rule ∙ ap (λ b. cond b (map name_of before) (map name_of before ++ name_of rule ∷ [])) there in
          ap (λ names. names ++ fresh names (distinct (map name_of rules))) same
          ∙ ap (λ rest. map name_of before ++ rest) (sym (fresh-others (map name_of before) (name_of rule) (distinct (map name_of rules)) there))
          ∙ ap (λ b. map name_of before ++ cond (not b) (name_of rule ∷ fresh (map name_of before) (filter (λ other. not (bytes_eq (name_of rule) other)) (distinct (map name_of rules)))) (fresh (map name_of before) (filter (λ other. not (bytes_eq (name_of rule) other)) (distinct (map name_of rules))))) (sym there)
      | inr new ↦
          let pushed : map name_of (with_rule before rule) ≡ map name_of before ++ name_of rule ∷ [] = names-with_rule before rule ∙ ap (λ b. cond b (map name_of before) (map name_of before ++ name_of rule ∷ [])) new in
          ap (λ names. names ++ fresh names (distinct (map name_of rules))) pushed
          ∙ append_assoc (map name_of before) (name_of rule ∷ []) (fresh (map name_of before ++ name_of rule ∷ []) (distinct (map name_of rules)))
          ∙ ap (λ rest. map name_of before ++ name_of rule ∷ rest) (fresh-push (map name_of before) (name_of rule) (distinct (map name_of rules)))
          ∙ ap (λ b. map name_of before ++ cond (not b) (name_of rule ∷ fresh (map name_of before) (filter (λ other. not (bytes_eq (name_of rule) other)) (distinct (map name_of rules)))) (fresh (map name_of before) (filter (λ other. not (bytes_eq (name_of rule) other)) (distinct (map name_of rules))))) (sym new)
    ]

all_fresh : (names : List (List ℕ)) → fresh [] names ≡ names
all_fresh [] = refl
all_fresh (x ∷ names) = ap (λ rest. x ∷ rest) (all_fresh names)

-- the names of the rules that were put are those of the rules, each once
pub names-put : (rules : List StyleDef) → map name_of (fold with_rule [] rules) ≡ distinct (map name_of rules)
names-put rules = names_from rules [] ∙ all_fresh (distinct (map name_of rules))

-- No two rules that were put have one name.

abbrev pub AreApart : List StyleDef → Type 0
AreApart [] = Unit {0}
AreApart (rule ∷ rules) = (is_among (map name_of rules) (name_of rule) ≡ false) × AreApart rules

apart-with_rule : (rules : List StyleDef) (rule : StyleDef) → AreApart rules → AreApart (with_rule rules rule)
apart-with_rule [] rule a = (refl, tt)
apart-with_rule (other ∷ rules) rule a = elim (cases_Bool (is_named (name_of rule) other)) [
  | inl h ↦ rw h (ap (is_among (map name_of rules)) (bytes_eq-same (name_of rule) (name_of other) h) ∙ a.0, a.1)
  | inr h ↦ rw h (ap (λ names. is_among names (name_of other)) (names-with_rule rules rule) ∙ still_new (is_among (map name_of rules) (name_of rule)) (bytes_eq-sym (name_of other) (name_of rule) ∙ h), apart-with_rule rules rule a.1)
] where
  still_new : (b : Bool) → bytes_eq (name_of other) (name_of rule) ≡ false → is_among (cond b (map name_of rules) (map name_of rules ++ name_of rule ∷ [])) (name_of other) ≡ false
  still_new true e = a.0
  still_new false e = is_among-push (map name_of rules) (name_of rule) (name_of other) ∙ ap (λ b. b || bytes_eq (name_of other) (name_of rule)) a.0 ∙ e

apart_from : (rules before : List StyleDef) → AreApart before → AreApart (fold with_rule before rules)
apart_from [] before a = a
apart_from (rule ∷ rules) before a = apart_from rules (with_rule before rule) (apart-with_rule before rule a)

pub apart-put : (rules : List StyleDef) → AreApart (fold with_rule [] rules)
apart-put rules = apart_from rules [] tt

among-at : (rules : List StyleDef) (k : ℕ) (rule : StyleDef) → slice_get rules k ≡ Some rule → is_among (map name_of rules) (name_of rule) ≡ true
among-at [] k rule e = absurd (none_some (sym (slice_get-nil k) ∙ e)) where
  slice_get-nil : (k : ℕ) → slice_get {X = StyleDef} [] k ≡ None
  slice_get-nil zero = refl
  slice_get-nil (suc k) = refl
among-at (first ∷ rules) zero rule e = let same : first ≡ rule = cc in or_left (bytes_eq (name_of rule) (name_of first)) (is_among (map name_of rules) (name_of rule)) (ap (λ r. bytes_eq (name_of rule) (name_of r)) same ∙ bytes_eq-refl (name_of rule))
among-at (first ∷ rules) (suc k) rule e = or_right (bytes_eq (name_of rule) (name_of first)) (is_among (map name_of rules) (name_of rule)) (among-at rules k rule e)

before-own : (rules : List StyleDef) (k : ℕ) (rule : StyleDef) → AreApart rules → slice_get rules k ≡ Some rule → (j : ℕ) (d : StyleDef) → j < k → is_named (name_of rule) (get_or rules j d) ≡ false
before-own [] k rule a e j d h = absurd (none_some (sym (slice_get-nil k) ∙ e)) where
  slice_get-nil : (k : ℕ) → slice_get {X = StyleDef} [] k ≡ None
  slice_get-nil zero = refl
  slice_get-nil (suc k) = refl
before-own (first ∷ rules) zero rule a e j d h = absurd (omega arith)
before-own (first ∷ rules) (suc k) rule a e zero d h =
    false_from_ne_true _ (λ same. both_ways _ a.0 (ap (is_among (map name_of rules)) (sym (bytes_eq-same (name_of rule) (name_of first) same)) ∙ among-at rules k rule e))
before-own (first ∷ rules) (suc k) rule a e (suc j) d h = before-own rules k rule a.1 e j d (omega arith)

-- a rule is found under its name
pub position-own : (rules : List StyleDef) (k : ℕ) (rule : StyleDef) → AreApart rules → slice_get rules k ≡ Some rule → position (is_named (name_of rule)) rules ≡ Some k
position-own rules k rule a e =
    position_found (is_named (name_of rule)) rules k rule (slice_get_within rules k rule e) (sym (get_or_from_slice_get rules k rule rule e)) (bytes_eq-refl (name_of rule)) (before-own rules k rule a e)
