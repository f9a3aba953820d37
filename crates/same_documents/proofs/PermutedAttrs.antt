-- Attributes with distinct names are the same by name exactly where they are a permutation.
use Rattle.std.proofs.Common.{◌≡◌, ◌≢◌, ◌<◌, ℕ, zero, suc, List, [], ◌∷◌, ◌++◌, length, true, false, Option, Some, None, bytes_eq, slice_index_or, Contains, IsPermutation, refl, sym, ap, ◌∙◌, inl, inr, arith}
use Rattle.std.proofs.lemmas.Bool.{cases_Bool}
use Rattle.std.proofs.lemmas.Option.{none-some, same_Some}
use Rattle.std.proofs.lemmas.List.Sorted.{Contains-permutation, IsPermutation-cons, IsPermutation-middle, IsPermutation-refl, IsPermutation-sym, IsPermutation-trans}
use Rattle.plain_types.specs.Attributes.{value_of}
use Rattle.plain_types.specs.Tree.{HasDistinctNames}
use Rattle.plain_types.specs.declared.attr.Attr.{Attr}
use Rattle.same_documents.specs.Sameness.{AreSameAttrs}
use Rattle.same_documents.proofs.SameAttrs.{attr_with, eq_is, is_eq}

-- no attribute has the name of one before it
abbrev AreApart : List Attr → Type 0
AreApart [] = Unit {0}
AreApart (attr ∷ attrs) = (value_of attr.name attrs ≡ None) × AreApart attrs

unnamed : (name : List ℕ) (attrs : List Attr) → ((k : ℕ) (d : Attr) → k < length attrs → name ≢ (slice_index_or attrs k d).name) → value_of name attrs ≡ None
unnamed name [] none = refl
unnamed name (attr ∷ attrs) none = elim (cases_Bool (bytes_eq attr.name name)) [
  | inl e ↦ absurd (none zero attr (omega arith) (sym (eq_is attr.name name e)))
  | inr e ↦ rw e (unnamed name attrs (λ k d low. none (suc k) d (omega arith)))
]

apart : (attrs : List Attr) → HasDistinctNames attrs → AreApart attrs
apart [] distinct = tt
apart (attr ∷ attrs) distinct = (
  unnamed attr.name attrs (λ k d low. distinct zero (suc k) d (omega arith) (omega arith)),
  apart attrs (λ i j d low high. distinct (suc i) (suc j) d (omega arith) (omega arith)),
)

-- The value of a name, in a list with one attribute more.

named : (attr : Attr) (attrs : List Attr) → value_of attr.name (attr ∷ attrs) ≡ Some attr.value
named attr attrs = rw (is_eq attr.name attr.name refl) refl

value_first : (name : List ℕ) (attr : Attr) (attrs : List Attr) → bytes_eq attr.name name ≡ true → value_of name (attr ∷ attrs) ≡ Some attr.value
value_first name attr attrs e = rw e refl

value_next : (name : List ℕ) (attr : Attr) (attrs : List Attr) → bytes_eq attr.name name ≡ false → value_of name (attr ∷ attrs) ≡ value_of name attrs
value_next name attr attrs e = rw e refl

-- an attribute stands between two lists of others
pub record Stands (attr : Attr) (attrs : List Attr) : Type 0 where
  pub before : List Attr
  pub after : List Attr
  pub is : attrs ≡ before ++ attr ∷ after

standing : (name value : List ℕ) (attrs : List Attr) → value_of name attrs ≡ Some value → Stands (attr_with name value) attrs
standing name value [] is = absurd (none-some value is)
standing name value (attr ∷ attrs) is = elim (cases_Bool (bytes_eq attr.name name)) [
  | inl e ↦
      let same : attr.value ≡ value = same_Some attr.value value (sym (value_first name attr attrs e) ∙ is) in
      let its : attr ≡ attr_with name value = ap (λ n. attr_with n attr.value) (eq_is attr.name name e) ∙ ap (attr_with name) same in
      record { before = []; after = attrs; is = ap (λ a. a ∷ attrs) its }
  | inr e ↦
      let more = standing name value attrs (sym (value_next name attr attrs e) ∙ is) in
      record { before = attr ∷ more.before; after = more.after; is = ap (λ all. attr ∷ all) more.is }
]

-- the lists without it
value_around : (name : List ℕ) (attr : Attr) (before after : List Attr) → bytes_eq attr.name name ≡ false → value_of name (before ++ attr ∷ after) ≡ value_of name (before ++ after)
value_around name attr [] after e = value_next name attr after e
value_around name attr (first ∷ before) after e = elim (cases_Bool (bytes_eq first.name name)) [
  | inl f ↦ value_first name first (before ++ attr ∷ after) f ∙ sym (value_first name first (before ++ after) f)
  | inr f ↦ value_next name first (before ++ attr ∷ after) f ∙ value_around name attr before after e ∙ sym (value_next name first (before ++ after) f)
]

-- no list has a value that is there and one that is not
some_none : {V : Type 0} {P : Type 0} (o : Option V) (v : V) → o ≡ Some v → o ≡ None → P
some_none o v some none = absurd (none-some v (sym none ∙ some))

named_around : (attr : Attr) (before after : List Attr) → (v : List ℕ) × (value_of attr.name (before ++ attr ∷ after) ≡ Some v)
named_around attr [] after = (attr.value, named attr after)
named_around attr (first ∷ before) after = elim (cases_Bool (bytes_eq first.name attr.name)) [
  | inl f ↦ (first.value, value_first attr.name first (before ++ attr ∷ after) f)
  | inr f ↦ let more = named_around attr before after in (more.0, value_next attr.name first (before ++ attr ∷ after) f ∙ more.1)
]

none_around : (attr : Attr) (before after : List Attr) → AreApart (before ++ attr ∷ after) → value_of attr.name (before ++ after) ≡ None
none_around attr [] after apart = apart.0
none_around attr (first ∷ before) after apart = elim (cases_Bool (bytes_eq first.name attr.name)) [
  | inl f ↦ let there = named_around attr before after in some_none (value_of attr.name (before ++ attr ∷ after)) there.0 there.1 (ap (λ n. value_of n (before ++ attr ∷ after)) (sym (eq_is first.name attr.name f)) ∙ apart.0)
  | inr f ↦ value_next attr.name first (before ++ after) f ∙ none_around attr before after apart.1
]

apart_around : (attr : Attr) (before after : List Attr) → AreApart (before ++ attr ∷ after) → AreApart (before ++ after)
apart_around attr [] after apart = apart.1
apart_around attr (first ∷ before) after apart = (
  elim (cases_Bool (bytes_eq attr.name first.name)) [
    | inl e ↦ let there = named_around attr before after in some_none (value_of attr.name (before ++ attr ∷ after)) there.0 there.1 (ap (λ n. value_of n (before ++ attr ∷ after)) (eq_is attr.name first.name e) ∙ apart.0)
    | inr e ↦ sym (value_around first.name attr before after e) ∙ apart.0
  ],
  apart_around attr before after apart.1,
)

permuted : (attrs others : List Attr) → AreApart attrs → AreApart others → AreSameAttrs attrs others → IsPermutation attrs others
permuted [] [] apart too same = IsPermutation-refl []
permuted [] (other ∷ others) apart too same = some_none (value_of other.name (other ∷ others)) other.value (named other others) (sym (same other.name))
permuted (attr ∷ attrs) others apart too same =
    let found = standing attr.name attr.value others (sym (same attr.name) ∙ named attr attrs) in
    let rest = found.before ++ found.after in
    let split : AreApart (found.before ++ attr ∷ found.after) = rw found.is at too in
    let less : AreSameAttrs attrs rest = λ name. elim (cases_Bool (bytes_eq attr.name name)) [
      | inl e ↦
          let its : attr.name ≡ name = eq_is attr.name name e in
          ap (λ n. value_of n attrs) (sym its) ∙ apart.0 ∙ sym (none_around attr found.before found.after split) ∙ ap (λ n. value_of n rest) its
      | inr e ↦ sym (value_next name attr attrs e) ∙ same name ∙ ap (value_of name) found.is ∙ value_around name attr found.before found.after e
    ] in
    rw found.is
    (IsPermutation-trans (attr ∷ attrs) (attr ∷ rest) (found.before ++ attr ∷ found.after)
    (IsPermutation-cons attr attrs rest (permuted attrs rest apart.1 (apart_around attr found.before found.after split) less))
    (IsPermutation-sym (found.before ++ attr ∷ found.after) (attr ∷ rest) (IsPermutation-middle found.before attr found.after)))

-- An attribute is there exactly where its name has its value.

value_there : (attr : Attr) (attrs : List Attr) → AreApart attrs → Contains attrs attr → value_of attr.name attrs ≡ Some attr.value
value_there attr [] apart there = absurd (let low = there.1 in omega arith)
value_there attr (first ∷ attrs) apart (zero, low, is) =
    value_first attr.name first attrs (is_eq first.name attr.name (ap (λ (a : Attr). a.name) is)) ∙ ap (λ (a : Attr). Some a.value) is
value_there attr (first ∷ attrs) apart (suc k, low, is) =
    let more = value_there attr attrs apart.1 (k, omega arith, is) in
    elim (cases_Bool (bytes_eq first.name attr.name)) [
      | inl e ↦ some_none (value_of attr.name attrs) attr.value more (ap (λ n. value_of n attrs) (sym (eq_is first.name attr.name e)) ∙ apart.0)
      | inr e ↦ value_next attr.name first attrs e ∙ more
    ]

there_by_value : (name value : List ℕ) (attrs : List Attr) → value_of name attrs ≡ Some value → Contains attrs (attr_with name value)
there_by_value name value [] is = absurd (none-some value is)
there_by_value name value (attr ∷ attrs) is = elim (cases_Bool (bytes_eq attr.name name)) [
  | inl e ↦
      let same : attr.value ≡ value = same_Some attr.value value (sym (value_first name attr attrs e) ∙ is) in
      (zero, omega arith, ap (λ n. attr_with n attr.value) (eq_is attr.name name e) ∙ ap (attr_with name) same)
  | inr e ↦ let more = there_by_value name value attrs (sym (value_next name attr attrs e) ∙ is) in (suc more.0, (let low = more.1 in omega arith), more.2)
]

same_values : (attrs others : List Attr) → AreApart attrs → AreApart others → IsPermutation attrs others → AreSameAttrs attrs others
same_values attrs others apart too moved name = by_cases (value_of name attrs) (value_of name others) refl refl
  where
    by_cases : (one other : Option (List ℕ)) → value_of name attrs ≡ one → value_of name others ≡ other → value_of name attrs ≡ value_of name others
    by_cases None None is its = is ∙ sym its
    by_cases (Some v) other is its = is ∙ sym (value_there (attr_with name v) others too (Contains-permutation attrs others (attr_with name v) moved (there_by_value name v attrs is)))
    by_cases None (Some v) is its =
        value_there (attr_with name v) attrs apart (Contains-permutation others attrs (attr_with name v) (IsPermutation-sym attrs others moved) (there_by_value name v others its)) ∙ sym its

pub same_are_permuted : (attrs others : List Attr) → HasDistinctNames attrs → HasDistinctNames others → (AreSameAttrs attrs others → IsPermutation attrs others) × (IsPermutation attrs others → AreSameAttrs attrs others)
same_are_permuted attrs others distinct too = (permuted attrs others (apart attrs distinct) (apart others too), same_values attrs others (apart attrs distinct) (apart others too))
