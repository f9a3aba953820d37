-- Attributes that are set and unset.
use Rattle.std.proofs.Common.{◌≡◌, ◌≢◌, ◌<◌, ◌+◌, ℕ, zero, suc, Bool, true, false, not, ◌&&◌, ◌||◌, cond, List, [], ◌∷◌, ◌++◌, length, take, drop, get_or, find, All, Some, None, refl, sym, ap, subst, ◌∙◌, arith, append_assoc, append-nil, take-append-drop, take_all, drop-cons, add-one}
use Rattle.std.proofs.lemmas.List.{take_more, drop_all}
use Rattle.std.proofs.lemmas.List.Kept.{AllPairs-cons, AllPairs-filter}
use Rattle.std.proofs.lemmas.List.Elements.{filter_more, All-cons}
use Rattle.std.proofs.lemmas.Slice.Eq.{bytes_eq-Decides}
use Rattle.plain_types.specs.Tree.{HasDistinctNames}
use Rattle.plain_types.specs.declared.attr.Attr.{Attr}
use Rattle.node_arena.specs.Edits.{with_attr, without_attr}
use Rattle.plain_types.specs.Attributes.{is_named}
use Rattle.node_arena.proofs.NodeLaws.{find-more}

-- How far the copies are: an attribute of the name was met, or not yet.
abbrev pub IsCopied : Bool → List Attr → ℕ → List Attr → List ℕ → List ℕ → Type 0
IsCopied true copies place attrs name value = copies ++ drop place attrs ≡ with_attr name value attrs
IsCopied false copies place attrs name value = (copies ≡ take place attrs) × (find (is_named name) (take place attrs) ≡ None)

-- attributes of other names stay in front
skips : (name value : List ℕ) (front rest : List Attr) → find (is_named name) front ≡ None → with_attr name value (front ++ rest) ≡ front ++ with_attr name value rest
skips name value [] rest none = refl
skips name value (a ∷ front) rest none =
    elim (is_named name a) as (λ b. cond b (Some a) (find (is_named name) front) ≡ None → cond b (record { name = name; value = value } ∷ (front ++ rest)) (a ∷ with_attr name value (front ++ rest)) ≡ a ∷ (front ++ with_attr name value rest)) [
      | true ↦ λ e. absurd (cc)
      | false ↦ λ e. ap (λ rest. a ∷ rest) (skips name value front rest e)
    ] none

named-here : (name value : List ℕ) (a : Attr) (rest : List Attr) → is_named name a ≡ true → with_attr name value (a ∷ rest) ≡ record { name = name; value = value } ∷ rest
named-here name value a rest e = rw e refl

split : (attrs : List Attr) (place : ℕ) (a : Attr) → place < length attrs → a ≡ get_or attrs place a → attrs ≡ take place attrs ++ (a ∷ drop (place + 1) attrs)
split attrs place a within is =
    sym (take-append-drop place attrs) ∙ ap (λ rest. take place attrs ++ rest) (drop-cons attrs place a within ∙ ap (λ x. x ∷ drop (suc place) attrs) (sym is) ∙ ap (λ k. a ∷ drop k attrs) (sym (add-one place)))

pub copied-one : (copies : List Attr) (place : ℕ) (attrs : List Attr) (name value : List ℕ) (a : Attr) → place < length attrs → a ≡ get_or attrs place a → IsCopied true copies place attrs name value → IsCopied true (copies ++ a ∷ []) (place + 1) attrs name value
copied-one copies place attrs name value a within is h =
    append_assoc copies (a ∷ []) (drop (place + 1) attrs)
    ∙ ap (λ rest. copies ++ rest) (sym (drop-cons attrs place a within ∙ ap (λ x. x ∷ drop (suc place) attrs) (sym is) ∙ ap (λ k. a ∷ drop k attrs) (sym (add-one place))))
    ∙ h

pub copied-other : (copies : List Attr) (place : ℕ) (attrs : List Attr) (name value : List ℕ) (a : Attr) → place < length attrs → a ≡ get_or attrs place a → is_named name a ≡ false → IsCopied false copies place attrs name value → IsCopied false (copies ++ a ∷ []) (place + 1) attrs name value
copied-other copies place attrs name value a within is other h = (
  ap (λ front. front ++ a ∷ []) h.0 ∙ ap (λ x. take place attrs ++ x ∷ []) is ∙ sym (take_more attrs place a within),
  find-more (is_named name) attrs place a within is h.1 other,
)

pub copied-named : (copies : List Attr) (place : ℕ) (attrs : List Attr) (name value : List ℕ) (a : Attr) → place < length attrs → a ≡ get_or attrs place a → is_named name a ≡ true → IsCopied false copies place attrs name value → IsCopied true (copies ++ record { name = name; value = value } ∷ []) (place + 1) attrs name value
copied-named copies place attrs name value a within is named h =
    append_assoc copies (record { name = name; value = value } ∷ []) (drop (place + 1) attrs)
    ∙ ap (λ front. front ++ record { name = name; value = value } ∷ drop (place + 1) attrs) h.0
    ∙ ap (λ rest. take place attrs ++ rest) (sym (named-here name value a (drop (place + 1) attrs) named))
    ∙ sym (skips name value (take place attrs) (a ∷ drop (place + 1) attrs) h.1)
    ∙ sym (ap (with_attr name value) (split attrs place a within is))

pub copied-all : (copies : List Attr) (attrs : List Attr) (name value : List ℕ) (place : ℕ) → length attrs ≡ place → IsCopied true copies place attrs name value → copies ≡ with_attr name value attrs
copied-all copies attrs name value place all h = sym (append-nil copies) ∙ ap (λ rest. copies ++ rest) (sym (drop_all place attrs (omega arith))) ∙ h

pub copied-last : (copies : List Attr) (attrs : List Attr) (name value : List ℕ) (place : ℕ) → length attrs ≡ place → IsCopied false copies place attrs name value → copies ++ record { name = name; value = value } ∷ [] ≡ with_attr name value attrs
copied-last copies attrs name value place all h =
    let whole : take place attrs ≡ attrs = take_all place attrs (omega arith) in
    ap (λ front. front ++ record { name = name; value = value } ∷ []) (h.0 ∙ whole)
    ∙ sym (skips name value attrs [] (ap (find (is_named name)) (sym whole) ∙ h.1))
    ∙ ap (with_attr name value) (append-nil attrs)

filtered-more : (attrs : List Attr) (place : ℕ) (name : List ℕ) (a : Attr) → place < length attrs → a ≡ get_or attrs place a → without_attr name (take (place + 1) attrs) ≡ without_attr name (take place attrs) ++ cond (not (is_named name a)) (a ∷ []) []
filtered-more attrs place name a within is =
    filter_more (λ (x : Attr). not (is_named name x)) attrs place a within ∙ ap (λ x. without_attr name (take place attrs) ++ cond (not (is_named name x)) (x ∷ []) []) (sym is)

pub filtered-stays : (attrs : List Attr) (place : ℕ) (name : List ℕ) (a : Attr) → place < length attrs → a ≡ get_or attrs place a → is_named name a ≡ false → without_attr name (take (place + 1) attrs) ≡ without_attr name (take place attrs) ++ a ∷ []
filtered-stays attrs place name a within is other = filtered-more attrs place name a within is ∙ ap (λ b. without_attr name (take place attrs) ++ cond (not b) (a ∷ []) []) other

pub filtered-goes : (attrs : List Attr) (place : ℕ) (name : List ℕ) (a : Attr) → place < length attrs → a ≡ get_or attrs place a → is_named name a ≡ true → without_attr name (take (place + 1) attrs) ≡ without_attr name (take place attrs)
filtered-goes attrs place name a within is named = filtered-more attrs place name a within is ∙ ap (λ b. without_attr name (take place attrs) ++ cond (not b) (a ∷ []) []) named ∙ append-nil (without_attr name (take place attrs))

-- one attribute more
pub copied-step : (placed : Bool) (copies : List Attr) (place : ℕ) (attrs : List Attr) (name value : List ℕ) (a copy : Attr) (here : Bool) → place < length attrs → a ≡ get_or attrs place a → here ≡ not placed && is_named name a
    → copy ≡ cond here (record { name = name; value = value }) a → IsCopied placed copies place attrs name value → IsCopied (placed || here) (copies ++ copy ∷ []) (place + 1) attrs name value
copied-step true copies place attrs name value a copy here within is test e h =
    let none : here ≡ false = test in
    let same : copy ≡ a = e ∙ ap (λ b. cond b (record { name = name; value = value }) a) none in
    rw same (copied-one copies place attrs name value a within is h)
copied-step false copies place attrs name value a copy here within is test e h =
    elim (is_named name a) as (λ b. is_named name a ≡ b → here ≡ b → IsCopied (false || here) (copies ++ copy ∷ []) (place + 1) attrs name value) [
      | true ↦ λ named now. rw (e, now) (copied-named copies place attrs name value a within is named h)
      | false ↦ λ other now. rw (e, now) (copied-other copies place attrs name value a within is other h)
    ] refl test

-- Names stay distinct.

named-is : (name : List ℕ) (a : Attr) → is_named name a ≡ true → a.name ≡ name
named-is name a e = let d = bytes_eq-Decides a.name name in d.0 e

unnamed-is : (name : List ℕ) (a : Attr) → is_named name a ≡ false → a.name ≢ name
unnamed-is name a e is = let d = bytes_eq-Decides a.name name in absurd (let yes : is_named name a ≡ true = d.1 is in cc)

abbrev Differs : Attr → Attr → Type 0
Differs first second = first.name ≢ second.name

rest-pairs : (a : Attr) (attrs : List Attr) → HasDistinctNames (a ∷ attrs) → HasDistinctNames attrs
rest-pairs a attrs h i j d low high = h (suc i) (suc j) d (omega arith) (omega arith)

first-pairs : (a : Attr) (attrs : List Attr) → HasDistinctNames (a ∷ attrs) → All (Differs a) attrs
first-pairs a attrs h k d low = h zero (suc k) d (omega arith) (omega arith)

all-rest : (P : Attr → Type 0) (x : Attr) (xs : List Attr) → All P (x ∷ xs) → All P xs
all-rest P x xs h k d low = h (suc k) d (omega arith)

all-first : (P : Attr → Type 0) (x : Attr) (xs : List Attr) → All P (x ∷ xs) → P x
all-first P x xs h = h zero x (omega arith)

-- an attribute that differs from all, and from the new one, differs from all then
all-with : (a : Attr) (name value : List ℕ) (attrs : List Attr) → a.name ≢ name → All (Differs a) attrs → All (Differs a) (with_attr name value attrs)
all-with a name value [] ne h = All-cons (Differs a) (record { name = name; value = value }) [] ne h
all-with a name value (x ∷ xs) ne h =
    elim (is_named name x) as (λ b. All (Differs a) (cond b (record { name = name; value = value } ∷ xs) (x ∷ with_attr name value xs))) [
      | true ↦ All-cons (Differs a) (record { name = name; value = value }) xs ne (all-rest (Differs a) x xs h)
      | false ↦ All-cons (Differs a) x (with_attr name value xs) (all-first (Differs a) x xs h) (all-with a name value xs ne (all-rest (Differs a) x xs h))
    ]

pub distinct-with : (name value : List ℕ) (attrs : List Attr) → HasDistinctNames attrs → HasDistinctNames (with_attr name value attrs)
distinct-with name value [] h = AllPairs-cons Differs (record { name = name; value = value }) [] (λ k d low. absurd (omega arith)) h
distinct-with name value (x ∷ xs) h =
    elim (is_named name x) as (λ b. is_named name x ≡ b → HasDistinctNames (cond b (record { name = name; value = value } ∷ xs) (x ∷ with_attr name value xs))) [
      | true ↦ λ is. AllPairs-cons Differs (record { name = name; value = value }) xs (subst (λ n. All (λ (other : Attr). n ≢ other.name) xs) (named-is name x is) (first-pairs x xs h)) (rest-pairs x xs h)
      | false ↦ λ is. AllPairs-cons Differs x (with_attr name value xs) (all-with x name value xs (unnamed-is name x is) (first-pairs x xs h)) (distinct-with name value xs (rest-pairs x xs h))
    ] refl

pub distinct-without : (name : List ℕ) (attrs : List Attr) → HasDistinctNames attrs → HasDistinctNames (without_attr name attrs)
distinct-without name attrs h = AllPairs-filter Differs (λ a. not (is_named name a)) attrs h
