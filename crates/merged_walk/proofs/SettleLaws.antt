-- The changes, put over what was held, give all that is told anew. Throughout, k is a key, x an entry and xs entries.
use Rattle.std.proofs.Common.{◌≡◌, ◌==◌, ℕ, Bool, true, false, cond, List, [], ◌∷◌, Option, Some, None, refl, sym, ap, ◌∙◌, ◌⊎◌, inl, inr, eqb-true, eq-eqb, arith}
use Rattle.std.specs.Prelude.{Contains}
use Rattle.std.specs.List.{list_any}
use Rattle.std.specs.Option.{option_or}
use Rattle.std.proofs.lemmas.Bool.{both_ways}
use Rattle.std.proofs.lemmas.List.Elements.{All-cons, All-contains, All-nil, Contains-append_cases, Contains-append_right}
use Rattle.merged_walk.specs.Entries.{AgreeByKeys, AreAmong, Covers, first_at, last_at, put_over}
use Rattle.merged_walk.proofs.EntryLaws.{contains-first}

none_either : {A : Type 0} (b : Bool) → cond {A = Option A} b None None ≡ None
none_either true = refl
none_either false = refl

module _ {R : Type 0} where
  -- a look-up finds a value that stands under the key, or none stands there
  pub data Found (look : Option R) (xs : List (ℕ × R)) (k : ℕ) : Type 0 where
    found : (v : R) → look ≡ Some v → Contains xs (k, v) → Found look xs k
    missed : look ≡ None → ((v : R) → Contains xs (k, v) → ⊥) → Found look xs k

  found-later : (x y : ℕ × R) (xs : List (ℕ × R)) → Contains xs y → Contains (x ∷ xs) y
  found-later x y xs h = Contains-append_right (x ∷ []) xs y h

  found-here : (x : ℕ × R) (xs : List (ℕ × R)) (k : ℕ) → (x.0 == k) ≡ true → Contains (x ∷ xs) (k, x.1)
  found-here x xs k h =
      let same = eqb-true x.0 k h in let its : (k, x.1) ≡ x = λ i. (sym same i, x.1) in rw its (contains-first x xs)

  the-one : (x y : ℕ × R) → Contains (x ∷ []) y → x ≡ y
  the-one x y h = All-contains (λ z. x ≡ z) (x ∷ []) y (All-cons (λ z. x ≡ z) x [] refl (All-nil (λ z. x ≡ z))) h

  nowhere-yet : (x : ℕ × R) (xs : List (ℕ × R)) (k : ℕ) → (x.0 == k) ≡ false → ((v : R) → Contains xs (k, v) → ⊥) → (v : R) → Contains (x ∷ xs) (k, v) → ⊥
  nowhere-yet x xs k h nowhere v at = elim (Contains-append_cases (x ∷ []) xs (k, v) at) [
    | inl first ↦ both_ways (x.0 == k) h (eq-eqb x.0 k (ap (λ (y : ℕ × R). y.0) (the-one x (k, v) first)))
    | inr rest ↦ nowhere v rest
  ]

  first-step : (x : ℕ × R) (xs : List (ℕ × R)) (k : ℕ) (b : Bool) → (x.0 == k) ≡ b → Found (first_at xs k) xs k → Found (cond b (Some x.1) (first_at xs k)) (x ∷ xs) k
  first-step x xs k true h rest = found x.1 refl (found-here x xs k h)
  first-step x xs k false h (found v is there) = found v is (found-later x (k, v) xs there)
  first-step x xs k false h (missed is nowhere) = missed is (nowhere-yet x xs k h nowhere)

  first-found : (xs : List (ℕ × R)) (k : ℕ) → Found (first_at xs k) xs k
  first-found [] k = missed refl (λ v h. absurd (omega (arith, h.1)))
  first-found (x ∷ xs) k = first-step x xs k (x.0 == k) refl (first-found xs k)

  last-step : (x : ℕ × R) (xs : List (ℕ × R)) (k : ℕ) (b : Bool) → (x.0 == k) ≡ b → Found (last_at xs k) xs k → Found (option_or (last_at xs k) (cond b (Some x.1) None)) (x ∷ xs) k
  last-step x xs k b h (found v is there) = found v (ap (λ o. option_or o (cond b (Some x.1) None)) is) (found-later x (k, v) xs there)
  last-step x xs k true h (missed is nowhere) = found x.1 (ap (λ o. option_or o (Some x.1)) is) (found-here x xs k h)
  last-step x xs k false h (missed is nowhere) = missed (ap (λ o. option_or o None) is) (nowhere-yet x xs k h nowhere)

  last-found : (xs : List (ℕ × R)) (k : ℕ) → Found (last_at xs k) xs k
  last-found [] k = missed refl (λ v h. absurd (omega (arith, h.1)))
  last-found (x ∷ xs) k = last-step x xs k (x.0 == k) refl (last-found xs k)

  module _ (all changes : List (ℕ × R)) (takes : List ℕ) (held : ℕ → Option R) (agree : AgreeByKeys all) (among : AreAmong changes all) (covers : Covers changes held all)
      (stays : (k : ℕ) (v : R) → Contains all (k, v) → list_any (λ taken. taken == k) takes ≡ false)
      (goes : (k : ℕ) → ((v : R) → Contains all (k, v) → ⊥) → (held k ≡ None) ⊎ (list_any (λ taken. taken == k) takes ≡ true)) where
    abbrev is_taken : ℕ → Bool
    is_taken k = list_any (λ taken. taken == k) takes

    abbrev over : ℕ → Option R → Option R
    over k look = option_or look (cond (is_taken k) None (held k))

    settles-key : (k : ℕ) → Found (first_at all k) all k → Found (last_at changes k) changes k → put_over changes takes held k ≡ first_at all k
    settles-key k (found v is there) (found w was change) =
        ap (over k) was ∙ ap (λ (x : ℕ × R). Some x.1) (agree (k, w) (k, v) (All-contains (Contains all) changes (k, w) among change) there refl) ∙ sym is
    settles-key k (found v is there) (missed none nowhere) =
        let told : Contains changes (k, v) ⊎ (held k ≡ Some v) = All-contains (λ (x : ℕ × R). Contains changes x ⊎ (held x.0 ≡ Some x.1)) all (k, v) covers there in
        let held_is : held k ≡ Some v = elim told [ inl c ↦ absurd (nowhere v c) | inr h ↦ h ] in
        ap (over k) none ∙ ap (λ b. cond b None (held k)) (stays k v there) ∙ held_is ∙ sym is
    settles-key k (missed is nowhere) (found w was change) = absurd (nowhere w (All-contains (Contains all) changes (k, w) among change))
    settles-key k (missed is nowhere) (missed none no_change) =
        ap (over k) none
        ∙ elim (goes k nowhere) [
          | inl h ↦ ap (cond (is_taken k) None) h ∙ none_either (is_taken k)
          | inr t ↦ ap (λ b. cond b None (held k)) t
        ] ∙ sym is

    pub settles : (k : ℕ) → put_over changes takes held k ≡ first_at all k
    settles k = settles-key k (first-found all k) (last-found changes k)
