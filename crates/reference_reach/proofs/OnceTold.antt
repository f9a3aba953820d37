-- What is told of an element stands once under its key. Throughout, e is an evaluator, i what trees are handed, n a node, c
-- what is under it, r what is after it, g trees, and k a key.
use Rattle.std.proofs.Common.{◌≡◌, ◌==◌, ◌≤◌, ◌<◌, ◌+◌, ℕ, Bool, true, false, cond, List, [], ◌∷◌, ◌++◌, Option, Some, None, IsSome, refl, sym, ap, subst, ◌∙◌, arith, eqb-true, eq-eqb}
use Rattle.std.specs.Prelude.{All, is_some}
use Rattle.std.proofs.lemmas.List.Elements.{All-cons, All-nil, All-head, All-tail, All-weaker}
use Rattle.std.proofs.lemmas.Option.{none-some, same_Some}
use Rattle.forest.specs.Forest.{Forest, Empty, Tree}
use Rattle.forest.specs.Keys.{Keyed, HasDistinctKeys, times}
use Rattle.generated_texts.specs.References.{kept_at}
use Rattle.merged_walk.specs.Entries.{Holds}
use Rattle.merged_walk.specs.Evaluators.{Evaluator, past_all, told, told_all}

module _ {V : Type 0} where
  -- how often a key comes
  abbrev count_of_key : ℕ → List (ℕ × V) → ℕ
  count_of_key k [] = 0
  count_of_key k (x ∷ xs) = cond (x.0 == k) 1 0 + count_of_key k xs

  count-append : (k : ℕ) (xs ys : List (ℕ × V)) → count_of_key k (xs ++ ys) ≡ count_of_key k xs + count_of_key k ys
  count-append k [] ys = omega arith
  count-append k (x ∷ xs) ys = omega (arith, count-append k xs ys)

  -- an entry comes under its key, and is the first there
  abbrev IsFirst : List (ℕ × V) → ℕ × V → Type 0
  IsFirst kept x = (0 < count_of_key x.0 kept) × (kept_at kept x.0 ≡ Some x.1)

  first-more : (x : ℕ × V) (xs : List (ℕ × V)) → ((k : ℕ) → count_of_key k (x ∷ xs) ≤ 1) → (y : ℕ × V) → IsFirst xs y → IsFirst (x ∷ xs) y
  first-more x xs once y first = by (x.0 == y.0) refl (once y.0)
    where
      by : (b : Bool) → (x.0 == y.0) ≡ b → cond {A = ℕ} b 1 0 + count_of_key y.0 xs ≤ 1 → IsFirst (x ∷ xs) y
      by true is few = absurd (let some = first.0 in omega (arith, few, some))
      by false is few = let some = first.0 in (omega (arith, some), rw is first.1)

  firsts : (kept : List (ℕ × V)) → ((k : ℕ) → count_of_key k kept ≤ 1) → All (IsFirst kept) kept
  firsts [] once = All-nil (IsFirst [])
  firsts (x ∷ xs) once =
      let own : (x.0 == x.0) ≡ true = eq-eqb x.0 x.0 refl in
      All-cons (IsFirst (x ∷ xs)) x xs (rw own (omega arith), rw own refl)
      (All-weaker (IsFirst xs) (IsFirst (x ∷ xs)) (first-more x xs once) xs (firsts xs (λ k. let few = once k in omega (arith, few))))

  pub holds-once : (kept : List (ℕ × V)) → ((k : ℕ) → count_of_key k kept ≤ 1) → Holds (kept_at kept) kept
  holds-once kept once = All-weaker (IsFirst kept) (λ (x : ℕ × V). kept_at kept x.0 ≡ Some x.1) (λ x first. first.1) kept (firsts kept once)

  -- what is kept under a key has what each entry has
  pub kept-has : (P : ℕ × V → Type 0) (kept : List (ℕ × V)) (k : ℕ) (v : V) → kept_at kept k ≡ Some v → All P kept → P (k, v)
  kept-has P [] k v is all = absurd (none-some v is)
  kept-has P (x ∷ xs) k v is all = by (x.0 == k) refl (λ later. kept-has P xs k v later (All-tail P x xs all))
    where
      by : (b : Bool) → (x.0 == k) ≡ b → (kept_at xs k ≡ Some v → P (k, v)) → P (k, v)
      by true same later =
          let its : Some x.1 ≡ Some v = rw same at is in
          let key : x.0 ≡ k = eqb-true x.0 k same in
          let value : x.1 ≡ v = same_Some x.1 v its in
          subst (λ (y : ℕ × V). P y) (λ t. (key t, value t)) (All-head P x xs all)
      by false same later = later (rw same at is)

module _ {L K H : Type 0} (e : Evaluator L K H) where
  count-own : (k : ℕ) (n : Keyed L) (entry : K) (b : Bool) → count_of_key k (cond b ((n.key, entry) ∷ []) []) ≤ cond (n.key == k) 1 0
  count-own k n entry true = omega arith
  count-own k n entry false = omega arith

  count-told : (k : ℕ) (i : H) (g : Forest (Keyed L)) → count_of_key k (told_all e i g) ≤ times k g
  count-told k i Empty = omega arith
  count-told k i (Tree n c r) =
      let inside = e.within n i in
      let x = past_all e inside c in
      let behind = e.past n i x in
      omega (
        arith,
        count-append k (told_all e inside c) (told e n i x ++ told_all e behind r),
        count-append k (told e n i x) (told_all e behind r),
        count-own k n (e.kept n i x) (e.is_element n.label),
        count-told k inside c,
        count-told k behind r,
      )

  -- where keys are distinct, what is told of each element is what stands under its key
  pub holds-told : (i : H) (g : Forest (Keyed L)) → HasDistinctKeys g → Holds (kept_at (told_all e i g)) (told_all e i g)
  holds-told i g distinct = holds-once (told_all e i g) (λ k. let few = distinct k in omega (arith, count-told k i g, few))
