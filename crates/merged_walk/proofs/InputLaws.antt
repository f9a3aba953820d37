-- What each element is handed stands once under its key, where keys are distinct. Throughout, e is an evaluator, j what
-- trees are handed, n a node, c what is under it, r what is after it, g trees, and k a key.
use Rattle.std.proofs.Common.{◌≡◌, ◌==◌, ◌+◌, ◌<◌, ℕ, Bool, true, false, cond, List, [], ◌∷◌, ◌++◌, Some, None, refl, sym, ap, ◌∙◌, inl, inr, arith, eq-eqb}
use Rattle.std.specs.Prelude.{All}
use Rattle.std.specs.Option.{option_or}
use Rattle.std.proofs.lemmas.List.Elements.{All-append, All-cons, All-nil, All-weaker}
use Rattle.std.proofs.lemmas.Option.{none-some}
use Rattle.forest.specs.Forest.{Forest, Empty, Tree}
use Rattle.forest.specs.Keys.{Keyed, HasDistinctKeys, times}
use Rattle.forest.proofs.SpotLaws.{below-or-after, distinct-parts, not-root, some_or_none}
use Rattle.merged_walk.specs.Evaluators.{Evaluator, input, inputs, past_all}
use Rattle.merged_walk.specs.Entries.{Holds, first_at}

first-append : {R : Type 0} (xs ys : List (ℕ × R)) (k : ℕ) → first_at (xs ++ ys) k ≡ option_or (first_at xs k) (first_at ys k)
first-append [] ys k = refl
first-append (x ∷ xs) ys k =
    elim (x.0 == k) as (λ b. cond b (Some x.1) (first_at (xs ++ ys) k) ≡ option_or (cond b (Some x.1) (first_at xs k)) (first_at ys k)) [
      | true ↦ refl
      | false ↦ first-append xs ys k
    ]

module _ {L K H : Type 0} (e : Evaluator L K H) where
  -- a node of another key has no entry under this one
  first-other : (n : Keyed L) (j : H) (k : ℕ) → (n.key == k) ≡ false → first_at (input e n j) k ≡ None
  first-other n j k other =
      elim (e.is_element n.label) as (λ b. first_at (cond b ((n.key, j) ∷ []) []) k ≡ None) [
        | true ↦ ap (λ b. cond b (Some j) None) other
        | false ↦ refl
      ]

  -- under a key of none of these nodes there is nothing
  first-absent : (g : Forest (Keyed L)) (j : H) (k : ℕ) → times k g ≡ 0 → first_at (inputs e j g) k ≡ None
  first-absent Empty j k h = refl
  first-absent (Tree n c r) j k h =
      let below = inputs e (e.within n j) c in
      let beside = inputs e (e.past n j (past_all e (e.within n j) c)) r in
      let other : (n.key == k) ≡ false =
      elim (n.key == k) as (λ b. cond {A = ℕ} b 1 0 + (times k c + times k r) ≡ 0 → b ≡ false) [ true ↦ λ h. absurd (omega (arith, h)) | false ↦ λ h. refl ] h in
      let none_below = first-absent c (e.within n j) k (omega (arith, h)) in
      let none_beside = first-absent r (e.past n j (past_all e (e.within n j) c)) k (omega (arith, h)) in
      first-append (input e n j) (below ++ beside) k ∙ ap (λ o. option_or o (first_at (below ++ beside) k)) (first-other n j k other)
      ∙ first-append below beside k ∙ ap (λ o. option_or o (first_at beside k)) none_below ∙ none_beside

  -- and so an entry is that of one of these nodes
  first-counted : (g : Forest (Keyed L)) (j i : H) (k : ℕ) → first_at (inputs e j g) k ≡ Some i → 0 < times k g
  first-counted g j i k is = elim (some_or_none (times k g)) [
    | inl none ↦ absurd (none-some i (sym (first-absent g j k none) ∙ is))
    | inr some ↦ some
  ]

  own-first : (n : Keyed L) (j : H) (rest : List (ℕ × H)) (b : Bool)
      → All (λ (x : ℕ × H). first_at (cond b ((n.key, j) ∷ []) [] ++ rest) x.0 ≡ Some x.1) (cond b ((n.key, j) ∷ []) [])
  own-first n j rest true =
      let first = λ (x : ℕ × H). first_at ((n.key, j) ∷ rest) x.0 ≡ Some x.1 in
      All-cons first (n.key, j) [] (ap (λ b. cond b (Some j) (first_at rest n.key)) (eq-eqb n.key n.key refl)) (All-nil first)
  own-first n j rest false = All-nil (λ (x : ℕ × H). first_at rest x.0 ≡ Some x.1)

  -- each entry is the first under its key
  pub holds-inputs : (j : H) (g : Forest (Keyed L)) → HasDistinctKeys g → Holds (first_at (inputs e j g)) (inputs e j g)
  holds-inputs j Empty d = All-nil (λ (x : ℕ × H). first_at {R = H} [] x.0 ≡ Some x.1)
  holds-inputs j (Tree n c r) d =
      let own = input e n j in
      let inside = e.within n j in
      let behind = e.past n j (past_all e inside c) in
      let below = inputs e inside c in
      let beside = inputs e behind r in
      let parts = distinct-parts n c r d in
      let first = λ (x : ℕ × H). first_at (own ++ (below ++ beside)) x.0 ≡ Some x.1 in
      let past_own : (k : ℕ) → 0 < times k c + times k r → first_at (own ++ (below ++ beside)) k ≡ option_or (first_at below k) (first_at beside k) =
      λ k some. first-append own (below ++ beside) k ∙ ap (λ o. option_or o (first_at (below ++ beside) k)) (first-other n j k (not-root n c r k d some)) ∙ first-append below beside k in
      let is_below : (x : ℕ × H) → first_at below x.0 ≡ Some x.1 → first x =
      λ x is. (let there = first-counted c inside x.1 x.0 is in past_own x.0 (omega (arith, there)) ∙ ap (λ o. option_or o (first_at beside x.0)) is) in
      let is_beside : (x : ℕ × H) → first_at beside x.0 ≡ Some x.1 → first x =
      λ x is. (
      let there = first-counted r behind x.1 x.0 is in
      past_own x.0 (omega (arith, there)) ∙ ap (λ o. option_or o (first_at beside x.0)) (first-absent c inside x.0 (below-or-after n c r x.0 d there)) ∙ is
      ) in
      All-append first own (below ++ beside) (own-first n j (below ++ beside) (e.is_element n.label))
      (All-append first below beside
      (All-weaker (λ (x : ℕ × H). first_at below x.0 ≡ Some x.1) first is_below below (holds-inputs inside c parts.0))
      (All-weaker (λ (x : ℕ × H). first_at beside x.0 ≡ Some x.1) first is_beside beside (holds-inputs behind r parts.1)))
