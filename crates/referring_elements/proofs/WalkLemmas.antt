-- A walk over the nodes of a document in tree order.
use Rattle.std.proofs.Common.{◌≡◌, ◌==◌, ◌<◌, ◌≤◌, ◌+◌, ◌-◌, ◌∙◌, ℕ, zero, suc, true, cond, List, [], ◌∷◌, ◌++◌, Some, None, length, slice_get, take, refl, sym, ap, subst, inl, inr, arith, eq-eqb}
use Rattle.std.specs.List.{position_or_len}
use Rattle.std.proofs.lemmas.Bool.{cases_Bool}
use Rattle.std.proofs.lemmas.Option.{none-some, same_Some}
use Rattle.forest.specs.Forest.{Forest, Empty, Tree}
use Rattle.forest.specs.Keys.{HasDistinctKeys, Keyed, keys, times}
use Rattle.forest.specs.Order.{next_in_order_of, place_of}
use Rattle.forest.specs.Spots.{IsLive}
use Rattle.forest.proofs.OrderLaws.{keys-tree}
use Rattle.plain_types.specs.declared.node.Node.{Node}

-- How often a key comes.

occurs : ℕ → List ℕ → ℕ
occurs q [] = 0
occurs q (k ∷ ks) = cond (k == q) 1 0 + occurs q ks

occurs-append : (q : ℕ) (ks ls : List ℕ) → occurs q (ks ++ ls) ≡ occurs q ks + occurs q ls
unfolding occurs
occurs-append q [] ls = omega arith
occurs-append q (k ∷ ks) ls = omega (arith, occurs-append q ks ls)

times-occurs : (q : ℕ) (f : Forest (Keyed Node)) → times q f ≡ occurs q (keys f)
unfolding occurs
times-occurs q Empty = refl
times-occurs q (Tree n c r) =
    let whole : times q (Tree n c r) ≡ occurs q (n.key ∷ (keys c ++ keys r)) = omega (arith, times-occurs q c, times-occurs q r, occurs-append q (keys c) (keys r)) in
    whole ∙ sym (ap (occurs q) (keys-tree n c r))

occurs-there : (q i : ℕ) (ks : List ℕ) → slice_get ks i ≡ Some q → 0 < occurs q ks
unfolding occurs
occurs-there q i [] h = absurd (none-some q h)
occurs-there q zero (k ∷ ks) h = let same : (k == q) ≡ true = eq-eqb k q (same_Some k q h) in rw same (omega arith)
occurs-there q (suc i) (k ∷ ks) h = omega (arith, occurs-there q i ks h)

-- a key that comes once has one place
one_place : (q i : ℕ) (ks : List ℕ) → occurs q ks ≤ 1 → slice_get ks i ≡ Some q → position_or_len (λ k. k == q) ks ≡ i
unfolding occurs
one_place q i [] once h = absurd (none-some q h)
one_place q zero (k ∷ ks) once h = let same : (k == q) ≡ true = eq-eqb k q (same_Some k q h) in rw same refl
one_place q (suc i) (k ∷ ks) once h =
    elim (cases_Bool (k == q)) [
      | inl e ↦ absurd (let two : 1 + occurs q ks ≤ 1 = subst (λ b. cond b 1 0 + occurs q ks ≤ 1) e once in omega (arith, two, occurs-there q i ks h))
      | inr e ↦ rw e (omega (arith, one_place q i ks (let less : cond (k == q) 1 0 + occurs q ks ≤ 1 = once in omega (arith, less)) h))
    ]

pub place_is : (f : Forest (Keyed Node)) (i q : ℕ) → HasDistinctKeys f → slice_get (keys f) i ≡ Some q → place_of f q ≡ i
place_is f i q d h = one_place q i (keys f) (subst (λ n. n ≤ 1) (times-occurs q f) (d q)) h

-- What stands at a place of a list.

within : (xs : List ℕ) (i x : ℕ) → slice_get xs i ≡ Some x → i < length xs
within [] i x h = absurd (none-some x h)
within (y ∷ xs) zero x h = omega arith
within (y ∷ xs) (suc i) x h = omega (arith, within xs i x h)

pub all_taken : (xs : List ℕ) (i : ℕ) → slice_get xs i ≡ None → take i xs ≡ xs
all_taken [] zero h = refl
all_taken [] (suc i) h = refl
all_taken (x ∷ xs) zero h = absurd (none-some x (sym h))
all_taken (x ∷ xs) (suc i) h = ap (λ ys. x ∷ ys) (all_taken xs i h)

module _ (f : Forest (Keyed Node)) (d : HasDistinctKeys f) (q : ℕ) (live : IsLive f q) where
  pub fewer_left : (k : ℕ) → next_in_order_of f q ≡ Some k → length (keys f) - place_of f k < length (keys f) - place_of f q
  fewer_left k h = omega (arith, place_is f (place_of f q + 1) k d h, within (keys f) (place_of f q + 1) k h)
