-- A merge where what is reached goes and comes. Throughout, n is a node, c what is under it, r what is after it, q a key,
-- and m a merge.
use Rattle.std.proofs.Common.{◌≡◌, ◌==◌, ◌≤◌, ℕ, Bool, true, false, cond, refl, sym, ap, ◌∙◌, arith, eqb-true}
use Rattle.forest.specs.Forest.{Tree}
use Rattle.forest.specs.Keys.{Keyed}
use Rattle.plain_types.specs.declared.node.Node.{Node}
use Rattle.merged_walk.specs.Merges.{Merge, End, Kept, Turned, Gone, Come, new_of, old_of}
use Rattle.styled_merge.specs.Stays.{IsUnturned}
use Rattle.styled_merge.specs.Reached.{reached}
use Rattle.styled_merge.proofs.KeptCounts.{kept_times}

module _ {L : Type 0} (is_reached : ℕ → Bool) where
  -- what becomes of a node that is kept, and of one that is turned, where it is reached and where it isn't
  abbrev pub at_kept : Bool → Keyed L → (c r : Merge L) → Merge L
  at_kept reaches n c r = cond reaches (Gone n (old_of c) (Come n (new_of c) (reached is_reached r))) (Kept n (reached is_reached c) (reached is_reached r))

  abbrev pub at_turned : Bool → (was n : Keyed L) (c r : Merge L) → Merge L
  at_turned reaches was n c r =
      cond reaches (Gone was (old_of c) (Come n (new_of c) (reached is_reached r))) (Turned was n (reached is_reached c) (reached is_reached r))

module _ {L : Type 0} (is_reached : ℕ → Bool) where
  pub old-reached : (m : Merge L) → old_of (reached is_reached m) ≡ old_of m
  old-reached End = refl
  old-reached (Kept n c r) =
      let beside = old-reached r in
      elim (is_reached n.key) as (λ b. old_of (at_kept is_reached b n c r) ≡ Tree n (old_of c) (old_of r)) [
        | true ↦ ap (Tree n (old_of c)) beside
        | false ↦ let below = old-reached c in λ x. Tree n (below x) (beside x)
      ]
  old-reached (Turned was n c r) =
      let beside = old-reached r in
      elim (is_reached was.key) as (λ b. old_of (at_turned is_reached b was n c r) ≡ Tree was (old_of c) (old_of r)) [
        | true ↦ ap (Tree was (old_of c)) beside
        | false ↦ let below = old-reached c in λ x. Tree was (below x) (beside x)
      ]
  old-reached (Gone n c r) = ap (Tree n c) (old-reached r)
  old-reached (Come n c r) = old-reached r

  pub new-reached : (m : Merge L) → new_of (reached is_reached m) ≡ new_of m
  new-reached End = refl
  new-reached (Kept n c r) =
      let beside = new-reached r in
      elim (is_reached n.key) as (λ b. new_of (at_kept is_reached b n c r) ≡ Tree n (new_of c) (new_of r)) [
        | true ↦ ap (Tree n (new_of c)) beside
        | false ↦ let below = new-reached c in λ x. Tree n (below x) (beside x)
      ]
  new-reached (Turned was n c r) =
      let beside = new-reached r in
      elim (is_reached was.key) as (λ b. new_of (at_turned is_reached b was n c r) ≡ Tree n (new_of c) (new_of r)) [
        | true ↦ ap (Tree n (new_of c)) beside
        | false ↦ let below = new-reached c in λ x. Tree n (below x) (beside x)
      ]
  new-reached (Gone n c r) = new-reached r
  new-reached (Come n c r) = ap (Tree n c) (new-reached r)

  -- where nothing is reached, the merge stays as it is
  pub nothing-reached : ((key : ℕ) → is_reached key ≡ false) → (m : Merge L) → reached is_reached m ≡ m
  nothing-reached none End = refl
  nothing-reached none (Kept n c r) =
      let below = nothing-reached none c in
      let beside = nothing-reached none r in λ x. cond (none n.key x) (Gone n (old_of c) (Come n (new_of c) (reached is_reached r))) (Kept n (below x) (beside x))
  nothing-reached none (Turned was n c r) =
      let below = nothing-reached none c in
      let beside = nothing-reached none r in λ x. cond (none was.key x) (Gone was (old_of c) (Come n (new_of c) (reached is_reached r))) (Turned was n (below x) (beside x))
  nothing-reached none (Gone n c r) = ap (Gone n c) (nothing-reached none r)
  nothing-reached none (Come n c r) = ap (Come n c) (nothing-reached none r)

module _ (is_reached : ℕ → Bool) where
  pub unturned-reached : (m : Merge Node) → IsUnturned m → IsUnturned (reached is_reached m)
  unturned-reached End h = tt
  unturned-reached (Kept n c r) h =
      elim (is_reached n.key) as (λ b. IsUnturned (at_kept is_reached b n c r)) [
        | true ↦ unturned-reached r h.1
        | false ↦ (unturned-reached c h.0, unturned-reached r h.1)
      ]
  unturned-reached (Turned was n c r) h = absurd h.0
  unturned-reached (Gone n c r) h = unturned-reached r h
  unturned-reached (Come n c r) h = unturned-reached r h

  -- no more is kept
  pub kept-reached : (q : ℕ) (m : Merge Node) → kept_times q (reached is_reached m) ≤ kept_times q m
  kept-reached q End = omega arith
  kept-reached q (Kept n c r) =
      elim (is_reached n.key) as (λ b. kept_times q (at_kept is_reached b n c r) ≤ kept_times q (Kept n c r)) [
        | true ↦ omega (arith, kept-reached q r)
        | false ↦ omega (arith, kept-reached q c, kept-reached q r)
      ]
  kept-reached q (Turned was n c r) =
      elim (is_reached was.key) as (λ b. kept_times q (at_turned is_reached b was n c r) ≤ kept_times q (Turned was n c r)) [
        | true ↦ omega (arith, kept-reached q r)
        | false ↦ omega (arith, kept-reached q c, kept-reached q r)
      ]
  kept-reached q (Gone n c r) = kept-reached q r
  kept-reached q (Come n c r) = kept-reached q r

  other-key : (q k : ℕ) → is_reached q ≡ true → is_reached k ≡ false → (k == q) ≡ false
  other-key q k reaches not =
      elim (k == q) as (λ b. (k == q) ≡ b → b ≡ false) [
        | true ↦ λ is. absurd (let never : true ≡ false = sym reaches ∙ sym (ap is_reached (eqb-true k q is)) ∙ not in cc)
        | false ↦ λ is. refl
      ] refl

  -- what is reached is not kept
  pub none-kept : (q : ℕ) → is_reached q ≡ true → (m : Merge Node) → kept_times q (reached is_reached m) ≡ 0
  none-kept q reaches End = refl
  none-kept q reaches (Kept n c r) =
      elim (is_reached n.key) as (λ b. is_reached n.key ≡ b → kept_times q (at_kept is_reached b n c r) ≡ 0) [
        | true ↦ λ is. none-kept q reaches r
        | false ↦ λ not. rw (other-key q n.key reaches not) (omega (arith, none-kept q reaches c, none-kept q reaches r))
      ] refl
  none-kept q reaches (Turned was n c r) =
      elim (is_reached was.key) as (λ b. is_reached was.key ≡ b → kept_times q (at_turned is_reached b was n c r) ≡ 0) [
        | true ↦ λ is. none-kept q reaches r
        | false ↦ λ not. rw (other-key q was.key reaches not) (omega (arith, none-kept q reaches c, none-kept q reaches r))
      ] refl
  none-kept q reaches (Gone n c r) = none-kept q reaches r
  none-kept q reaches (Come n c r) = none-kept q reaches r
