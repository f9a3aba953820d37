-- Nodes of one level, and tests of tree order.
use Rattle.std.proofs.Common.{◌≡◌, ◌≢◌, ◌<◌, ◌-◌, ◌↔◌, ◌⊎◌, inl, inr, min, ℕ, Bool, nat_lt, Option, Some, None, IsTrue, length, take, sym, ap, ap₂, refl, ◌∙◌, arith, ltb-true, lt-ltb}
use Rattle.std.proofs.lemmas.Bool.{cases_lt}
use Rattle.forest.specs.Forest.{Forest}
use Rattle.forest.specs.Keys.{Keyed, HasDistinctKeys}
use Rattle.forest.specs.Spots.{IsLive, parent_of}
use Rattle.forest.specs.Paths.{route_of}
use Rattle.forest.specs.Order.{place_of, comes_before}
use Rattle.forest.proofs.PathLaws.{parent-live}
use Rattle.forest.proofs.LevelLaws.{route-some, root-level, child-level, place-comes, comes-within, comes-level}
use Rattle.plain_types.specs.declared.node.Node.{Node}

-- where one of two nodes of a level is a root, the other is
pub both-none : (f : Forest (Keyed Node)) (a b : ℕ) → HasDistinctKeys f → IsLive f a → IsLive f b → length (route_of f a) ≡ length (route_of f b) → parent_of f a ≡ None → parent_of f a ≡ parent_of f b
both-none f a b d live_a live_b level none =
    elim (parent_of f b) as (λ (o : Option ℕ). parent_of f b ≡ o → parent_of f a ≡ o) [
      | None ↦ λ e. none
      | Some x ↦ λ e. absurd (omega (arith, root-level f a d live_a none, child-level f b x d live_b e, route-some f x (parent-live f b x d live_b e)))
    ] refl

pub test-less : (r : Bool) (x y : ℕ) → r ≡ nat_lt x y → IsTrue r ↔ (x < y)
test-less r x y e = ((λ t. ltb-true x y (sym e ∙ t)), (λ less. e ∙ lt-ltb x y less))

-- Two nodes by what they are in at the lesser of their levels.
module _ (f : Forest (Keyed Node)) (a b x y i j n : ℕ) (d : HasDistinctKeys f) (live_a : IsLive f a) (live_b : IsLive f b) (live_x : IsLive f x) (live_y : IsLive f y)
    (level_a : i ≡ length (route_of f a)) (level_b : j ≡ length (route_of f b)) (least : n ≡ min i j)
    (above_a : route_of f x ≡ take (length (route_of f a) - (i - n)) (route_of f a)) (above_b : route_of f y ≡ take (length (route_of f b) - (j - n)) (route_of f b)) where
  at_a : route_of f x ≡ take n (route_of f a)
  at_a = above_a ∙ ap (λ k. take k (route_of f a)) (omega arith)

  at_b : route_of f y ≡ take n (route_of f b)
  at_b = above_b ∙ ap (λ k. take k (route_of f b)) (omega arith)

  one_level : (length (route_of f a) ≡ n) ⊎ (length (route_of f b) ≡ n)
  one_level = elim (cases_lt i j) [ inl less ↦ inl (omega arith) | inr more ↦ inr (omega arith) ]

  -- one node is in the other, or they are one
  pub in-line : x ≡ y → nat_lt i j ≡ nat_lt (place_of f a) (place_of f b)
  in-line e =
      ap₂ nat_lt level_a level_b
      ∙ sym (place-comes f a b d live_a live_b ∙ comes-within f a b x n at_a (ap (route_of f) e ∙ at_b) one_level (omega arith) (omega arith))

  -- they part
  pub parted : x ≢ y → comes_before (route_of f x) (route_of f y) ≡ nat_lt (place_of f a) (place_of f b)
  parted other = sym (place-comes f a b d live_a live_b ∙ comes-level f a b x y n live_x live_y at_a at_b (omega arith) (omega arith) other)
