-- Merges in which one tree goes, in which one comes, and in which both are. Throughout, n is a node, c what is
-- under it, r what is after it, g trees, and s and t merges; z is a node that comes with zs under it.
use Rattle.std.proofs.Common.{◌≡◌, ◌≤◌, ℕ, zero, suc, Bool, true, false, List, [], ◌∷◌, length, refl, ap, subst, ◌∙◌, arith}
use Rattle.forest.specs.Forest.{Forest, Empty, Tree}
use Rattle.forest.specs.Keys.{Keyed}
use Rattle.forest.specs.Paths.{trees_from}
use Rattle.forest.specs.Spots.{roots}
use Rattle.merged_walk.specs.Merges.{Merge, Kept, Gone, Come, all_kept}
use Rattle.merged_walk.specs.Edits.{merged_from, merged_at, first_gone, come_among, from_new, put_at, removal}
use Rattle.merged_walk.specs.EditStops.{HasRoom, NamesNode}
use Rattle.merged_walk.proofs.CountLaws.{weigh-all_kept}
use Rattle.merged_walk.proofs.PutLaws.{names_nothing}
use Rattle.merged_walk.proofs.JoinWords.{InOrder, begins_with_come, by_counts, comes_count, goes_count, gone_first, with-none, with_gone, without-none, without_come}

module _ {L : Type 0} where
  -- one of these trees goes, or one under them
  pub record Goes (m : Merge L) (g : Forest (Keyed L)) : Type 0 where
    pub goes : goes_count m ≡ 1
    pub comes : comes_count m ≡ 0
    pub with : with_gone m ≡ all_kept g
    pub order : InOrder m

  -- one comes among them or under them
  pub record Comes (m : Merge L) (g : Forest (Keyed L)) : Type 0 where
    pub goes : goes_count m ≡ 0
    pub comes : comes_count m ≡ 1
    pub without : without_come m ≡ all_kept g
    pub order : InOrder m

  -- one goes and one comes: each for itself, and which is first
  pub record Both (m gone come : Merge L) (first : Bool) : Type 0 where
    pub goes : goes_count m ≡ 1
    pub comes : comes_count m ≡ 1
    pub without : without_come m ≡ gone
    pub with : with_gone m ≡ come
    pub order : InOrder m
    pub is_first : gone_first m ≡ first

  goes-all_kept : (g : Forest (Keyed L)) → goes_count (all_kept g) ≡ 0
  goes-all_kept g = weigh-all_kept (λ _. 1) (λ _. 0) g

  comes-all_kept : (g : Forest (Keyed L)) → comes_count (all_kept g) ≡ 0
  comes-all_kept g = weigh-all_kept (λ _. 0) (λ _. 1) g

  with-all_kept : (g : Forest (Keyed L)) → with_gone (all_kept g) ≡ all_kept g
  with-all_kept g = with-none (all_kept g) (goes-all_kept g)

  without-all_kept : (g : Forest (Keyed L)) → without_come (all_kept g) ≡ all_kept g
  without-all_kept g = without-none (all_kept g) (comes-all_kept g)

  order-all_kept : (g : Forest (Keyed L)) → InOrder (all_kept g)
  order-all_kept Empty = tt
  order-all_kept (Tree n c r) = (order-all_kept c, order-all_kept r)

  begins-all_kept : (g : Forest (Keyed L)) → begins_with_come (all_kept g) ≡ false
  begins-all_kept Empty = refl
  begins-all_kept (Tree n c r) = refl

  -- One that goes.

  goes-gone : (n : Keyed L) (c r : Forest (Keyed L)) → Goes (Gone n c (all_kept r)) (Tree n c r)
  goes-gone n c r = record {
    goes = omega (arith, goes-all_kept r);
    comes = omega (arith, comes-all_kept r);
    with = ap (Kept n (all_kept c)) (with-all_kept r);
    order = (begins-all_kept r, order-all_kept r);
  }

  goes-beside : (n : Keyed L) (c r : Forest (Keyed L)) (t : Merge L) → Goes t r → Goes (Kept n (all_kept c) t) (Tree n c r)
  goes-beside n c r t h = record {
    goes = omega (arith, goes-all_kept c, h.goes);
    comes = omega (arith, comes-all_kept c, h.comes);
    with = λ x. Kept n (with-all_kept c x) (h.with x);
    order = (order-all_kept c, h.order);
  }

  goes-under : (n : Keyed L) (c r : Forest (Keyed L)) (t : Merge L) → Goes t c → Goes (Kept n t (all_kept r)) (Tree n c r)
  goes-under n c r t h = record {
    goes = omega (arith, goes-all_kept r, h.goes);
    comes = omega (arith, comes-all_kept r, h.comes);
    with = λ x. Kept n (h.with x) (with-all_kept r x);
    order = (h.order, order-all_kept r);
  }

  goes-level : (change : Forest (Keyed L) → Merge L) (path : List ℕ) → ((g : Forest (Keyed L)) → NamesNode path g → Goes (change g) g)
      → (position : ℕ) (c : Forest (Keyed L)) → NamesNode path (trees_from position c) → Goes (merged_from change position c) c
  goes-level change path goes zero c there = goes c there
  goes-level change path goes (suc position) Empty there = absurd (names_nothing L path there)
  goes-level change path goes (suc position) (Tree n c r) there = goes-beside n c r (merged_from change position r) (goes-level change path goes position r there)

  pub goes-removal : (path : List ℕ) (g : Forest (Keyed L)) → NamesNode path g → Goes (removal path g) g
  goes-removal [] Empty there = absurd there
  goes-removal [] (Tree n c r) there = goes-gone n c r
  goes-removal (position ∷ path) Empty there = absurd there
  goes-removal (position ∷ path) (Tree n c r) there =
      goes-under n c r (merged_from (merged_at first_gone path) position c) (goes-level (merged_at first_gone path) path (goes-removal path) position c there)

  pub goes-from : (path : List ℕ) (position : ℕ) (c : Forest (Keyed L)) → NamesNode path (trees_from position c) → Goes (merged_from (merged_at first_gone path) position c) c
  goes-from path position c there = goes-level (merged_at first_gone path) path (goes-removal path) position c there

  -- One that comes.

  comes-beside : (n : Keyed L) (c r : Forest (Keyed L)) (t : Merge L) → Comes t r → Comes (Kept n (all_kept c) t) (Tree n c r)
  comes-beside n c r t h = record {
    goes = omega (arith, goes-all_kept c, h.goes);
    comes = omega (arith, comes-all_kept c, h.comes);
    without = λ x. Kept n (without-all_kept c x) (h.without x);
    order = (order-all_kept c, h.order);
  }

  comes-under : (n : Keyed L) (c r : Forest (Keyed L)) (t : Merge L) → Comes t c → Comes (Kept n t (all_kept r)) (Tree n c r)
  comes-under n c r t h = record {
    goes = omega (arith, goes-all_kept r, h.goes);
    comes = omega (arith, comes-all_kept r, h.comes);
    without = λ x. Kept n (h.without x) (without-all_kept r x);
    order = (h.order, order-all_kept r);
  }

  module _ (z : Keyed L) (zs : Forest (Keyed L)) where
    pub comes-behind : (index : ℕ) (c : Forest (Keyed L)) → index ≤ length (roots c) → Comes (come_among index z zs (all_kept c)) c
    comes-behind zero c few = record { goes = omega (arith, goes-all_kept c); comes = omega (arith, comes-all_kept c); without = without-all_kept c; order = order-all_kept c }
    comes-behind (suc index) Empty few = absurd (omega (arith, few))
    comes-behind (suc index) (Tree n c r) few = comes-beside n c r (come_among index z zs (all_kept r)) (comes-behind index r (omega (arith, few)))

    comes-level : (path : List ℕ) (index : ℕ) → ((g : Forest (Keyed L)) → HasRoom path index g → Comes (put_at path index z zs (all_kept g)) g)
        → (position : ℕ) (c : Forest (Keyed L)) → HasRoom path index (trees_from position c) → Comes (from_new (put_at path index z zs) position (all_kept c)) c
    comes-level path index comes zero Empty room = comes Empty room
    comes-level path index comes zero (Tree n c r) room = comes (Tree n c r) room
    comes-level path index comes (suc position) Empty room = absurd (names_nothing L path room.0)
    comes-level path index comes (suc position) (Tree n c r) room =
        comes-beside n c r (from_new (put_at path index z zs) position (all_kept r)) (comes-level path index comes position r room)

    comes-put_at : (path : List ℕ) (index : ℕ) (g : Forest (Keyed L)) → HasRoom path index g → Comes (put_at path index z zs (all_kept g)) g
    comes-put_at [] index Empty room = absurd room.0
    comes-put_at [] index (Tree n c r) room = comes-under n c r (come_among index z zs (all_kept c)) (comes-behind index c room.1)
    comes-put_at (position ∷ path) index Empty room = absurd room.0
    comes-put_at (position ∷ path) index (Tree n c r) room =
        comes-under n c r (from_new (put_at path index z zs) position (all_kept c)) (comes-level path index (comes-put_at path index) position c room)

    pub comes-from : (path : List ℕ) (index position : ℕ) (c : Forest (Keyed L)) → HasRoom path index (trees_from position c) → Comes (from_new (put_at path index z zs) position (all_kept c)) c
    comes-from path index position c room = comes-level path index (comes-put_at path index) position c room

  -- Both.

  pub both-first : (m gone come : Merge L) (first other : Bool) → first ≡ other → Both m gone come first → Both m gone come other
  both-first m gone come first other is h = subst (Both m gone come) is h

  pub both-beside : (n : Keyed L) (c : Forest (Keyed L)) (t gone come : Merge L) (first : Bool) → Both t gone come first
      → Both (Kept n (all_kept c) t) (Kept n (all_kept c) gone) (Kept n (all_kept c) come) first
  both-beside n c t gone come first h = record {
    goes = omega (arith, goes-all_kept c, h.goes);
    comes = omega (arith, comes-all_kept c, h.comes);
    without = λ x. Kept n (without-all_kept c x) (h.without x);
    with = λ x. Kept n (with-all_kept c x) (h.with x);
    order = (order-all_kept c, h.order);
    is_first = (λ x. by_counts (goes-all_kept c x) (comes-all_kept c x) (gone_first (all_kept c)) (gone_first t)) ∙ h.is_first;
  }

  pub both-under : (n : Keyed L) (r : Forest (Keyed L)) (t gone come : Merge L) (first : Bool) → Both t gone come first
      → Both (Kept n t (all_kept r)) (Kept n gone (all_kept r)) (Kept n come (all_kept r)) first
  both-under n r t gone come first h = record {
    goes = omega (arith, goes-all_kept r, h.goes);
    comes = omega (arith, comes-all_kept r, h.comes);
    without = λ x. Kept n (h.without x) (without-all_kept r x);
    with = λ x. Kept n (h.with x) (with-all_kept r x);
    order = (h.order, order-all_kept r);
    is_first = (λ x. by_counts (h.goes x) (h.comes x) (gone_first t) (gone_first (all_kept r))) ∙ h.is_first;
  }

  -- the first tree goes, and one comes behind it
  pub both-gone : (n : Keyed L) (c r : Forest (Keyed L)) (t : Merge L) → Comes t r → begins_with_come t ≡ false → Both (Gone n c t) (Gone n c (all_kept r)) (Kept n (all_kept c) t) true
  both-gone n c r t h begins = record {
    goes = omega (arith, h.goes);
    comes = omega (arith, h.comes);
    without = ap (Gone n c) h.without;
    with = ap (Kept n (all_kept c)) (with-none t h.goes);
    order = (begins, h.order);
    is_first = refl;
  }

  -- one comes before them, and one goes
  pub both-come : (z : Keyed L) (zs g : Forest (Keyed L)) (t : Merge L) → Goes t g → Both (Come z zs t) t (Come z zs (all_kept g)) false
  both-come z zs g t h = record {
    goes = omega (arith, h.goes);
    comes = omega (arith, h.comes);
    without = without-none t h.comes;
    with = ap (Come z zs) h.with;
    order = h.order;
    is_first = refl;
  }

  -- one goes under the first tree, and one comes behind it
  pub both-goes_under : (n : Keyed L) (c r : Forest (Keyed L)) (s t : Merge L) → Goes s c → Comes t r → Both (Kept n s t) (Kept n s (all_kept r)) (Kept n (all_kept c) t) true
  both-goes_under n c r s t h k = record {
    goes = omega (arith, h.goes, k.goes);
    comes = omega (arith, h.comes, k.comes);
    without = λ x. Kept n (without-none s h.comes x) (k.without x);
    with = λ x. Kept n (h.with x) (with-none t k.goes x);
    order = (h.order, k.order);
    is_first = λ x. by_counts (h.goes x) (h.comes x) (gone_first s) (gone_first t);
  }

  -- one comes under the first tree, and one goes behind it
  pub both-comes_under : (n : Keyed L) (c r : Forest (Keyed L)) (s t : Merge L) → Comes s c → Goes t r → Both (Kept n s t) (Kept n (all_kept c) t) (Kept n s (all_kept r)) false
  both-comes_under n c r s t h k = record {
    goes = omega (arith, h.goes, k.goes);
    comes = omega (arith, h.comes, k.comes);
    without = λ x. Kept n (h.without x) (without-none t k.comes x);
    with = λ x. Kept n (with-none s h.goes x) (k.with x);
    order = (h.order, k.order);
    is_first = λ x. by_counts (h.goes x) (h.comes x) (gone_first s) (gone_first t);
  }
