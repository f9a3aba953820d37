-- A tree that comes into a merge in which trees only go. Throughout, n is a node, c what is under it, r what is
-- after it, g trees, and m a merge; z is the node that comes, with zs under it.
use Rattle.std.proofs.Common.{◌≡◌, ◌+◌, ◌≤◌, ℕ, zero, suc, Bool, true, false, cond, List, [], ◌∷◌, length, arith}
use Rattle.forest.specs.Forest.{Forest, Empty, Tree}
use Rattle.forest.specs.Keys.{Keyed}
use Rattle.forest.specs.Paths.{trees_from}
use Rattle.forest.specs.Spots.{roots}
use Rattle.merged_walk.specs.Merges.{Merge, End, Kept, Turned, Gone, Come, all_kept, new_of, has_place}
use Rattle.merged_walk.specs.Counts.{led_count, weigh_places}
use Rattle.merged_walk.specs.Edits.{merged_from, merged_at, first_gone, come_among, from_new, put_at, removal}
use Rattle.merged_walk.specs.EditStops.{HasRoom, NamesNode}

pub one_at_most : (b : Bool) → cond {A = ℕ} b 1 0 ≤ 1
one_at_most true = omega arith
one_at_most false = omega arith

pub names_nothing : (L : Type 0) (path : List ℕ) → NamesNode {L = L} path Empty → ⊥
names_nothing L [] h = h
names_nothing L (position ∷ path) h = h

module _ {L : Type 0} where
  -- some trees go, and all else is kept
  abbrev pub OnlyGoes : Merge L → Type 0
  OnlyGoes End = Unit {0}
  OnlyGoes (Kept n c r) = OnlyGoes c × OnlyGoes r
  OnlyGoes (Turned was n c r) = ⊥
  OnlyGoes (Gone n c r) = OnlyGoes r
  OnlyGoes (Come n c r) = ⊥

  pub only-all_kept : (g : Forest (Keyed L)) → OnlyGoes (all_kept g)
  only-all_kept Empty = tt
  only-all_kept (Tree n c r) = (only-all_kept c, only-all_kept r)

  only-merged_from : (change : Forest (Keyed L) → Merge L) → ((g : Forest (Keyed L)) → OnlyGoes (change g)) → (position : ℕ) (g : Forest (Keyed L)) → OnlyGoes (merged_from change position g)
  only-merged_from change only zero g = only g
  only-merged_from change only (suc position) Empty = tt
  only-merged_from change only (suc position) (Tree n c r) = (only-all_kept c, only-merged_from change only position r)

  pub only-removal : (path : List ℕ) (g : Forest (Keyed L)) → OnlyGoes (removal path g)
  only-removal [] Empty = tt
  only-removal [] (Tree n c r) = only-all_kept r
  only-removal (position ∷ path) Empty = tt
  only-removal (position ∷ path) (Tree n c r) = (only-merged_from (merged_at first_gone path) (only-removal path) position c, only-all_kept r)

module _ {L : Type 0} (z : Keyed L) (zs : Forest (Keyed L)) where
  -- the second merge is the first, and the tree comes in it, in so many nodes
  pub data Puts : ℕ → Merge L → Merge L → Type 0 where
    puts_here : (m : Merge L) → Puts 0 m (Come z zs m)
    puts_inside : (depth : ℕ) (n : Keyed L) (c d r : Merge L) → Puts depth c d → Puts (suc depth) (Kept n c r) (Kept n d r)
    puts_beside : (depth : ℕ) (n : Keyed L) (c r t : Merge L) → Puts depth r t → Puts depth (Kept n c r) (Kept n c t)
    puts_behind : (depth : ℕ) (n : Keyed L) (c : Forest (Keyed L)) (r t : Merge L) → Puts depth r t → Puts depth (Gone n c r) (Gone n c t)

  puts-come_among : (index : ℕ) (m : Merge L) → OnlyGoes m → index ≤ length (roots (new_of m)) → Puts 0 m (come_among index z zs m)
  puts-come_among zero m h few = puts_here m
  puts-come_among (suc index) End h few = absurd (omega (arith, few))
  puts-come_among (suc index) (Kept n c r) h few = puts_beside 0 n c r (come_among index z zs r) (puts-come_among index r h.1 (omega (arith, few)))
  puts-come_among (suc index) (Turned was n c r) h few = absurd h
  puts-come_among (suc index) (Gone n c r) h few = puts_behind 0 n c r (come_among (suc index) z zs r) (puts-come_among (suc index) r h few)
  puts-come_among (suc index) (Come n c r) h few = absurd h

  puts-from_new : (path : List ℕ) (index : ℕ) → ((m : Merge L) → OnlyGoes m → HasRoom path index (new_of m) → Puts (suc (length path)) m (put_at path index z zs m))
      → (position : ℕ) (m : Merge L) → OnlyGoes m → HasRoom path index (trees_from position (new_of m)) → Puts (suc (length path)) m (from_new (put_at path index z zs) position m)
  puts-from_new path index puts zero End h room = puts End h room
  puts-from_new path index puts zero (Kept n c r) h room = puts (Kept n c r) h room
  puts-from_new path index puts zero (Turned was n c r) h room = absurd h
  puts-from_new path index puts zero (Gone n c r) h room =
      puts_behind (suc (length path)) n c r (from_new (put_at path index z zs) zero r) (puts-from_new path index puts zero r h room)
  puts-from_new path index puts zero (Come n c r) h room = absurd h
  puts-from_new path index puts (suc position) End h room = absurd (names_nothing L path room.0)
  puts-from_new path index puts (suc position) (Kept n c r) h room =
      puts_beside (suc (length path)) n c r (from_new (put_at path index z zs) position r) (puts-from_new path index puts position r h.1 room)
  puts-from_new path index puts (suc position) (Turned was n c r) h room = absurd h
  puts-from_new path index puts (suc position) (Gone n c r) h room =
      puts_behind (suc (length path)) n c r (from_new (put_at path index z zs) (suc position) r) (puts-from_new path index puts (suc position) r h room)
  puts-from_new path index puts (suc position) (Come n c r) h room = absurd h

  -- where there is room the tree comes, in the nodes of the path
  pub puts-put_at : (path : List ℕ) (index : ℕ) (m : Merge L) → OnlyGoes m → HasRoom path index (new_of m) → Puts (suc (length path)) m (put_at path index z zs m)
  puts-put_at [] index End h room = absurd room.0
  puts-put_at [] index (Kept n c r) h room = puts_inside 0 n c (come_among index z zs c) r (puts-come_among index c h.0 room.1)
  puts-put_at [] index (Turned was n c r) h room = absurd h
  puts-put_at [] index (Gone n c r) h room = puts_behind 1 n c r (put_at [] index z zs r) (puts-put_at [] index r h room)
  puts-put_at [] index (Come n c r) h room = absurd h
  puts-put_at (position ∷ path) index End h room = absurd room.0
  puts-put_at (position ∷ path) index (Kept n c r) h room =
      puts_inside (suc (length path)) n c (from_new (put_at path index z zs) position c) r (puts-from_new path index (puts-put_at path index) position c h.0 room)
  puts-put_at (position ∷ path) index (Turned was n c r) h room = absurd h
  puts-put_at (position ∷ path) index (Gone n c r) h room =
      puts_behind (suc (suc (length path))) n c r (put_at (position ∷ path) index z zs r) (puts-put_at (position ∷ path) index r h room)
  puts-put_at (position ∷ path) index (Come n c r) h room = absurd h

  -- What the tree changes: it weighs what it weighs, and the nodes that it is in are led to.

  pub weigh-puts : (gone come : Forest (Keyed L) → ℕ) (depth : ℕ) (m t : Merge L) → Puts depth m t → weigh_places gone come t ≡ weigh_places gone come m + come (Tree z zs Empty)
  weigh-puts gone come depth m t (puts_here before) = omega arith
  weigh-puts gone come depth m t (puts_inside deep n c d r puts) = omega (arith, weigh-puts gone come deep c d puts)
  weigh-puts gone come depth m t (puts_beside deep n c r s puts) = omega (arith, weigh-puts gone come deep r s puts)
  weigh-puts gone come depth m t (puts_behind deep n c r s puts) = omega (arith, weigh-puts gone come deep r s puts)

  pub led-puts : (depth : ℕ) (m t : Merge L) → Puts depth m t → led_count t ≤ led_count m + depth
  led-puts depth m t (puts_here before) = omega arith
  led-puts depth m t (puts_inside deep n c d r puts) = omega (arith, led-puts deep c d puts, one_at_most (has_place d))
  led-puts depth m t (puts_beside deep n c r s puts) = omega (arith, led-puts deep r s puts)
  led-puts depth m t (puts_behind deep n c r s puts) = led-puts deep r s puts
