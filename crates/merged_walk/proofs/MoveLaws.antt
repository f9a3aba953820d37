-- The two places of a move, each for itself, in the tree before the move. Throughout, n is a node, c what is under
-- it, r what is after it, and g trees; z is the node that moves, with zs under it. The node that goes is at step ∷
-- above, and it comes under position ∷ path.
use Rattle.std.proofs.Common.{◌≡◌, ◌==◌, ◌&&◌, ◌-◌, ◌<◌, ◌≤◌, ◌++◌, length, nat_lt, if◌then◌else◌, ℕ, zero, suc, Bool, true, false, cond, List, [], ◌∷◌, refl, sym, ap, subst, ◌∙◌, arith, eqb-true}
use Rattle.std.proofs.lemmas.Bool.Decides.{nat_tests}
use Rattle.forest.specs.Forest.{Forest, Empty, Tree}
use Rattle.forest.specs.Keys.{Keyed, HasDistinctKeys}
use Rattle.forest.specs.Spots.{roots}
use Rattle.forest.specs.Paths.{trees_from}
use Rattle.node_arena.specs.AtPaths.{leads_into, once_out}
use Rattle.merged_walk.specs.Merges.{Merge, Kept, Gone, Come, all_kept, new_of}
use Rattle.merged_walk.specs.Stops.{stops_of}
use Rattle.merged_walk.specs.Edits.{merged_from, merged_at, first_gone, come_among, from_new, put_at, removal}
use Rattle.merged_walk.specs.EditStops.{HasRoom, IsUnderElements, NamesNode, is_before, joined, moving_stops, old_index}
use Rattle.merged_walk.proofs.WayStops.{stops-insertion, stops-removal}
use Rattle.merged_walk.proofs.JoinWords.{begins_with_come}
use Rattle.merged_walk.proofs.JoinLaws.{joins}
use Rattle.merged_walk.proofs.MoveParts.{Both, Goes, both-beside, both-come, both-comes_under, both-first, both-gone, both-goes_under, both-under, comes-behind, comes-from, goes-from}

-- Positions once a sibling is out, and before it was.

less-zero : (k : ℕ) → nat_lt 0 (suc k) ≡ true
less-zero k = grind (arith, nat_tests)

less-none : (k : ℕ) → nat_lt k 0 ≡ false
less-none k = grind (arith, nat_tests)

less-suc : (a b : ℕ) → nat_lt (suc a) (suc b) ≡ nat_lt a b
less-suc a b = grind (arith, nat_tests)

less-itself : (a : ℕ) → nat_lt a a ≡ false
less-itself a = grind (arith, nat_tests)

differ-suc : (a b : ℕ) → (suc a == suc b) ≡ false → (a == b) ≡ false
differ-suc a b h = grind (arith, nat_tests, h)

abbrev out_if : Bool → ℕ → ℕ
out_if b position = if b then position - 1 else position

-- the position of a sibling once the one at a position is out
abbrev out : ℕ → ℕ → ℕ
out gone position = out_if (nat_lt gone position) position

out-zero : (position : ℕ) → out 0 (suc position) ≡ position
out-zero position = ap (λ b. out_if b (suc position)) (less-zero position) ∙ omega arith

out-none : (gone : ℕ) → out gone 0 ≡ 0
out-none gone = ap (λ b. out_if b 0) (less-none gone)

out_if-suc : (b : Bool) (gone position : ℕ) → nat_lt gone position ≡ b → out_if b (suc position) ≡ suc (out_if b position)
out_if-suc true gone position h = let some : gone < position = grind (arith, nat_tests, h) in omega (arith, some)
out_if-suc false gone position h = refl

out-suc : (gone position : ℕ) → out (suc gone) (suc position) ≡ suc (out gone position)
out-suc gone position = ap (λ b. out_if b (suc position)) (less-suc gone position) ∙ out_if-suc (nat_lt gone position) gone position refl

-- the index at which a node comes, counted among its siblings before the one at a position went
abbrev before : ℕ → ℕ → ℕ
before gone index = if nat_lt gone index then suc index else index

before-zero : (index : ℕ) → before 0 (suc index) ≡ suc (suc index)
before-zero index = ap (λ b. cond b (suc (suc index)) (suc index)) (less-zero index)

before-none : (gone : ℕ) → before gone 0 ≡ 0
before-none gone = ap (λ b. cond {A = ℕ} b 1 0) (less-none gone)

before_if-suc : (b : Bool) (index : ℕ) → cond b (suc (suc index)) (suc index) ≡ suc (cond b (suc index) index)
before_if-suc true index = refl
before_if-suc false index = refl

before-suc : (gone index : ℕ) → before (suc gone) (suc index) ≡ suc (before gone index)
before-suc gone index = ap (λ b. cond b (suc (suc index)) (suc index)) (less-suc gone index) ∙ before_if-suc (nat_lt gone index) index

-- where the second test decides nothing
first-test : (t u : Bool) → t ≡ cond t true (cond u false false)
first-test true u = refl
first-test false true = refl
first-test false false = refl

module _ {L : Type 0} (z : Keyed L) (zs : Forest (Keyed L)) where
  -- a level of kept trees among which the tree comes, and one under which it comes
  abbrev level_with : Forest (Keyed L) → ℕ → Merge L
  level_with c index = come_among index z zs (all_kept c)

  abbrev level_under : List ℕ → ℕ → ℕ → Merge L → Merge L
  level_under path index position m = from_new (put_at path index z zs) position m

  abbrev level_gone : List ℕ → ℕ → Forest (Keyed L) → Merge L
  level_gone path step c = merged_from (merged_at first_gone path) step c

  begins-with : (index : ℕ) (c : Forest (Keyed L)) → suc index ≤ length (roots c) → begins_with_come (level_with c (suc index)) ≡ false
  begins-with index Empty few = absurd (omega (arith, few))
  begins-with index (Tree n c r) few = refl

  begins-put : (path : List ℕ) (index : ℕ) (g : Forest (Keyed L)) → begins_with_come (put_at path index z zs (all_kept g)) ≡ false
  begins-put [] index Empty = refl
  begins-put [] index (Tree n c r) = refl
  begins-put (position ∷ path) index Empty = refl
  begins-put (position ∷ path) index (Tree n c r) = refl

  begins-under : (path : List ℕ) (index position : ℕ) (c : Forest (Keyed L)) → begins_with_come (level_under path index position (all_kept c)) ≡ false
  begins-under path index zero Empty = begins-put path index Empty
  begins-under path index zero (Tree n c r) = begins-put path index (Tree n c r)
  begins-under path index (suc position) Empty = refl
  begins-under path index (suc position) (Tree n c r) = refl

  -- It comes on the level of the one that goes.
  beside-gone : (step index : ℕ) (c : Forest (Keyed L)) → NamesNode [] (trees_from step c) → before step index ≤ length (roots c)
      → Both (come_among index z zs (level_gone [] step c)) (level_gone [] step c) (level_with c (before step index)) (nat_lt step (before step index))
  beside-gone step zero c there few =
      subst (λ k. Both (Come z zs (level_gone [] step c)) (level_gone [] step c) (level_with c k) (nat_lt step k)) (sym (before-none step))
      (both-first (Come z zs (level_gone [] step c)) (level_gone [] step c) (Come z zs (all_kept c)) false (nat_lt step 0) (sym (less-none step))
      (both-come z zs c (level_gone [] step c) (goes-from [] step c there)))
  beside-gone zero (suc index) Empty there few = absurd there
  beside-gone zero (suc index) (Tree n c r) there few =
      let room : suc index ≤ length (roots r) = let enough = subst (λ k. k ≤ suc (length (roots r))) (before-zero index) few in omega (arith, enough) in
      let t = level_with r (suc index) in
      subst (λ k. Both (Gone n c t) (Gone n c (all_kept r)) (level_with (Tree n c r) k) (nat_lt 0 k)) (sym (before-zero index))
      (both-first (Gone n c t) (Gone n c (all_kept r)) (Kept n (all_kept c) t) true (nat_lt 0 (suc (suc index))) (sym (less-zero (suc index)))
      (both-gone n c r t (comes-behind z zs (suc index) r room) (begins-with index r room)))
  beside-gone (suc step) (suc index) Empty there few = absurd there
  beside-gone (suc step) (suc index) (Tree n c r) there few =
      let room : before step index ≤ length (roots r) = let enough = subst (λ k. k ≤ suc (length (roots r))) (before-suc step index) few in omega (arith, enough) in
      let t = come_among index z zs (level_gone [] step r) in
      let gone = level_gone [] step r in
      let come = level_with r (before step index) in
      subst (λ k. Both (Kept n (all_kept c) t) (Kept n (all_kept c) gone) (level_with (Tree n c r) k) (nat_lt (suc step) k)) (sym (before-suc step index))
      (both-first (Kept n (all_kept c) t) (Kept n (all_kept c) gone) (Kept n (all_kept c) come) (nat_lt step (before step index)) (nat_lt (suc step) (suc (before step index)))
      (sym (less-suc step (before step index)))
      (both-beside n c t gone come (nat_lt step (before step index)) (beside-gone step index r there room)))

  -- It comes on a level under whose trees one goes.
  beside-deep : (next : ℕ) (above : List ℕ) (step index : ℕ) (c : Forest (Keyed L)) → NamesNode (next ∷ above) (trees_from step c) → index ≤ length (roots c)
      → Both (come_among index z zs (level_gone (next ∷ above) step c)) (level_gone (next ∷ above) step c) (level_with c index) (nat_lt step index)
  beside-deep next above step zero c there few =
      both-first (Come z zs (level_gone (next ∷ above) step c)) (level_gone (next ∷ above) step c) (Come z zs (all_kept c)) false (nat_lt step 0) (sym (less-none step))
      (both-come z zs c (level_gone (next ∷ above) step c) (goes-from (next ∷ above) step c there))
  beside-deep next above zero (suc index) Empty there few = absurd there
  beside-deep next above zero (suc index) (Tree n c r) there few =
      let gone = level_gone above next c in
      let come = level_with r index in
      both-first (Kept n gone come) (Kept n gone (all_kept r)) (Kept n (all_kept c) come) true (nat_lt 0 (suc index)) (sym (less-zero index))
      (both-goes_under n c r gone come (goes-from above next c there) (comes-behind z zs index r (omega (arith, few))))
  beside-deep next above (suc step) (suc index) Empty there few = absurd there
  beside-deep next above (suc step) (suc index) (Tree n c r) there few =
      let t = come_among index z zs (level_gone (next ∷ above) step r) in
      let gone = level_gone (next ∷ above) step r in
      both-first (Kept n (all_kept c) t) (Kept n (all_kept c) gone) (Kept n (all_kept c) (level_with r index)) (nat_lt step index) (nat_lt (suc step) (suc index)) (sym (less-suc step index))
      (both-beside n c t gone (level_with r index) (nat_lt step index) (beside-deep next above step index r there (omega (arith, few))))

  -- It comes under the first tree of a level, and one goes behind that tree.
  under-first : (path : List ℕ) (index : ℕ) (n : Keyed L) (c r : Forest (Keyed L)) (t : Merge L) → HasRoom path index (Tree n c r) → Goes t r
      → Both (put_at path index z zs (Kept n (all_kept c) t)) (Kept n (all_kept c) t) (put_at path index z zs (all_kept (Tree n c r))) false
  under-first [] index n c r t room goes = both-comes_under n c r (level_with c index) t (comes-behind z zs index c room.1) goes
  under-first (position ∷ path) index n c r t room goes =
      both-comes_under n c r (level_under path index position (all_kept c)) t (comes-from z zs path index position c room) goes

  -- It comes under a sibling of the one that goes.
  under-sibling : (path : List ℕ) (index step position : ℕ) (c : Forest (Keyed L)) → (step == position) ≡ false → NamesNode [] (trees_from step c) → HasRoom path index (trees_from position c)
      → Both (level_under path index (out step position) (level_gone [] step c)) (level_gone [] step c) (level_under path index position (all_kept c)) (nat_lt step position)
  under-sibling path index zero zero c h there room = absurd (cc)
  under-sibling path index zero (suc position) Empty h there room = absurd there
  under-sibling path index zero (suc position) (Tree n c r) h there room =
      let t = level_under path index position (all_kept r) in
      let gone = Gone n c (all_kept r) in
      subst (λ k. Both (level_under path index k gone) gone (Kept n (all_kept c) t) (nat_lt 0 (suc position))) (sym (out-zero position))
      (both-first (level_under path index position gone) gone (Kept n (all_kept c) t) true (nat_lt 0 (suc position)) (sym (less-zero position))
      (behind position t refl (both-gone n c r t (comes-from z zs path index position r room) (begins-under path index position r))))
    where
      behind : (position : ℕ) (t : Merge L) → level_under path index position (all_kept r) ≡ t → Both (Gone n c t) (Gone n c (all_kept r)) (Kept n (all_kept c) t) true
          → Both (level_under path index position (Gone n c (all_kept r))) (Gone n c (all_kept r)) (Kept n (all_kept c) t) true
      behind zero t is h = subst (λ m. Both (Gone n c m) (Gone n c (all_kept r)) (Kept n (all_kept c) t) true) (sym is) h
      behind (suc position) t is h = subst (λ m. Both (Gone n c m) (Gone n c (all_kept r)) (Kept n (all_kept c) t) true) (sym is) h
  under-sibling path index (suc step) zero Empty h there room = absurd there
  under-sibling path index (suc step) zero (Tree n c r) h there room =
      let gone = level_gone [] step r in
      let come = put_at path index z zs (all_kept (Tree n c r)) in
      subst (λ k. Both (level_under path index k (Kept n (all_kept c) gone)) (Kept n (all_kept c) gone) come (nat_lt (suc step) 0)) (sym (out-none (suc step)))
      (both-first (put_at path index z zs (Kept n (all_kept c) gone)) (Kept n (all_kept c) gone) come false (nat_lt (suc step) 0) (sym (less-none (suc step)))
      (under-first path index n c r gone room (goes-from [] step r there)))
  under-sibling path index (suc step) (suc position) Empty h there room = absurd there
  under-sibling path index (suc step) (suc position) (Tree n c r) h there room =
      let t = level_under path index (out step position) (level_gone [] step r) in
      let gone = level_gone [] step r in
      let come = level_under path index position (all_kept r) in
      subst (λ k. Both (level_under path index k (Kept n (all_kept c) gone)) (Kept n (all_kept c) gone) (Kept n (all_kept c) come) (nat_lt (suc step) (suc position))) (sym (out-suc step position))
      (both-first (Kept n (all_kept c) t) (Kept n (all_kept c) gone) (Kept n (all_kept c) come) (nat_lt step position) (nat_lt (suc step) (suc position)) (sym (less-suc step position))
      (both-beside n c t gone come (nat_lt step position) (under-sibling path index step position r (differ-suc step position h) there room)))

  -- It comes under another tree than that under which one goes.
  under-other : (next : ℕ) (above path : List ℕ) (index step position : ℕ) (c : Forest (Keyed L)) → (step == position) ≡ false → NamesNode (next ∷ above) (trees_from step c)
      → HasRoom path index (trees_from position c)
      → Both (level_under path index position (level_gone (next ∷ above) step c)) (level_gone (next ∷ above) step c) (level_under path index position (all_kept c)) (nat_lt step position)
  under-other next above path index zero zero c h there room = absurd (cc)
  under-other next above path index zero (suc position) Empty h there room = absurd there
  under-other next above path index zero (suc position) (Tree n c r) h there room =
      let gone = level_gone above next c in
      let come = level_under path index position (all_kept r) in
      both-first (Kept n gone come) (Kept n gone (all_kept r)) (Kept n (all_kept c) come) true (nat_lt 0 (suc position)) (sym (less-zero position))
      (both-goes_under n c r gone come (goes-from above next c there) (comes-from z zs path index position r room))
  under-other next above path index (suc step) zero Empty h there room = absurd there
  under-other next above path index (suc step) zero (Tree n c r) h there room =
      let gone = level_gone (next ∷ above) step r in
      let come = put_at path index z zs (all_kept (Tree n c r)) in
      both-first (put_at path index z zs (Kept n (all_kept c) gone)) (Kept n (all_kept c) gone) come false (nat_lt (suc step) 0) (sym (less-none (suc step)))
      (under-first path index n c r gone room (goes-from (next ∷ above) step r there))
  under-other next above path index (suc step) (suc position) Empty h there room = absurd there
  under-other next above path index (suc step) (suc position) (Tree n c r) h there room =
      let t = level_under path index position (level_gone (next ∷ above) step r) in
      let gone = level_gone (next ∷ above) step r in
      let come = level_under path index position (all_kept r) in
      both-first (Kept n (all_kept c) t) (Kept n (all_kept c) gone) (Kept n (all_kept c) come) (nat_lt step position) (nat_lt (suc step) (suc position)) (sym (less-suc step position))
      (both-beside n c t gone come (nat_lt step position) (under-other next above path index step position r (differ-suc step position h) there room))

  -- It comes under the tree under which one goes.
  under-same : (next : ℕ) (above path other : List ℕ) (index there : ℕ) (first : Bool) (position : ℕ) (c : Forest (Keyed L)) → NamesNode (next ∷ above) (trees_from position c)
      → Both (put_at path index z zs (removal (next ∷ above) (trees_from position c))) (removal (next ∷ above) (trees_from position c)) (put_at other there z zs (all_kept (trees_from position c))) first
      → Both (level_under path index position (level_gone (next ∷ above) position c)) (level_gone (next ∷ above) position c) (level_under other there position (all_kept c)) first
  under-same next above path other index there first zero Empty named h = absurd named
  under-same next above path other index there first zero (Tree n c r) named h = h
  under-same next above path other index there first (suc position) Empty named h = absurd named
  under-same next above path other index there first (suc position) (Tree n c r) named h =
      both-beside n c (level_under path index position (level_gone (next ∷ above) position r)) (level_gone (next ∷ above) position r) (level_under other there position (all_kept r)) first
      (under-same next above path other index there first position r named h)

  abbrev Moved : List ℕ → List ℕ → ℕ → Forest (Keyed L) → Type 0
  Moved from parent index g =
      Both (put_at (once_out from parent) index z zs (removal from g)) (removal from g) (put_at parent (old_index from parent index) z zs (all_kept g)) (is_before from (parent ++ old_index from parent index ∷ []))

  -- Both are deeper on one level: under one tree, or under two.
  deeper : (next : ℕ) (above path : List ℕ) (index step position : ℕ) (c : Forest (Keyed L)) (b : Bool) → (step == position) ≡ b
      → NamesNode (next ∷ above) (trees_from step c) → HasRoom path (cond b (old_index (next ∷ above) path index) index) (trees_from position c)
      → (b ≡ true → NamesNode (next ∷ above) (trees_from position c) → HasRoom path (old_index (next ∷ above) path index) (trees_from position c) → Moved (next ∷ above) path index (trees_from position c))
      → Both (level_under (cond b (once_out (next ∷ above) path) path) index position (level_gone (next ∷ above) step c)) (level_gone (next ∷ above) step c)
      (level_under path (cond b (old_index (next ∷ above) path index) index) position (all_kept c))
      (cond (nat_lt step position) true (cond b (is_before (next ∷ above) (path ++ cond b (old_index (next ∷ above) path index) index ∷ [])) false))
  deeper next above path index step position c true is there room moved =
      let other = once_out (next ∷ above) path in
      let old = old_index (next ∷ above) path index in
      let first = is_before (next ∷ above) (path ++ old ∷ []) in
      let same = eqb-true step position is in
      let named : NamesNode (next ∷ above) (trees_from position c) = subst (λ k. NamesNode (next ∷ above) (trees_from k c)) same there in
      subst (λ k. Both (level_under other index position (level_gone (next ∷ above) k c)) (level_gone (next ∷ above) k c) (level_under path old position (all_kept c)) (cond (nat_lt k position) true first)) (sym same)
      (both-first (level_under other index position (level_gone (next ∷ above) position c)) (level_gone (next ∷ above) position c) (level_under path old position (all_kept c)) first (cond (nat_lt position position) true first)
      (sym (ap (λ t. cond t true first) (less-itself position)))
      (under-same next above other path index old first position c named (moved refl named room)))
  deeper next above path index step position c false is there room moved =
      both-first (level_under path index position (level_gone (next ∷ above) step c)) (level_gone (next ∷ above) step c) (level_under path index position (all_kept c)) (nat_lt step position) (cond (nat_lt step position) true false)
      (first-test (nat_lt step position) true) (under-other next above path index step position c is there room)

  apart-first : (step position : ℕ) (path : List ℕ) → leads_into (step ∷ []) (position ∷ path) ≡ false → (step == position) ≡ false
  apart-first step position path h = last (step == position) h
    where
      last : (b : Bool) → (b && true) ≡ false → b ≡ false
      last true h = h
      last false h = refl

  apart-below : (step next : ℕ) (above : List ℕ) (position : ℕ) (path : List ℕ) → leads_into (step ∷ (next ∷ above)) (position ∷ path) ≡ false → (step == position) ≡ true → leads_into (next ∷ above) path ≡ false
  apart-below step next above position path h same = sym (ap (λ b. b && leads_into (next ∷ above) path) same) ∙ h

  -- the two places of a move: that from which the node goes, and that to which it comes, in the tree before the move
  pub moved-both : (step : ℕ) (above parent : List ℕ) (index : ℕ) (g : Forest (Keyed L)) → leads_into (step ∷ above) parent ≡ false → NamesNode (step ∷ above) g
      → HasRoom parent (old_index (step ∷ above) parent index) g → Moved (step ∷ above) parent index g
  moved-both step above parent index Empty apart there room = absurd there
  moved-both step [] [] index (Tree n c r) apart there room =
      let old = before step index in
      let t = come_among index z zs (level_gone [] step c) in
      both-first (Kept n t (all_kept r)) (Kept n (level_gone [] step c) (all_kept r)) (Kept n (level_with c old) (all_kept r)) (nat_lt step old) (is_before (step ∷ []) (old ∷ []))
      (first-test (nat_lt step old) (step == old)) (both-under n r t (level_gone [] step c) (level_with c old) (nat_lt step old) (beside-gone step index c there room.1))
  moved-both step [] (position ∷ path) index (Tree n c r) apart there room =
      let t = level_under path index (out step position) (level_gone [] step c) in
      let come = level_under path index position (all_kept c) in
      both-first (Kept n t (all_kept r)) (Kept n (level_gone [] step c) (all_kept r)) (Kept n come (all_kept r)) (nat_lt step position) (is_before (step ∷ []) (position ∷ (path ++ index ∷ [])))
      (first-test (nat_lt step position) (step == position))
      (both-under n r t (level_gone [] step c) come (nat_lt step position) (under-sibling path index step position c (apart-first step position path apart) there room))
  moved-both step (next ∷ above) [] index (Tree n c r) apart there room =
      let t = come_among index z zs (level_gone (next ∷ above) step c) in
      let gone = level_gone (next ∷ above) step c in
      both-first (Kept n t (all_kept r)) (Kept n gone (all_kept r)) (Kept n (level_with c index) (all_kept r)) (nat_lt step index) (is_before (step ∷ (next ∷ above)) (index ∷ []))
      (first-test (nat_lt step index) (step == index)) (both-under n r t gone (level_with c index) (nat_lt step index) (beside-deep next above step index c there room.1))
  moved-both step (next ∷ above) (position ∷ path) index (Tree n c r) apart there room =
      both-under n r
      (level_under (cond (step == position) (once_out (next ∷ above) path) path) index position (level_gone (next ∷ above) step c))
      (level_gone (next ∷ above) step c)
      (level_under path (cond (step == position) (old_index (next ∷ above) path index) index) position (all_kept c))
      (cond (nat_lt step position) true (cond (step == position) (is_before (next ∷ above) (path ++ cond (step == position) (old_index (next ∷ above) path index) index ∷ [])) false))
      (deeper next above path index step position c (step == position) refl there room
      (λ same named enough. moved-both next above path index (trees_from position c) (apart-below step next above position path apart same) named enough))

  -- the stops of a move are those of its two places, joined
  pub stops-moving : (is_element : L → Bool) (step : ℕ) (above parent : List ℕ) (index : ℕ) (g : Forest (Keyed L))
      → let from : List ℕ = step ∷ above in
      let place : List ℕ = parent ++ old_index from parent index ∷ [] in
      let m : Merge L = put_at (once_out from parent) index z zs (removal from g) in
      leads_into from parent ≡ false → NamesNode from g → HasRoom parent (old_index from parent index) g → HasDistinctKeys (new_of m)
      → IsUnderElements is_element from g → IsUnderElements is_element place g → stops_of is_element 0 m ≡ moving_stops is_element from parent index z.key g
  stops-moving is_element step above parent index g apart there room distinct elements others =
      let from : List ℕ = step ∷ above in
      let old = old_index from parent index in
      let m = put_at (once_out from parent) index z zs (removal from g) in
      let both = moved-both step above parent index g apart there room in
      let first = ap (stops_of is_element 0) both.without ∙ stops-removal is_element from g there elements in
      let second = ap (stops_of is_element 0) both.with ∙ stops-insertion is_element parent old z zs g room others in
      joins is_element 0 m both.goes both.comes both.order distinct ∙ (λ y. joined (both.is_first y) (first y) (second y))
