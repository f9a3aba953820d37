-- The elements that the merge of an edit enters. Throughout, n is a node, c what is under it, r what is after it, g trees,
-- and m a merge; z is a node that comes, with zs under it.
use Rattle.std.proofs.Common.{◌≡◌, ℕ, zero, suc, cond, List, [], ◌∷◌, ◌++◌, refl, ap, ap₂, ◌∙◌}
use Rattle.std.specs.Prelude.{map}
use Rattle.forest.specs.Forest.{Forest, Empty, Tree}
use Rattle.forest.specs.Keys.{Keyed}
use Rattle.forest.specs.Paths.{on_path, trees_from}
use Rattle.plain_types.specs.declared.node.Node.{Node}
use Rattle.node_arena.specs.AtPaths.{with_label}
use Rattle.node_arena.specs.Changes.{alone}
use Rattle.merged_walk.specs.Merges.{Merge, End, Kept, Turned, Gone, Come, all_kept, has_place, new_of}
use Rattle.merged_walk.specs.Edits.{come_among, first_changed, first_gone, from_new, merged_at, merged_from, put_at, removal}
use Rattle.merged_walk.specs.EditStops.{on_way}
use Rattle.merged_walk.proofs.MergeLaws.{has_place-all_kept}
use Rattle.edit_work.specs.KeyedSources.{elements_in}
use Rattle.reference_reach.specs.MergedNodes.{entered_elements}
use Rattle.reference_reach.proofs.Lists.{Within, both-within, first-within, itself-within, left-within, nothing-within, right-within, same-within, sum-within, through-within}

-- the keys of the nodes above the one at a path
abbrev pub keys_above : List ℕ → Forest (Keyed Node) → List ℕ
keys_above path g = map (λ (n : Keyed Node). n.key) (on_way path g)

-- where all is kept, none is entered
pub entered-all_kept : (g : Forest (Keyed Node)) → entered_elements (all_kept g) ≡ []
entered-all_kept Empty = refl
entered-all_kept (Tree n c r) =
    ap (λ b. cond b (n.key ∷ []) [] ++ (entered_elements (all_kept c) ++ entered_elements (all_kept r))) (has_place-all_kept c)
    ∙ ap₂ (λ xs ys. xs ++ ys) (entered-all_kept c) (entered-all_kept r)

-- a first tree that is kept whole
entered-beside : (n : Keyed Node) (c : Forest (Keyed Node)) (m : Merge Node) → entered_elements (Kept n (all_kept c) m) ≡ entered_elements m
entered-beside n c m =
    ap (λ b. cond b (n.key ∷ []) [] ++ (entered_elements (all_kept c) ++ entered_elements m)) (has_place-all_kept c)
    ∙ ap (λ xs. xs ++ entered_elements m) (entered-all_kept c)

-- A change at a path: what it enters, and the nodes above it.
module _ (change : Forest (Keyed Node) → Merge Node) where
  entered-from : (sub : Forest (Keyed Node) → Merge Node) (position : ℕ) (g : Forest (Keyed Node)) → Within (entered_elements (merged_from sub position g)) (entered_elements (sub (trees_from position g)))
  entered-from sub zero g = itself-within (entered_elements (sub g))
  entered-from sub (suc position) Empty = nothing-within (entered_elements (sub Empty))
  entered-from sub (suc position) (Tree n c r) =
      through-within (same-within (entered_elements (Kept n (all_kept c) (merged_from sub position r))) (entered_elements (merged_from sub position r)) (entered-beside n c (merged_from sub position r)))
      (entered-from sub position r)

  pub entered-at : (path : List ℕ) (g : Forest (Keyed Node)) → Within (entered_elements (merged_at change path g)) (keys_above path g ++ entered_elements (change (on_path path g)))
  entered-at [] g = itself-within (entered_elements (change g))
  entered-at (position ∷ path) Empty = nothing-within (keys_above (position ∷ path) Empty ++ entered_elements (change (on_path (position ∷ path) Empty)))
  entered-at (position ∷ path) (Tree n c r) =
      let inner : Merge Node = merged_from (merged_at change path) position c in
      let rest : List ℕ = keys_above path (trees_from position c) ++ entered_elements (change (on_path path (trees_from position c))) in
      both-within (cond (has_place inner) (n.key ∷ []) []) (entered_elements inner ++ entered_elements (all_kept r))
      (first-within n.key (has_place inner) rest)
      (both-within (entered_elements inner) (entered_elements (all_kept r))
      (through-within (entered-from (merged_at change path) position c) (through-within (entered-at path (trees_from position c)) (right-within (n.key ∷ []) rest)))
      (through-within (same-within (entered_elements (all_kept r)) [] (entered-all_kept r)) (nothing-within (n.key ∷ rest))))

entered-gone : (g : Forest (Keyed Node)) → entered_elements (first_gone g) ≡ []
entered-gone Empty = refl
entered-gone (Tree n c r) = entered-all_kept r

entered-changed : (change : Keyed Node → Keyed Node) (g : Forest (Keyed Node)) → Within (entered_elements (first_changed change g)) (elements_in (alone (with_label change g)))
entered-changed change Empty = nothing-within []
entered-changed change (Tree n c r) =
    let own : List ℕ = elements_in (Tree (change n) c Empty) in
    both-within own (entered_elements (all_kept r)) (itself-within own) (through-within (same-within (entered_elements (all_kept r)) [] (entered-all_kept r)) (nothing-within own))

-- a node that goes
pub entered-removal : (path : List ℕ) (g : Forest (Keyed Node)) → Within (entered_elements (removal path g)) (keys_above path g)
entered-removal path g =
    through-within (entered-at first_gone path g)
    (both-within (keys_above path g) (entered_elements (first_gone (on_path path g))) (itself-within (keys_above path g))
    (through-within (same-within (entered_elements (first_gone (on_path path g))) [] (entered-gone (on_path path g))) (nothing-within (keys_above path g))))

-- a node that changes its label
pub entered-relabelling : (change : Keyed Node → Keyed Node) (path : List ℕ) (g : Forest (Keyed Node))
    → Within (entered_elements (merged_at (first_changed change) path g)) (keys_above path g ++ elements_in (alone (with_label change (on_path path g))))
entered-relabelling change path g =
    through-within (entered-at (first_changed change) path g)
    (sum-within (keys_above path g) (entered_elements (first_changed change (on_path path g))) (keys_above path g) (elements_in (alone (with_label change (on_path path g))))
    (itself-within (keys_above path g)) (entered-changed change (on_path path g)))

-- A tree that comes into a merge in which trees only go.

abbrev pub OnlyGoes : Merge Node → Type 0
OnlyGoes End = Unit {0}
OnlyGoes (Kept n c r) = OnlyGoes c × OnlyGoes r
OnlyGoes (Turned was n c r) = ⊥
OnlyGoes (Gone n c r) = OnlyGoes r
OnlyGoes (Come n c r) = ⊥

pub only-all_kept : (g : Forest (Keyed Node)) → OnlyGoes (all_kept g)
only-all_kept Empty = tt
only-all_kept (Tree n c r) = (only-all_kept c, only-all_kept r)

only-merged_from : (change : Forest (Keyed Node) → Merge Node) → ((g : Forest (Keyed Node)) → OnlyGoes (change g)) → (position : ℕ) (g : Forest (Keyed Node)) → OnlyGoes (merged_from change position g)
only-merged_from change only zero g = only g
only-merged_from change only (suc position) Empty = tt
only-merged_from change only (suc position) (Tree n c r) = (only-all_kept c, only-merged_from change only position r)

pub only-removal : (path : List ℕ) (g : Forest (Keyed Node)) → OnlyGoes (removal path g)
only-removal [] Empty = tt
only-removal [] (Tree n c r) = only-all_kept r
only-removal (position ∷ path) Empty = tt
only-removal (position ∷ path) (Tree n c r) = (only-merged_from (merged_at first_gone path) (only-removal path) position c, only-all_kept r)

module _ (z : Keyed Node) (zs : Forest (Keyed Node)) where
  abbrev comes : List ℕ
  comes = elements_in (Tree z zs Empty)

  entered-among : (index : ℕ) (m : Merge Node) → OnlyGoes m → Within (entered_elements (come_among index z zs m)) (comes ++ entered_elements m)
  entered-among zero m h = itself-within (comes ++ entered_elements m)
  entered-among (suc index) End h = itself-within (comes ++ [])
  entered-among (suc index) (Kept n c r) h =
      let own : List ℕ = cond (has_place c) (n.key ∷ []) [] in
      let all : List ℕ = own ++ (entered_elements c ++ entered_elements r) in
      both-within own (entered_elements c ++ entered_elements (come_among index z zs r))
      (through-within (left-within own (entered_elements c ++ entered_elements r)) (right-within comes all))
      (both-within (entered_elements c) (entered_elements (come_among index z zs r))
      (through-within (left-within (entered_elements c) (entered_elements r)) (through-within (right-within own (entered_elements c ++ entered_elements r)) (right-within comes all)))
      (through-within (entered-among index r h.1)
      (sum-within comes (entered_elements r) comes all (itself-within comes)
      (through-within (right-within (entered_elements c) (entered_elements r)) (right-within own (entered_elements c ++ entered_elements r))))))
  entered-among (suc index) (Turned was n c r) h = absurd h
  entered-among (suc index) (Gone n c r) h = entered-among (suc index) r h
  entered-among (suc index) (Come n c r) h = absurd h

  -- what is entered in a merge once the tree has come as the child of this index of the node at a path
  abbrev above : List ℕ → ℕ → Forest (Keyed Node) → List ℕ
  above path index g = keys_above (path ++ index ∷ []) g

  abbrev Puts : List ℕ → ℕ → Merge Node → Type 0
  Puts path index m = Within (entered_elements (put_at path index z zs m)) (comes ++ (above path index (new_of (put_at path index z zs m)) ++ entered_elements m))

  abbrev PutsFrom : List ℕ → ℕ → ℕ → Merge Node → Type 0
  PutsFrom path index position m =
      let put : Merge Node = from_new (put_at path index z zs) position m in
      Within (entered_elements put) (comes ++ (above path index (trees_from position (new_of put)) ++ entered_elements m))

  entered-from_new : (path : List ℕ) (index : ℕ) → ((m : Merge Node) → OnlyGoes m → Puts path index m) → (position : ℕ) (m : Merge Node) → OnlyGoes m → PutsFrom path index position m
  entered-from_new path index puts zero End h = puts End h
  entered-from_new path index puts zero (Kept n c r) h = puts (Kept n c r) h
  entered-from_new path index puts zero (Turned was n c r) h = absurd h
  entered-from_new path index puts zero (Gone n c r) h = entered-from_new path index puts zero r h
  entered-from_new path index puts zero (Come n c r) h = absurd h
  entered-from_new path index puts (suc position) End h = nothing-within (comes ++ (above path index Empty ++ []))
  entered-from_new path index puts (suc position) (Kept n c r) h =
      let put : Merge Node = from_new (put_at path index z zs) position r in
      let over : List ℕ = above path index (trees_from position (new_of put)) in
      let own : List ℕ = cond (has_place c) (n.key ∷ []) [] in
      let all : List ℕ = own ++ (entered_elements c ++ entered_elements r) in
      let to_all : Within all (comes ++ (over ++ all)) = through-within (right-within over all) (right-within comes (over ++ all)) in
      both-within own (entered_elements c ++ entered_elements put)
      (through-within (left-within own (entered_elements c ++ entered_elements r)) to_all)
      (both-within (entered_elements c) (entered_elements put)
      (through-within (through-within (left-within (entered_elements c) (entered_elements r)) (right-within own (entered_elements c ++ entered_elements r))) to_all)
      (through-within (entered-from_new path index puts position r h.1)
      (sum-within comes (over ++ entered_elements r) comes (over ++ all) (itself-within comes)
      (sum-within over (entered_elements r) over all (itself-within over)
      (through-within (right-within (entered_elements c) (entered_elements r)) (right-within own (entered_elements c ++ entered_elements r)))))))
  entered-from_new path index puts (suc position) (Turned was n c r) h = absurd h
  entered-from_new path index puts (suc position) (Gone n c r) h = entered-from_new path index puts (suc position) r h
  entered-from_new path index puts (suc position) (Come n c r) h = absurd h

  -- a node whose children it comes among, or stands deeper in
  entered-under : (n : Keyed Node) (c d r : Merge Node) (over : List ℕ) → Within (entered_elements d) (comes ++ (over ++ entered_elements c))
      → Within (entered_elements (Kept n d r)) (comes ++ ((n.key ∷ over) ++ entered_elements (Kept n c r)))
  entered-under n c d r over below =
      let own : List ℕ = cond (has_place c) (n.key ∷ []) [] in
      let all : List ℕ = own ++ (entered_elements c ++ entered_elements r) in
      let to_all : Within all (comes ++ ((n.key ∷ over) ++ all)) = through-within (right-within (n.key ∷ over) all) (right-within comes ((n.key ∷ over) ++ all)) in
      both-within (cond (has_place d) (n.key ∷ []) []) (entered_elements d ++ entered_elements r)
      (through-within (first-within n.key (has_place d) over) (through-within (left-within (n.key ∷ over) all) (right-within comes ((n.key ∷ over) ++ all))))
      (both-within (entered_elements d) (entered_elements r)
      (through-within below
      (sum-within comes (over ++ entered_elements c) comes ((n.key ∷ over) ++ all) (itself-within comes)
      (sum-within over (entered_elements c) (n.key ∷ over) all (right-within (n.key ∷ []) over)
      (through-within (left-within (entered_elements c) (entered_elements r)) (right-within own (entered_elements c ++ entered_elements r))))))
      (through-within (through-within (right-within (entered_elements c) (entered_elements r)) (right-within own (entered_elements c ++ entered_elements r))) to_all))

  pub entered-put : (path : List ℕ) (index : ℕ) (m : Merge Node) → OnlyGoes m → Puts path index m
  entered-put [] index End h = nothing-within (comes ++ (above [] index Empty ++ []))
  entered-put [] index (Kept n c r) h = entered-under n c (come_among index z zs c) r [] (entered-among index c h.0)
  entered-put [] index (Turned was n c r) h = absurd h
  entered-put [] index (Gone n c r) h = entered-put [] index r h
  entered-put [] index (Come n c r) h = absurd h
  entered-put (position ∷ path) index End h = nothing-within (comes ++ (above (position ∷ path) index Empty ++ []))
  entered-put (position ∷ path) index (Kept n c r) h =
      let put : Merge Node = from_new (put_at path index z zs) position c in
      entered-under n c put r (above path index (trees_from position (new_of put))) (entered-from_new path index (entered-put path index) position c h.0)
  entered-put (position ∷ path) index (Turned was n c r) h = absurd h
  entered-put (position ∷ path) index (Gone n c r) h = entered-put (position ∷ path) index r h
  entered-put (position ∷ path) index (Come n c r) h = absurd h
