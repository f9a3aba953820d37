-- Forests of one shape with alike labels, and what edits by paths make of them.
use Rattle.std.proofs.Common.{◌≡◌, ◌+◌, ℕ, zero, suc, List, [], ◌∷◌, length, refl, ap, ap₂}
use Rattle.forest.specs.Forest.{Forest, Empty, Tree, size}
use Rattle.forest.specs.Spots.{roots}
use Rattle.forest.specs.Paths.{on_path, trees_from}
use Rattle.forest.specs.Changes.{splice}
use Rattle.node_arena.specs.AtPaths.{at_path, child_count_at, first_children, from_position, inserted_at, moved, once_out, relabelled_at, removed_at, with_children, with_label, with_tree, without_first}
use Rattle.same_documents.specs.Sameness.{AreAlike}

module _ {L : Type 0} (R : L → L → Type 0) where
  -- A sameness of labels is one of forests.

  pub alike_refl : ((label : L) → R label label) → (x : Forest L) → AreAlike R x x
  alike_refl same Empty = tt
  alike_refl same (Tree n c r) = (same n, alike_refl same c, alike_refl same r)

  pub alike_sym : ((label other : L) → R label other → R other label) → (x y : Forest L) → AreAlike R x y → AreAlike R y x
  alike_sym back Empty Empty h = tt
  alike_sym back Empty (Tree m d s) h = absurd h
  alike_sym back (Tree n c r) Empty h = absurd h
  alike_sym back (Tree n c r) (Tree m d s) h = (back n m h.0, alike_sym back c d h.1, alike_sym back r s h.2)

  pub alike_trans : ((label other third : L) → R label other → R other third → R label third) → (x y z : Forest L) → AreAlike R x y → AreAlike R y z → AreAlike R x z
  alike_trans on Empty Empty Empty h g = tt
  alike_trans on Empty Empty (Tree k e t) h g = absurd g
  alike_trans on Empty (Tree m d s) z h g = absurd h
  alike_trans on (Tree n c r) Empty z h g = absurd h
  alike_trans on (Tree n c r) (Tree m d s) Empty h g = absurd g
  alike_trans on (Tree n c r) (Tree m d s) (Tree k e t) h g = (on n m k h.0 g.0, alike_trans on c d e h.1 g.1, alike_trans on r s t h.2 g.2)

  -- Their shape.

  pub alike_count : (x y : Forest L) → AreAlike R x y → length (roots x) ≡ length (roots y)
  alike_count Empty Empty h = refl
  alike_count Empty (Tree m d s) h = absurd h
  alike_count (Tree n c r) Empty h = absurd h
  alike_count (Tree n c r) (Tree m d s) h = ap (λ k. suc k) (alike_count r s h.2)

  pub alike_size : (x y : Forest L) → AreAlike R x y → size x ≡ size y
  alike_size Empty Empty h = refl
  alike_size Empty (Tree m d s) h = absurd h
  alike_size (Tree n c r) Empty h = absurd h
  alike_size (Tree n c r) (Tree m d s) h = ap₂ (λ below beside. 1 + (below + beside)) (alike_size c d h.1) (alike_size r s h.2)

  -- What stands at a path.

  pub alike_from : (i : ℕ) (x y : Forest L) → AreAlike R x y → AreAlike R (trees_from i x) (trees_from i y)
  alike_from zero x y h = h
  alike_from (suc i) Empty Empty h = tt
  alike_from (suc i) Empty (Tree m d s) h = absurd h
  alike_from (suc i) (Tree n c r) Empty h = absurd h
  alike_from (suc i) (Tree n c r) (Tree m d s) h = alike_from i r s h.2

  pub alike_on : (path : List ℕ) (x y : Forest L) → AreAlike R x y → AreAlike R (on_path path x) (on_path path y)
  alike_on [] x y h = h
  alike_on (p ∷ path) Empty Empty h = tt
  alike_on (p ∷ path) Empty (Tree m d s) h = absurd h
  alike_on (p ∷ path) (Tree n c r) Empty h = absurd h
  alike_on (p ∷ path) (Tree n c r) (Tree m d s) h = alike_on path (trees_from p c) (trees_from p d) (alike_from p c d h.1)

  alike_first_children : (x y : Forest L) → AreAlike R x y → AreAlike R (first_children x) (first_children y)
  alike_first_children Empty Empty h = tt
  alike_first_children Empty (Tree m d s) h = absurd h
  alike_first_children (Tree n c r) Empty h = absurd h
  alike_first_children (Tree n c r) (Tree m d s) h = h.1

  pub alike_child_count : (path : List ℕ) (x y : Forest L) → AreAlike R x y → child_count_at path x ≡ child_count_at path y
  alike_child_count path x y h =
      alike_count (first_children (on_path path x)) (first_children (on_path path y)) (alike_first_children (on_path path x) (on_path path y) (alike_on path x y h))

  -- Changes at a path.

  -- the second change makes of a forest that is alike what is alike
  abbrev pub DoAlike : (change other : Forest L → Forest L) → Type 0
  DoAlike change other = (x y : Forest L) → AreAlike R x y → AreAlike R (change x) (other y)

  alike_from_position : (change other : Forest L → Forest L) → DoAlike change other → (i : ℕ) → DoAlike (from_position change i) (from_position other i)
  alike_from_position change other does zero x y h = does x y h
  alike_from_position change other does (suc i) Empty Empty h = tt
  alike_from_position change other does (suc i) Empty (Tree m d s) h = absurd h
  alike_from_position change other does (suc i) (Tree n c r) Empty h = absurd h
  alike_from_position change other does (suc i) (Tree n c r) (Tree m d s) h = (h.0, h.1, alike_from_position change other does i r s h.2)

  pub alike_at : (change other : Forest L → Forest L) → DoAlike change other → (path : List ℕ) → DoAlike (at_path change path) (at_path other path)
  alike_at change other does [] x y h = does x y h
  alike_at change other does (p ∷ path) Empty Empty h = tt
  alike_at change other does (p ∷ path) Empty (Tree m d s) h = absurd h
  alike_at change other does (p ∷ path) (Tree n c r) Empty h = absurd h
  alike_at change other does (p ∷ path) (Tree n c r) (Tree m d s) h =
      (h.0, alike_from_position (at_path change path) (at_path other path) (alike_at change other does path) p c d h.1, h.2)

  alike_without : DoAlike without_first without_first
  alike_without Empty Empty h = tt
  alike_without Empty (Tree m d s) h = absurd h
  alike_without (Tree n c r) Empty h = absurd h
  alike_without (Tree n c r) (Tree m d s) h = h.2

  alike_with_children : (change other : Forest L → Forest L) → DoAlike change other → DoAlike (with_children change) (with_children other)
  alike_with_children change other does Empty Empty h = tt
  alike_with_children change other does Empty (Tree m d s) h = absurd h
  alike_with_children change other does (Tree n c r) Empty h = absurd h
  alike_with_children change other does (Tree n c r) (Tree m d s) h = (h.0, does c d h.1, h.2)

  alike_with_label : (change : L → L) → ((label other : L) → R label other → R (change label) (change other)) → DoAlike (with_label change) (with_label change)
  alike_with_label change does Empty Empty h = tt
  alike_with_label change does Empty (Tree m d s) h = absurd h
  alike_with_label change does (Tree n c r) Empty h = absurd h
  alike_with_label change does (Tree n c r) (Tree m d s) h = (does n m h.0, h.1, h.2)

  alike_splice : (index : ℕ) (n m : L) (c d x y : Forest L) → R n m → AreAlike R c d → AreAlike R x y → AreAlike R (splice index n c x) (splice index m d y)
  alike_splice zero n m c d x y own below h = (own, below, h)
  alike_splice (suc i) n m c d Empty Empty own below h = (own, below, tt)
  alike_splice (suc i) n m c d Empty (Tree k e s) own below h = absurd h
  alike_splice (suc i) n m c d (Tree k e s) Empty own below h = absurd h
  alike_splice (suc i) n m c d (Tree j a r) (Tree k e s) own below h = (h.0, h.1, alike_splice i n m c d r s own below h.2)

  alike_with_tree : (index : ℕ) (tree other : Forest L) → AreAlike R tree other → DoAlike (with_tree index tree) (with_tree index other)
  alike_with_tree index Empty Empty same x y h = h
  alike_with_tree index Empty (Tree m d s) same x y h = absurd same
  alike_with_tree index (Tree n c r) Empty same x y h = absurd same
  alike_with_tree index (Tree n c r) (Tree m d s) same x y h = alike_splice index n m c d x y same.0 same.1 h

  -- Edits.

  pub alike_inserted : (parent : List ℕ) (index : ℕ) (tree other : Forest L) → AreAlike R tree other → DoAlike (inserted_at parent index tree) (inserted_at parent index other)
  alike_inserted parent index tree other same =
      alike_at (with_children (with_tree index tree)) (with_children (with_tree index other))
      (alike_with_children (with_tree index tree) (with_tree index other) (alike_with_tree index tree other same)) parent

  pub alike_removed : (path : List ℕ) → DoAlike (removed_at path) (removed_at path)
  alike_removed path = alike_at without_first without_first alike_without path

  pub alike_relabelled : (path : List ℕ) (change : L → L) → ((label other : L) → R label other → R (change label) (change other)) → DoAlike (relabelled_at path change) (relabelled_at path change)
  alike_relabelled path change does = alike_at (with_label change) (with_label change) (alike_with_label change does) path

  pub alike_moved : (from parent : List ℕ) (index : ℕ) → DoAlike (moved from parent index) (moved from parent index)
  alike_moved from parent index x y h =
      alike_inserted (once_out from parent) index (on_path from x) (on_path from y) (alike_on from x y h) (removed_at from x) (removed_at from y) (alike_removed from x y h)
