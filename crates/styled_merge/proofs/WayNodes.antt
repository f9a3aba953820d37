-- The nodes above a place, and which of them are reached. Throughout, n is a node, c what is under it, r what is after it,
-- and g trees.
use Rattle.std.proofs.Common.{◌≡◌, ◌==◌, ◌-◌, ◌<◌, ◌&&◌, ℕ, suc, nat_lt, Bool, true, false, cond, List, [], ◌∷◌, ◌++◌, length, Some, refl, sym, ap, subst, ◌∙◌, inl, inr, arith, eq-eqb, eqb-true}
use Rattle.std.proofs.lemmas.Bool.{ltb-false, ltb-true, or_left, or_right}
use Rattle.std.proofs.lemmas.Option.{none-some, same_Some}
use Rattle.forest.specs.Forest.{Forest, Empty, Tree}
use Rattle.forest.specs.Keys.{Keyed, HasDistinctKeys, times}
use Rattle.forest.specs.Paths.{key_at, on_path, path_of, trees_from}
use Rattle.forest.specs.Spots.{first_key, index_of, parent_of}
use Rattle.forest.proofs.PathLaws.{key_at-path_of, parent-live, path-counted, path-live, path_of-key_at}
use Rattle.plain_types.specs.declared.node.Node.{Node}
use Rattle.node_arena.specs.AtPaths.{from_position, leads_into, once_out, removed_at, without_first}
use Rattle.node_arena.specs.Changes.{alone}
use Rattle.node_arena.specs.Document.{IsKeyedDocument}
use Rattle.node_arena.proofs.AtPathLaws.{IsSameTree, apart, at-empty, changed-before, changed-behind, changed-there, moved-up}
use Rattle.node_arena.proofs.EntryLaws.{one-tree}
use Rattle.node_arena.proofs.MoveLaws.{path-child}
use Rattle.merged_walk.specs.EditStops.{on_way}
use Rattle.styled_merge.proofs.ReachedLevels.{either}
use Rattle.styled_merge.proofs.UnderPlaces.{has_reached}
use Rattle.styled_merge.proofs.NodeReached.{alone-within}

last-apart : (a b : ℕ) (path : List ℕ) → leads_into (a ∷ []) (b ∷ path) ≡ false → (a == b) ≡ false
last-apart a b path out = elim (a == b) as (λ t. t && true ≡ false → t ≡ false) [ true ↦ λ h. h | false ↦ λ h. refl ] out

pub into-itself : (path : List ℕ) → leads_into path path ≡ true
into-itself [] = refl
into-itself (s ∷ path) = ap (λ b. b && leads_into path path) (eq-eqb s s refl) ∙ into-itself path

module _ {L : Type 0} (is_reached : ℕ → Bool) where
  -- a node is above its children
  pub way-node : (path : List ℕ) (i : ℕ) (g : Forest (Keyed L)) (q : ℕ) → key_at g path ≡ Some q → is_reached q ≡ true → has_reached is_reached (on_way (path ++ i ∷ []) g) ≡ true
  way-node [] i Empty q at h = absurd (none-some q at)
  way-node [] i (Tree n c r) q at h = or_left (is_reached n.key) false (ap is_reached (same_Some n.key q at) ∙ h)
  way-node (j ∷ path) i Empty q at h = absurd (none-some q at)
  way-node (j ∷ path) i (Tree n c r) q at h = or_right (is_reached n.key) (has_reached is_reached (on_way (path ++ i ∷ []) (trees_from j c))) (way-node path i (trees_from j c) q at h)

  pub way-longer : (path rest : List ℕ) (g : Forest (Keyed L)) → has_reached is_reached (on_way path g) ≡ true → has_reached is_reached (on_way (path ++ rest) g) ≡ true
  way-longer [] rest g h = absurd (cc h)
  way-longer (j ∷ path) rest Empty h = absurd (cc h)
  way-longer (j ∷ path) rest (Tree n c r) h =
      let more : Bool = has_reached is_reached (on_way (path ++ rest) (trees_from j c)) in
      elim (either (is_reached n.key) (has_reached is_reached (on_way path (trees_from j c))) h) [
        | inl here ↦ or_left (is_reached n.key) more here
        | inr below ↦ or_right (is_reached n.key) more (way-longer path rest (trees_from j c) below)
      ]

  -- the first node is above all others of its tree
  pub way-root : (path : List ℕ) (n : Keyed L) (c r : Forest (Keyed L)) → 0 < length path → is_reached n.key ≡ true → has_reached is_reached (on_way path (Tree n c r)) ≡ true
  way-root [] n c r long h = absurd (omega (arith, long))
  way-root (j ∷ path) n c r long h = or_left (is_reached n.key) (has_reached is_reached (on_way path (trees_from j c))) h

module _ {L : Type 0} where
  -- Above a place there are the same nodes once a node is out that isn't one of them.

  rest-stays : (a : ℕ) (above : List ℕ) (x : Forest (Keyed L)) → trees_from 1 (removed_at (a ∷ above) x) ≡ trees_from 1 x
  rest-stays a above Empty = refl
  rest-stays a above (Tree n c r) = refl

  same-way : (path : List ℕ) (i : ℕ) (x y : Forest (Keyed L)) → IsSameTree x y → on_way (path ++ i ∷ []) x ≡ on_way (path ++ i ∷ []) y
  same-way [] i Empty Empty same = refl
  same-way (k ∷ path) i Empty Empty same = refl
  same-way path i Empty (Tree m d s) same = absurd (cc (same.0))
  same-way path i (Tree n c r) Empty same = absurd (cc (same.0))
  same-way [] i (Tree n c r) (Tree m d s) same = ap (λ k. k ∷ []) (same_Some n m same.0)
  same-way (k ∷ path) i (Tree n c r) (Tree m d s) same = λ x. same_Some n m same.0 x ∷ on_way (path ++ i ∷ []) (trees_from k (same.1 x))

  pub way-once_out : (from path : List ℕ) (i : ℕ) (g : Forest (Keyed L)) → 0 < length from → leads_into from path ≡ false
      → on_way (once_out from path ++ i ∷ []) (removed_at from g) ≡ on_way (path ++ i ∷ []) g
  way-once_out [] path i g some out = absurd (omega (arith, some))
  way-once_out (a ∷ []) [] i Empty some out = refl
  way-once_out (a ∷ []) [] i (Tree n c r) some out = refl
  way-once_out (a ∷ []) (b ∷ path) i Empty some out = refl
  way-once_out (a ∷ []) (b ∷ path) i (Tree n c r) some out =
      let change : Forest (Keyed L) → Forest (Keyed L) = without_first in
      elim (nat_lt a b) as (λ t. nat_lt a b ≡ t → n ∷ on_way (path ++ i ∷ []) (trees_from (cond t (b - 1) b) (from_position change a c)) ≡ n ∷ on_way (path ++ i ∷ []) (trees_from b c)) [
        | true ↦ λ is.
            let low : a < b = ltb-true a b is in
            let next : suc (b - 1) ≡ b = omega (arith, low) in
            ap (λ trees. n ∷ on_way (path ++ i ∷ []) trees) (moved-up a (b - 1) c (omega (arith, low)) ∙ ap (λ k. trees_from k c) next)
        | false ↦ λ is.
            let low : b < a = elim (apart a b (last-apart a b path out)) [ inl h ↦ absurd (omega (arith, h, ltb-false a b is)) | inr h ↦ h ] in
            ap (λ nodes. n ∷ nodes) (same-way path i _ _ (changed-before change a b c low))
      ] refl
  way-once_out (a ∷ (next ∷ above)) [] i Empty some out = refl
  way-once_out (a ∷ (next ∷ above)) [] i (Tree n c r) some out = refl
  way-once_out (a ∷ (next ∷ above)) (b ∷ path) i Empty some out = refl
  way-once_out (a ∷ (next ∷ above)) (b ∷ path) i (Tree n c r) some out =
      let change : Forest (Keyed L) → Forest (Keyed L) = removed_at (next ∷ above) in
      elim (a == b) as (λ t. (a == b) ≡ t → t && leads_into (next ∷ above) path ≡ false
      → n ∷ on_way (cond t (once_out (next ∷ above) path) path ++ i ∷ []) (trees_from b (from_position change a c)) ≡ n ∷ on_way (path ++ i ∷ []) (trees_from b c)) [
        | true ↦ λ is inside.
            let key : a ≡ b = eqb-true a b is in
            let there : trees_from b (from_position change a c) ≡ change (trees_from b c) =
            subst (λ k. trees_from k (from_position change a c) ≡ change (trees_from k c)) key (changed-there change a c (at-empty without_first (next ∷ above) refl)) in
            ap (λ trees. n ∷ on_way (once_out (next ∷ above) path ++ i ∷ []) trees) there
            ∙ ap (λ nodes. n ∷ nodes) (way-once_out (next ∷ above) path i (trees_from b c) (omega arith) inside)
        | false ↦ λ is inside. elim (apart a b is) [
          | inl low ↦ ap (λ trees. n ∷ on_way (path ++ i ∷ []) trees) (changed-behind change a b c (rest-stays next above) low)
          | inr low ↦ ap (λ nodes. n ∷ nodes) (same-way path i _ _ (changed-before change a b c low))
        ]
      ] refl out

  -- A node stands in the tree that its path leads to, or a path above it.

  pub first-alone : (g : Forest (Keyed L)) (q : ℕ) → first_key g ≡ Some q → 0 < times q (alone g)
  first-alone Empty q at = absurd (none-some q at)
  first-alone (Tree n c r) q at = rw (eq-eqb n.key q (same_Some n.key q at)) (omega arith)

  pub into-counted : (path place : List ℕ) (g : Forest (Keyed L)) (q : ℕ) → leads_into path place ≡ true → key_at g place ≡ Some q → 0 < times q (alone (on_path path g))
  into-counted [] [] g q into at = first-alone g q at
  into-counted [] (a ∷ place) Empty q into at = absurd (none-some q at)
  into-counted [] (a ∷ place) (Tree n c r) q into at = omega (arith, path-counted c a place q at)
  into-counted (s ∷ path) [] g q into at = absurd (cc into)
  into-counted (s ∷ path) (a ∷ place) Empty q into at = absurd (none-some q at)
  into-counted (s ∷ path) (a ∷ place) (Tree n c r) q into at =
      let both = both-true (s == a) (leads_into path place) into in
      into-counted path place (trees_from s c) q both.1 (subst (λ k. key_at (trees_from k c) place ≡ Some q) (sym (eqb-true s a both.0)) at)
    where
      both-true : (a b : Bool) → (a && b) ≡ true → (a ≡ true) × (b ≡ true)
      both-true true b h = (refl, h)
      both-true false b h = absurd (cc h)

  pub once-there : (path : List ℕ) (g : Forest (Keyed L)) (q : ℕ) → HasDistinctKeys g → 0 < times q (alone (on_path path g)) → times q g ≡ times q (alone (on_path path g))
  once-there path g q distinct some = omega (arith, distinct q, some, alone-within q path 0 g)

-- a node and its parent
pub way-parent : (g : Forest (Keyed Node)) → IsKeyedDocument g → (path : List ℕ) (q t : ℕ) → key_at g path ≡ Some q → parent_of g q ≡ Some t
    → (path ≡ path_of g t ++ index_of g q ∷ []) × (key_at g (path_of g t) ≡ Some t)
way-parent g document path q t at parent =
    let live = path-live g path q at in
    let above = parent-live g q t document.distinct live parent in
    (sym (path_of-key_at g path q document.distinct at) ∙ path-child g q t document live above parent, key_at-path_of g t (one-tree g document) above)
