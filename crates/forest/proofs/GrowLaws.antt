-- A forest that grows in tree order: one leaf more behind all its nodes.
use Rattle.std.proofs.Common.{◌≡◌, ◌<◌, ◌≤◌, ◌+◌, ℕ, zero, suc, List, [], ◌∷◌, ◌++◌, length, take, Option, Some, slice_get, refl, sym, ap, ap₂, ◌∙◌, arith, eq-eqb, append_assoc, append-nil}
use Rattle.std.proofs.lemmas.Option.{none-some, same_Some}
use Rattle.forest.specs.Forest.{Forest, Empty, Tree, then_tree}
use Rattle.forest.specs.Keys.{Keyed, times, HasDistinctKeys}
use Rattle.forest.specs.Spots.{Spot, spot}
use Rattle.forest.specs.Changes.{put_children}
use Rattle.forest.proofs.SpotLaws.{distinct-parts, below-or-after, not-root, the_spot, spot-root, spot-below, spot-beside, spot-counted}
use Rattle.forest.proofs.ChangeLaws.{put_children-absent}
use Rattle.forest.proofs.StandLaws.{with_depths}

-- a leaf at this depth, behind all nodes
abbrev pub grow : {L : Type 0} → ℕ → L → Forest L → Forest L
grow zero leaf forest = then_tree forest leaf Empty
grow (suc depth) leaf Empty = Empty
grow (suc depth) leaf (Tree label children Empty) = Tree label (grow depth leaf children) Empty
grow (suc depth) leaf (Tree label children (Tree next inside after)) = Tree label children (grow (suc depth) leaf (Tree next inside after))

-- the last node and those that it is in, from the outermost
abbrev pub spine : {L : Type 0} → Forest L → List L
spine Empty = []
spine (Tree label children Empty) = label ∷ spine children
spine (Tree label children (Tree next inside after)) = spine (Tree next inside after)

module _ {L : Type 0} where
  depths-then_tree : (d e : ℕ) (f : Forest L) (x : L) → e ≡ d → with_depths d (then_tree f x Empty) ≡ with_depths d f ++ (e, x) ∷ []
  depths-then_tree d e Empty x is = ap (λ k. (k, x) ∷ []) (sym is)
  depths-then_tree d e (Tree l c r) x is =
      ap (λ rest. (d, l) ∷ (with_depths (d + 1) c ++ rest)) (depths-then_tree d e r x is)
      ∙ ap (λ rest. (d, l) ∷ rest) (sym (append_assoc (with_depths (d + 1) c) (with_depths d r) ((e, x) ∷ [])))

  -- in tree order the leaf comes last
  pub depths-grow : (d k e : ℕ) (x : L) (f : Forest L) → k ≤ length (spine f) → e ≡ d + k → with_depths d (grow k x f) ≡ with_depths d f ++ (e, x) ∷ []
  depths-grow d zero e x f low is = depths-then_tree d e f x (omega arith)
  depths-grow d (suc k) e x Empty low is = absurd (omega arith)
  depths-grow d (suc k) e x (Tree l c Empty) low is =
      ap (λ rest. (d, l) ∷ rest)
      (append-nil (with_depths (d + 1) (grow k x c)) ∙ depths-grow (d + 1) k e x c (omega arith) (omega arith) ∙ ap (λ front. front ++ (e, x) ∷ []) (sym (append-nil (with_depths (d + 1) c))))
  depths-grow d (suc k) e x (Tree l c (Tree m i r)) low is =
      ap (λ rest. (d, l) ∷ (with_depths (d + 1) c ++ rest)) (depths-grow d (suc k) e x (Tree m i r) low is)
      ∙ ap (λ rest. (d, l) ∷ rest) (sym (append_assoc (with_depths (d + 1) c) (with_depths d (Tree m i r)) ((e, x) ∷ [])))

  spine-then_tree : (f : Forest L) (x : L) → spine (then_tree f x Empty) ≡ x ∷ []
  spine-then_tree Empty x = refl
  spine-then_tree (Tree l c Empty) x = refl
  spine-then_tree (Tree l c (Tree m i r)) x = spine-then_tree (Tree m i r) x

  spine-behind : (l : L) (c : Forest L) (k : ℕ) (x m : L) (i r : Forest L) → spine (Tree l c (grow (suc k) x (Tree m i r))) ≡ spine (grow (suc k) x (Tree m i r))
  spine-behind l c k x m i Empty = refl
  spine-behind l c k x m i (Tree n j s) = refl

  pub spine-grow : (k : ℕ) (x : L) (f : Forest L) → k ≤ length (spine f) → spine (grow k x f) ≡ take k (spine f) ++ x ∷ []
  spine-grow zero x f low = spine-then_tree f x
  spine-grow (suc k) x Empty low = absurd (omega arith)
  spine-grow (suc k) x (Tree l c Empty) low = ap (λ rest. l ∷ rest) (spine-grow k x c (omega arith))
  spine-grow (suc k) x (Tree l c (Tree m i r)) low = spine-behind l c k x m i r ∙ spine-grow (suc k) x (Tree m i r) low

module _ {L : Type 0} where
  -- such a leaf is a last child of a node on that way
  pub record GrowsUnder (f : Forest (Keyed L)) (p : Option ℕ) (e : List (Keyed L)) (k : ℕ) (x n : Keyed L) : Type 0 where
    pub above : Spot L
    pub spot : spot p e f n.key ≡ Some above
    pub grown : grow (suc k) x f ≡ put_children n.key (then_tree above.children x Empty) f

  pub grow-under : (f : Forest (Keyed L)) (p : Option ℕ) (e : List (Keyed L)) (k : ℕ) (x n : Keyed L) → HasDistinctKeys f → slice_get (spine f) k ≡ Some n → GrowsUnder f p e k x n
  grow-under Empty p e k x n d is = absurd (none-some n is)
  grow-under (Tree l c Empty) p e zero x n d is =
      let same : l ≡ n = same_Some _ _ is in
      rw (← same) (record {
        above = the_spot p e l.label c Empty;
        spot = spot-root p e l c Empty;
        grown = rw (eq-eqb l.key l.key refl) refl;
      })
  grow-under (Tree l c Empty) p e (suc k) x n d is =
      let inner = grow-under c (Some l.key) [] k x n (distinct-parts l c Empty d).0 is in
      let there : 0 < times n.key c = spot-counted c (Some l.key) [] n.key inner.above inner.spot in
      record {
        above = inner.above;
        spot = spot-below p e l c Empty n.key inner.above d inner.spot;
        grown = rw (not-root l c Empty n.key d (omega arith), inner.grown) refl;
      }
  grow-under (Tree l c (Tree m i r)) p e k x n d is =
      let after : Forest (Keyed L) = Tree m i r in
      let inner = grow-under (Tree m i r) p (e ++ l ∷ []) k x n (distinct-parts l c after d).1 is in
      let there : 0 < times n.key after = spot-counted after p (e ++ l ∷ []) n.key inner.above inner.spot in
      let g : Forest (Keyed L) = then_tree inner.above.children x Empty in
      record {
        above = inner.above;
        spot = spot-beside p e l c after n.key inner.above d inner.spot;
        grown =
            ap (λ rest. Tree l c rest) inner.grown
            ∙ ap₂ (λ (inside rest : Forest (Keyed L)). Tree l inside rest)
            (sym (rw (not-root l c after n.key d (omega arith), put_children-absent c n.key g (below-or-after l c after n.key d there)) refl))
            refl;
      }
