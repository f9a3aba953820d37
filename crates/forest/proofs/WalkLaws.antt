-- Walks in tree order by links: what is left once the tree of a node is done.
use Rattle.std.proofs.Common.{◌≡◌, ◌==◌, ◌<◌, ◌+◌, ◌⊎◌, ℕ, zero, suc, true, false, cond, List, [], ◌∷◌, ◌++◌, length, map, Option, Some, None, IsSome, option_map, slice_get, refl, sym, ap, ◌∙◌, inl, inr, arith, eqb-true, eq-eqb, append_assoc, append-nil, length-append, unwrap_or}
use Rattle.std.specs.Option.{option_or}
use Rattle.std.proofs.lemmas.Option.{none-some, same_Some}
use Rattle.std.proofs.lemmas.List.{map-append}
use Rattle.forest.specs.Forest.{Forest, Empty, Tree}
use Rattle.forest.specs.Keys.{Keyed, keys, times, HasDistinctKeys}
use Rattle.forest.specs.Spots.{Spot, first_key, spot, spot_of, IsLive, after_of, first_child_of, next_sibling_of, parent_of, index_of}
use Rattle.forest.specs.Paths.{route_of}
use Rattle.forest.specs.Order.{place_of, next_in_order_of}
use Rattle.forest.proofs.SpotLaws.{counted-live, chosen, first_found, spot-counted, distinct-parts, live-spot, live-counted, the_some, some_or_none}
use Rattle.forest.proofs.StandLaws.{with_depths, follow, follow-root, follow-below, follow-beside, follow-absent, stands, as_root, under}
use Rattle.forest.proofs.PathLaws.{route-child}
use Rattle.forest.proofs.OrderLaws.{keys-tree, length-keys, place-root, place-below, place-beside}

-- the element so far behind the front
pub slice_get-behind : {A : Type 0} (front ys : List A) (n k : ℕ) → n ≡ length front + k → slice_get (front ++ ys) n ≡ slice_get ys k
slice_get-behind [] ys n k e = ap (slice_get ys) (omega arith)
slice_get-behind (x ∷ front) ys zero k e = absurd (omega arith)
slice_get-behind (x ∷ front) ys (suc n) k e = slice_get-behind front ys n k (omega arith)

-- an element of two lists
slice_get-append-cases : (xs ys : List ℕ) (n k : ℕ) → slice_get (xs ++ ys) n ≡ Some k → (slice_get xs n ≡ Some k) ⊎ ((m : ℕ) × (slice_get ys m ≡ Some k))
slice_get-append-cases [] ys n k e = inr (n, e)
slice_get-append-cases (x ∷ xs) ys zero k e = inl e
slice_get-append-cases (x ∷ xs) ys (suc n) k e = slice_get-append-cases xs ys n k e

module _ {L : Type 0} where
  -- the keys of labels with depths
  abbrev pub names : List (ℕ × Keyed L) → List ℕ
  names all = map (λ (one : ℕ × Keyed L). one.1.key) all

  pub names-with_depths : (d : ℕ) (f : Forest (Keyed L)) → names (with_depths d f) ≡ keys f
  names-with_depths d Empty = refl
  names-with_depths d (Tree n c r) =
      ap (λ ks. n.key ∷ ks)
      (map-append (λ (one : ℕ × Keyed L). one.1.key) (with_depths (d + 1) c) (with_depths d r)
      ∙ ap (λ ks. ks ++ names (with_depths d r)) (names-with_depths (d + 1) c)
      ∙ ap (λ ks. keys c ++ ks) (names-with_depths d r))
      ∙ sym (keys-tree n c r)

  -- what is left in tree order once the tree of a node is done
  abbrev pub after_tree : Forest (Keyed L) → ℕ → List (ℕ × Keyed L)
  after_tree f q = unwrap_or (follow 0 f q) []

  follow-some : (f : Forest (Keyed L)) (d q : ℕ) → 0 < times q f → IsSome (follow d f q)
  follow-some Empty d q h = absurd (omega arith)
  follow-some (Tree n c r) d q h =
      elim (n.key == q) as (λ b. 0 < cond b 1 0 + (times q c + times q r) → IsSome (cond b (Some (with_depths d r)) (option_or (option_map (λ inside. inside ++ with_depths d r) (follow (d + 1) c q)) (follow d r q)))) [
        | true ↦ λ h. refl
        | false ↦ λ h. elim (some_or_none (times q c)) [
          | inl z ↦ rw (follow-absent c (d + 1) q z) (follow-some r d q (omega arith))
          | inr z ↦ let s = the_some (follow (d + 1) c q) (follow-some c (d + 1) q z) in rw s.1 refl
        ]
      ] h

  pub live-follow : (f : Forest (Keyed L)) (q : ℕ) → IsLive f q → follow 0 f q ≡ Some (after_tree f q)
  live-follow f q h = let s = the_some (follow 0 f q) (follow-some f 0 q (live-counted f q h)) in rw s.1 refl

  -- tree order: what comes before a node, the node, what is in it, and what is left
  record Splits (f : Forest (Keyed L)) (q : ℕ) (s : Spot L) (rest : List (ℕ × Keyed L)) : Type 0 where
    front : List ℕ
    keys : keys f ≡ front ++ (q ∷ (keys s.children ++ names rest))
    place : length front ≡ place_of f q

  splits : (f : Forest (Keyed L)) (d : ℕ) (p : Option ℕ) (e : List (Keyed L)) (q : ℕ) (s : Spot L) (rest : List (ℕ × Keyed L)) → HasDistinctKeys f → spot p e f q ≡ Some s → follow d f q ≡ Some rest → Splits f q s rest
  splits Empty d p e q s rest dis is at = absurd (none-some s is)
  splits (Tree n c r) d p e q s rest dis is at =
      let parts = distinct-parts n c r dis in
      elim (chosen (n.key == q) _ _ _ is) [
        | inl h ↦
            let key : n.key ≡ q = eqb-true n.key q h.0 in
            let inside : c ≡ s.children = ap (λ t. t.children) (same_Some _ _ h.1) in
            let left : with_depths d r ≡ rest = same_Some _ _ (sym (follow-root d n c r) ∙ ap (λ k. follow d (Tree n c r) k) key ∙ at) in
            record {
              front = [];
              keys = keys-tree n c r ∙ rw (key, ← inside, ← left, names-with_depths d r) refl;
              place = sym (place-root n c r q key);
            }
        | inr h ↦ elim (first_found _ _ s h.1) [
          | inl a ↦
              let there : 0 < times q c = spot-counted c (Some n.key) [] q s a in
              let more = the_some (follow (d + 1) c q) (follow-some c (d + 1) q there) in
              let left : more.0 ++ with_depths d r ≡ rest = same_Some _ _ (sym (follow-below d n c r q more.0 dis there more.1) ∙ at) in
              let inner : Splits c q s more.0 = splits c (d + 1) (Some n.key) [] q s more.0 parts.0 a more.1 in
              record {
                front = n.key ∷ inner.front;
                keys =
                    keys-tree n c r
                    ∙ ap (λ ks. n.key ∷ (ks ++ keys r)) inner.keys
                    ∙ ap (λ ks. n.key ∷ ks) (append_assoc inner.front (q ∷ (keys s.children ++ names more.0)) (keys r))
                    ∙ ap (λ ks. n.key ∷ (inner.front ++ (q ∷ ks))) (append_assoc (keys s.children) (names more.0) (keys r) ∙ ap (λ ks. keys s.children ++ ks) (ap (λ ks. names more.0 ++ ks) (sym (names-with_depths d r)) ∙ sym (map-append (λ (one : ℕ × Keyed L). one.1.key) more.0 (with_depths d r)) ∙ ap (λ all. names all) left));
                place = omega (arith, inner.place, place-below n c r q dis there);
              }
          | inr b ↦
              let there : 0 < times q r = spot-counted r p (e ++ n ∷ []) q s b.1 in
              let at_r : follow d r q ≡ Some rest = sym (follow-beside d n c r q dis there) ∙ at in
              let inner : Splits r q s rest = splits r d p (e ++ n ∷ []) q s rest parts.1 b.1 at_r in
              record {
                front = n.key ∷ (keys c ++ inner.front);
                keys =
                    keys-tree n c r
                    ∙ ap (λ ks. n.key ∷ (keys c ++ ks)) inner.keys
                    ∙ ap (λ ks. n.key ∷ ks) (sym (append_assoc (keys c) inner.front (q ∷ (keys s.children ++ names rest))));
                place = omega (arith, inner.place, place-beside n c r q dis there, length-append (keys c) inner.front, length-keys c);
              }
        ]
      ]

  -- the key at a node's place is that node's
  pub key-at-place : (f : Forest (Keyed L)) (q : ℕ) → HasDistinctKeys f → IsLive f q → slice_get (keys f) (place_of f q) ≡ Some q
  key-at-place f q d h =
      let s = live-spot f q h in
      let h : Splits f q s.0 (after_tree f q) = splits f 0 None [] q s.0 (after_tree f q) d s.1 (live-follow f q h) in
      ap (λ ks. slice_get ks (place_of f q)) h.keys
      ∙ slice_get-behind h.front (q ∷ (keys s.0.children ++ names (after_tree f q))) (place_of f q) 0 (omega (arith, h.place))

  first-keys : (f : Forest (Keyed L)) (xs : List ℕ) → slice_get (keys f ++ xs) 0 ≡ option_or (first_key f) (slice_get xs 0)
  first-keys Empty xs = refl
  first-keys (Tree n c r) xs = refl

  next-is : (f : Forest (Keyed L)) (q : ℕ) (s : Spot L) → HasDistinctKeys f → IsLive f q → spot_of f q ≡ Some s → next_in_order_of f q ≡ option_or (first_key s.children) (slice_get (names (after_tree f q)) 0)
  next-is f q s d h is =
      let h : Splits f q s (after_tree f q) = splits f 0 None [] q s (after_tree f q) d is (live-follow f q h) in
      ap (λ ks. slice_get ks (place_of f q + 1)) h.keys
      ∙ slice_get-behind h.front (q ∷ (keys s.children ++ names (after_tree f q))) (place_of f q + 1) 1 (omega (arith, h.place))
      ∙ first-keys s.children (names (after_tree f q))

  -- The node after a node: its first child, or else the first that is left once its tree is done.

  pub next-child : (f : Forest (Keyed L)) (q k : ℕ) → HasDistinctKeys f → IsLive f q → first_child_of f q ≡ Some k → next_in_order_of f q ≡ Some k
  next-child f q k d h e = let s = live-spot f q h in let child : first_key s.0.children ≡ Some k = rw s.1 at e in next-is f q s.0 d h s.1 ∙ rw child refl

  pub next-left : (f : Forest (Keyed L)) (q : ℕ) → HasDistinctKeys f → IsLive f q → first_child_of f q ≡ None → next_in_order_of f q ≡ slice_get (names (after_tree f q)) 0
  next-left f q d h e = let s = live-spot f q h in let child : first_key s.0.children ≡ None = rw s.1 at e in next-is f q s.0 d h s.1 ∙ rw child refl

  -- What is left after a node's tree: the trees of its siblings after it, and what is left after its parent's tree.

  pub left-under : (f : Forest (Keyed L)) (q x : ℕ) → HasDistinctKeys f → IsLive f q → parent_of f q ≡ Some x → after_tree f q ≡ with_depths (length (route_of f x)) (after_of f q) ++ after_tree f x
  left-under f q x d h e =
      let s = live-spot f q h in
      elim (stands f None [] 0 0 q s.0 d refl s.1) [
        | as_root r ↦ absurd (none-some x (sym r.parent ∙ (rw s.1 at e)))
        | under y u ↦
            let same : y ≡ x = same_Some y x (sym u.parent ∙ (rw s.1 at e)) in
            rw (s.1, ← same, u.follow, u.follow_above, u.route_above) (ap (λ depth. with_depths depth s.0.after ++ u.rest) (omega arith))
      ]

  pub left-root : (f : Forest (Keyed L)) (q : ℕ) → HasDistinctKeys f → IsLive f q → parent_of f q ≡ None → after_tree f q ≡ with_depths 0 (after_of f q)
  left-root f q d h e =
      let s = live-spot f q h in
      elim (stands f None [] 0 0 q s.0 d refl s.1) [
        | as_root r ↦ rw (s.1, r.follow) refl
        | under y u ↦ absurd (none-some y (sym (rw s.1 at e) ∙ u.parent))
      ]

  no-tree : (g : Forest (Keyed L)) → first_key g ≡ None → g ≡ Empty
  no-tree Empty e = refl
  no-tree (Tree n c r) e = absurd (cc)

  first-name : (d : ℕ) (g : Forest (Keyed L)) (k : ℕ) (rest : List (ℕ × Keyed L)) → first_key g ≡ Some k → slice_get (names (with_depths d g ++ rest)) 0 ≡ Some k
  first-name d Empty k rest e = absurd (none-some k e)
  first-name d (Tree n c r) k rest e = e

  pub left-sibling : (f : Forest (Keyed L)) (q k : ℕ) → HasDistinctKeys f → IsLive f q → next_sibling_of f q ≡ Some k → slice_get (names (after_tree f q)) 0 ≡ Some k
  left-sibling f q k d h e =
      let s = live-spot f q h in
      let next : first_key s.0.after ≡ Some k = rw s.1 at e in
      elim (stands f None [] 0 0 q s.0 d refl s.1) [
        | as_root r ↦ rw r.follow (ap (λ all. slice_get (names all) 0) (sym (append-nil (with_depths 0 s.0.after))) ∙ first-name 0 s.0.after k [] next)
        | under y u ↦ rw u.follow (first-name (0 + length u.steps) s.0.after k u.rest next)
      ]

  pub left-parent : (f : Forest (Keyed L)) (q x : ℕ) → HasDistinctKeys f → IsLive f q → next_sibling_of f q ≡ None → parent_of f q ≡ Some x → after_tree f q ≡ after_tree f x
  left-parent f q x d h e p = left-under f q x d h p ∙ ap (λ g. with_depths (length (route_of f x)) g ++ after_tree f x) (no-tree (after_of f q) e)

  pub left-nothing : (f : Forest (Keyed L)) (q : ℕ) → HasDistinctKeys f → IsLive f q → next_sibling_of f q ≡ None → parent_of f q ≡ None → after_tree f q ≡ []
  left-nothing f q d h e p = left-root f q d h p ∙ ap (λ g. with_depths 0 g) (no-tree (after_of f q) e)

  -- a parent's route is shorter
  pub shorter-route : (f : Forest (Keyed L)) (q x : ℕ) → HasDistinctKeys f → IsLive f q → parent_of f q ≡ Some x → length (route_of f q) ≡ length (route_of f x) + 1
  shorter-route f q x d h e = omega (arith, ap length (route-child f q x d h e), length-append (route_of f x) (index_of f q ∷ []))

  -- a key in tree order is that of a node
  key-counted : (f : Forest (Keyed L)) (n k : ℕ) → slice_get (keys f) n ≡ Some k → 0 < times k f
  key-counted Empty n k e = absurd (none-some k e)
  key-counted (Tree m c r) zero k e = rw (eq-eqb m.key k (same_Some _ _ e)) (omega arith)
  key-counted (Tree m c r) (suc n) k e =
      elim (slice_get-append-cases (keys c) (keys r) n k (sym (ap (λ ks. slice_get ks (suc n)) (keys-tree m c r)) ∙ e)) [
        | inl a ↦ omega (arith, key-counted c n k a)
        | inr b ↦ omega (arith, key-counted r b.0 k b.1)
      ]

  pub next-live : (f : Forest (Keyed L)) (q k : ℕ) → next_in_order_of f q ≡ Some k → IsLive f k
  next-live f q k e = counted-live f k (key-counted f (place_of f q + 1) k e)
