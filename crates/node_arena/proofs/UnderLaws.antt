-- A node and all under it, found level by level.
use Rattle.std.proofs.Common.{◌≡◌, ◌==◌, ◌<◌, ◌≤◌, ◌+◌, ◌⊎◌, ℕ, zero, suc, cond, List, [], ◌∷◌, ◌++◌, length, drop, sum_by, Some, slice_get, refl, sym, ap, subst, ◌∙◌, inl, inr, arith, length-append, drop-cons, add-one}
use Rattle.std.proofs.lemmas.List.{drop_all, drop-append-le}
use Rattle.std.proofs.lemmas.List.Sums.{sum_by-cons, sum_by-append}
use Rattle.std.proofs.lemmas.Option.{none-some, same_Some, get_or_from_slice_get}
use Rattle.forest.specs.Forest.{Forest, Empty, Tree, size, weigh}
use Rattle.forest.specs.Keys.{Keyed, times, HasDistinctKeys}
use Rattle.forest.specs.Spots.{keyed, first_key, root_keys, IsLive, IsLink, children_of, after_of, on_link}
use Rattle.forest.proofs.SpotLaws.{live-spot, on_first, on_next}
use Rattle.forest.proofs.SiblingLaws.{child-is}
use Rattle.plain_types.specs.declared.node.Node.{Node}
use Rattle.node_arena.specs.Changes.{alone, AreKeysOf}

module _ (f : Forest (Keyed Node)) where
  -- what all children of these nodes weigh, with all under them
  abbrev pub under : (ℕ → ℕ) → List ℕ → ℕ
  under w keys = sum_by (λ key. weigh (λ (n : Keyed Node). w n.key) (children_of f key)) keys

  -- what is found so far, with what is under the nodes that weren't looked into, is all
  pub record AreFound (keys : List ℕ) (next key : ℕ) : Type 0 where
    pub live : (at found : ℕ) → slice_get keys at ≡ Some found → IsLive f found
    pub low : next ≤ length keys
    pub all : (w : ℕ → ℕ) → sum_by w keys + under w (drop next keys) ≡ w key + weigh (λ (n : Keyed Node). w n.key) (children_of f key)

  -- the children of a node, and what is under them
  roots-all : (w : ℕ → ℕ) (g : Forest (Keyed Node)) → HasDistinctKeys f → IsLink f (first_key g) → on_link f (first_key g) ≡ g → sum_by w (root_keys g) + under w (root_keys g) ≡ weigh (λ (n : Keyed Node). w n.key) g
  roots-all w Empty d live is = refl
  roots-all w (Tree n c r) d live is =
      let s = live-spot f n.key live in
      let its : Tree (keyed n.key s.0.label) s.0.children s.0.after ≡ Tree n c r = (let link : on_link f (Some n.key) ≡ Tree (keyed n.key s.0.label) s.0.children s.0.after = rw s.1 refl in sym link ∙ is) in
      let children : children_of f n.key ≡ c = rw s.1 (let e : s.0.children ≡ c = cc in e) in
      let after : after_of f n.key ≡ r = rw s.1 (let e : s.0.after ≡ r = cc in e) in
      let next = on_next f n.key d live in
      let rest : sum_by w (root_keys r) + under w (root_keys r) ≡ weigh (λ (m : Keyed Node). w m.key) r =
      roots-all w r d (subst (λ t. IsLink f (first_key t)) after next.1) (subst (λ t. on_link f (first_key t) ≡ t) after next.0) in
      let one = sum_by-cons w n.key (root_keys r) in
      let two = sum_by-cons (λ key. weigh (λ (m : Keyed Node). w m.key) (children_of f key)) n.key (root_keys r) in
      let own : weigh (λ (m : Keyed Node). w m.key) (children_of f n.key) ≡ weigh (λ (m : Keyed Node). w m.key) c = ap (weigh (λ (m : Keyed Node). w m.key)) children in
      omega arith

  pub children-all : (w : ℕ → ℕ) (q : ℕ) → HasDistinctKeys f → IsLive f q → sum_by w (root_keys (children_of f q)) + under w (root_keys (children_of f q)) ≡ weigh (λ (n : Keyed Node). w n.key) (children_of f q)
  children-all w q d live = let h = on_first f q d live in roots-all w (children_of f q) d h.1 h.0

  in-either : (xs ys : List ℕ) (at found : ℕ) → slice_get (xs ++ ys) at ≡ Some found → (slice_get xs at ≡ Some found) ⊎ ((i : ℕ) × (slice_get ys i ≡ Some found))
  in-either [] ys at found e = inr (at, e)
  in-either (x ∷ xs) ys zero found e = inl e
  in-either (x ∷ xs) ys (suc at) found e = in-either xs ys at found e

  -- the node itself
  pub found-first : (key : ℕ) → IsLive f key → AreFound (key ∷ []) 0 key
  found-first key live = record {
    live = only key live;
    low = omega arith;
    all = λ w. omega (arith, sum_by-cons w key [], sum_by-cons (λ k. weigh (λ (n : Keyed Node). w n.key) (children_of f k)) key []);
  }
    where
      only : (key : ℕ) → IsLive f key → (at found : ℕ) → slice_get (key ∷ []) at ≡ Some found → IsLive f found
      only key live zero found e = subst (IsLive f) (same_Some _ _ e) live
      only key live (suc at) found e = absurd (none-some found e)

  -- one node more was looked into
  pub found-more : (keys : List ℕ) (next key at : ℕ) → HasDistinctKeys f → next < length keys → slice_get keys next ≡ Some at → AreFound keys next key → AreFound (keys ++ root_keys (children_of f at)) (next + 1) key
  found-more keys next key at d within is h =
      let live : IsLive f at = h.live next at is in
      let more : List ℕ = root_keys (children_of f at) in
      record {
        live = λ i found e. elim (in-either keys more i found e) [
          | inl old ↦ h.live i found old
          | inr new ↦ (child-is f at d new.0 found live new.1).0
        ];
        low = omega (arith, length-append keys more);
        all = λ w.
            let u : ℕ → ℕ = λ k. weigh (λ (n : Keyed Node). w n.key) (children_of f k) in
            let front : drop next keys ≡ at ∷ drop (suc next) keys = drop-cons keys next at within ∙ ap (λ x. x ∷ drop (suc next) keys) (get_or_from_slice_get keys next at at is) in
            let rest : drop (next + 1) (keys ++ more) ≡ drop (suc next) keys ++ more = ap (λ n. drop n (keys ++ more)) (add-one next) ∙ drop-append-le (suc next) keys more (omega arith) in
            let sum = sum_by-append w keys more in
            let before = ap (sum_by u) front ∙ sum_by-cons u at (drop (suc next) keys) in
            let after = ap (sum_by u) rest ∙ sum_by-append u (drop (suc next) keys) more in
            let own = children-all w at d live in
            let so_far = h.all w in
            omega arith;
      }

  -- no more are found than there are
  pub found-few : (keys : List ℕ) (next key : ℕ) → AreFound keys next key → length keys ≤ 1 + size (children_of f key)
  found-few keys next key h = omega (arith, ones keys, h.all (λ _. 1))
    where
      ones : (xs : List ℕ) → sum_by (λ _. 1) xs ≡ length xs
      ones [] = refl
      ones (x ∷ xs) = omega (arith, sum_by-cons (λ _. 1) x xs, ones xs)

  -- all were looked into
  pub found-all : (keys : List ℕ) (next key : ℕ) → IsLive f key → length keys ≤ next → AreFound keys next key → AreKeysOf keys (alone (on_link f (Some key)))
  found-all keys next key live done h x =
      let s = live-spot f key live in
      let w : ℕ → ℕ = λ k. cond (k == x) 1 0 in
      let children : children_of f key ≡ s.0.children = rw s.1 refl in
      let own : times x (alone (on_link f (Some key))) ≡ w key + (times x s.0.children + 0) = rw s.1 refl in
      let left : drop next keys ≡ [] = drop_all next keys done in
      let none : under w (drop next keys) ≡ 0 = ap (under w) left in
      let same : weigh (λ (n : Keyed Node). w n.key) (children_of f key) ≡ times x s.0.children = ap (times x) children in
      omega (arith, h.all w)
