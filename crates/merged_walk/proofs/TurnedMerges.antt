-- A merge in which one node more is turned. Throughout, a way is keys, n is a node, c what is under it, r what is after
-- it, m a merge, and h says that the way reaches its end.
use Rattle.std.proofs.Common.{◌≡◌, ℕ, Bool, true, List, [], ◌∷◌, Some, refl, ap, inl, inr}
use Rattle.std.proofs.lemmas.Bool.{or_left, or_right}
use Rattle.forest.specs.Forest.{Tree}
use Rattle.forest.specs.Keys.{Keyed}
use Rattle.forest.specs.Spots.{first_key}
use Rattle.merged_walk.specs.Merges.{Merge, End, Kept, Turned, Gone, Come, has_place, new_of, old_of}
use Rattle.merged_walk.specs.TurnedNodes.{Reaches, turn_node}

module _ {L : Type 0} (is_element : L → Bool) (earlier : ℕ → ℕ → Bool) (change : Keyed L → Keyed L) where
  -- the old forest is the same
  pub old-turn_node : (way : List ℕ) (m : Merge L) (h : Reaches is_element earlier way m) → old_of (turn_node is_element earlier change way m h) ≡ old_of m
  old-turn_node [] m h = refl
  old-turn_node (key ∷ way) End h = refl
  old-turn_node (key ∷ []) (Kept n c r) (inl h) = refl
  old-turn_node (key ∷ (next ∷ way)) (Kept n c r) (inl h) = ap (λ f. Tree n f (old_of r)) (old-turn_node (next ∷ way) c h.3)
  old-turn_node (key ∷ way) (Kept n c r) (inr h) = ap (λ f. Tree n (old_of c) f) (old-turn_node (key ∷ way) r h.1)
  old-turn_node (key ∷ []) (Turned was n c r) (inl h) = refl
  old-turn_node (key ∷ (next ∷ way)) (Turned was n c r) (inl h) = ap (λ f. Tree was f (old_of r)) (old-turn_node (next ∷ way) c h.3)
  old-turn_node (key ∷ way) (Turned was n c r) (inr h) = ap (λ f. Tree was (old_of c) f) (old-turn_node (key ∷ way) r h.1)
  old-turn_node (key ∷ way) (Gone n c r) h = ap (λ f. Tree n c f) (old-turn_node (key ∷ way) r h)
  old-turn_node (key ∷ way) (Come n c r) h = old-turn_node (key ∷ way) r h.1

  -- the first new node has the same key
  pub first_key-turn_node : ((n : Keyed L) → (change n).key ≡ n.key) → (way : List ℕ) (m : Merge L) (h : Reaches is_element earlier way m)
      → first_key (new_of (turn_node is_element earlier change way m h)) ≡ first_key (new_of m)
  first_key-turn_node same [] m h = refl
  first_key-turn_node same (key ∷ way) End h = refl
  first_key-turn_node same (key ∷ []) (Kept n c r) (inl h) = ap (λ k. Some k) (same n)
  first_key-turn_node same (key ∷ (next ∷ way)) (Kept n c r) (inl h) = refl
  first_key-turn_node same (key ∷ way) (Kept n c r) (inr h) = refl
  first_key-turn_node same (key ∷ []) (Turned was n c r) (inl h) = ap (λ k. Some k) (same n)
  first_key-turn_node same (key ∷ (next ∷ way)) (Turned was n c r) (inl h) = refl
  first_key-turn_node same (key ∷ way) (Turned was n c r) (inr h) = refl
  first_key-turn_node same (key ∷ way) (Gone n c r) h = first_key-turn_node same (key ∷ way) r h
  first_key-turn_node same (key ∷ way) (Come n c r) h = refl

  -- there is a place
  pub has_place-turn_node : (key : ℕ) (way : List ℕ) (m : Merge L) (h : Reaches is_element earlier (key ∷ way) m) → has_place (turn_node is_element earlier change (key ∷ way) m h) ≡ true
  has_place-turn_node key way End h = absurd h
  has_place-turn_node key [] (Kept n c r) (inl h) = refl
  has_place-turn_node key (next ∷ way) (Kept n c r) (inl h) = or_left (has_place (turn_node is_element earlier change (next ∷ way) c h.3)) (has_place r) (has_place-turn_node next way c h.3)
  has_place-turn_node key way (Kept n c r) (inr h) = or_right (has_place c) (has_place (turn_node is_element earlier change (key ∷ way) r h.1)) (has_place-turn_node key way r h.1)
  has_place-turn_node key [] (Turned was n c r) (inl h) = refl
  has_place-turn_node key (next ∷ way) (Turned was n c r) (inl h) = refl
  has_place-turn_node key way (Turned was n c r) (inr h) = refl
  has_place-turn_node key way (Gone n c r) h = refl
  has_place-turn_node key way (Come n c r) h = refl
