-- A walk over the nodes of a document in tree order, which tells something of each.
use Rattle.std.proofs.Common.{◌≡◌, ◌+◌, ◌∙◌, ℕ, zero, suc, List, [], ◌∷◌, ◌++◌, Some, None, flat_map, slice_get, take, add-one, append-nil, append_assoc, sym, ap}
use Rattle.std.proofs.lemmas.Option.{none-some, same_Some}
use Rattle.forest.specs.Forest.{Forest}
use Rattle.forest.specs.Keys.{HasDistinctKeys, Keyed, keys}
use Rattle.forest.specs.Order.{next_in_order_of, place_of}
use Rattle.forest.specs.Spots.{IsLive}
use Rattle.forest.proofs.WalkLaws.{key-at-place}
use Rattle.plain_types.specs.declared.node.Node.{Node}
use Rattle.referring_elements.proofs.WalkLemmas.{all_taken, place_is}

module _ (f : Forest (Keyed Node)) (d : HasDistinctKeys f) (q : ℕ) (live : IsLive f q) where
  -- What is told of the nodes up to one, where this is what is told of each.
  module _ {A : Type 0} (told : ℕ → List A) where
    more : (xs : List ℕ) (i : ℕ) → slice_get xs i ≡ Some q → flat_map told (take (suc i) xs) ≡ flat_map told (take i xs) ++ told q
    more [] i h = absurd (none-some q h)
    more (x ∷ xs) zero h = append-nil (told x) ∙ ap told (same_Some x q h)
    more (x ∷ xs) (suc i) h = ap (λ rest. told x ++ rest) (more xs i h) ∙ sym (append_assoc (told x) (flat_map told (take i xs)) (told q))

    -- that of one node more
    pub told_more : flat_map told (take (place_of f q + 1) (keys f)) ≡ flat_map told (take (place_of f q) (keys f)) ++ told q
    told_more = ap (λ n. flat_map told (take n (keys f))) (add-one (place_of f q)) ∙ more (keys f) (place_of f q) (key-at-place f q d live)

    pub next_told : (k : ℕ) → next_in_order_of f q ≡ Some k → flat_map told (take (place_of f k) (keys f)) ≡ flat_map told (take (place_of f q) (keys f)) ++ told q
    next_told k h = ap (λ n. flat_map told (take n (keys f))) (place_is f (place_of f q + 1) k d h) ∙ told_more

    pub last_told : next_in_order_of f q ≡ None → flat_map told (keys f) ≡ flat_map told (take (place_of f q) (keys f)) ++ told q
    last_told h = sym (ap (flat_map told) (all_taken (keys f) (place_of f q + 1) h)) ∙ told_more
