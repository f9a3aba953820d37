-- The elements that a merge does not enter, and how many elements a document has. Throughout, n is a node, c what is under it, r what
-- is after it, and k a key.
use Rattle.std.proofs.Common.{◌≡◌, ◌==◌, ◌+◌, ◌++◌, ◌∙◌, ◌⊎◌, ℕ, Bool, true, false, cond, List, [], ◌∷◌, length, length-append, ap₂, inl, inr, refl, sym}
use Rattle.std.proofs.lemmas.Bool.{true≢false}
use Rattle.std.proofs.lemmas.List.Folds.{list_any-append}
use Rattle.forest.specs.Forest.{Forest, Empty, Tree}
use Rattle.forest.specs.Keys.{Keyed, without_keys}
use Rattle.plain_types.specs.declared.node.Node.{Node}
use Rattle.merged_walk.specs.Merges.{Merge, End, Kept, Turned, Gone, Come, has_place, new_of, old_of}
use Rattle.document_walk.specs.Elements.{element_count, one_where}
use Rattle.edit_merge.specs.EditMerges.{is_element}
use Rattle.edit_work.specs.KeyedSources.{element_key, elements_in, is_among}
use Rattle.reference_reach.specs.MergedNodes.{entered_elements}
use Rattle.kept_elements.proofs.KeptTold.{left_among, right_among}
use Rattle.kept_elements.proofs.KeyWeights.{either_true}

module _ (k : ℕ) where
  pub either_among : (xs ys : List ℕ) → is_among (xs ++ ys) k ≡ true → (is_among xs k ≡ true) ⊎ (is_among ys k ≡ true)
  either_among xs ys there = either_true (is_among xs k) (is_among ys k) (sym (list_any-append (λ other. other == k) xs ys) ∙ there)

  own_key : (key : ℕ) (b : Bool) → is_among (cond b (key ∷ []) []) k ≡ true → is_among (key ∷ []) k ≡ true
  own_key key true there = there
  own_key key false there = absurd (true≢false (sym there))

  abbrev Stays : Merge Node → Type 0
  Stays m = (is_among (entered_elements m) k ≡ true) ⊎ (is_among (elements_in (old_of m)) k ≡ true)

  -- so does what is under a node that stays, and after it
  nested : (entered own : List ℕ) (c r : Merge Node) → Stays c ⊎ Stays r
      → (is_among (entered ++ (entered_elements c ++ entered_elements r)) k ≡ true) ⊎ (is_among (own ++ (elements_in (old_of c) ++ elements_in (old_of r))) k ≡ true)
  nested entered own c r (inl (inl enters)) = inl (right_among k entered (entered_elements c ++ entered_elements r) (left_among k (entered_elements c) (entered_elements r) enters))
  nested entered own c r (inl (inr stood)) = inr (right_among k own (elements_in (old_of c) ++ elements_in (old_of r)) (left_among k (elements_in (old_of c)) (elements_in (old_of r)) stood))
  nested entered own c r (inr (inl enters)) = inl (right_among k entered (entered_elements c ++ entered_elements r) (right_among k (entered_elements c) (entered_elements r) enters))
  nested entered own c r (inr (inr stood)) = inr (right_among k own (elements_in (old_of c) ++ elements_in (old_of r)) (right_among k (elements_in (old_of c)) (elements_in (old_of r)) stood))

  -- an element of the new forest is entered, or it stood in the old one
  pub stays : (m : Merge Node) → is_among (elements_in (new_of m)) k ≡ true → (is_among (entered_elements m) k ≡ true) ⊎ (is_among (elements_in (old_of m)) k ≡ true)
  stays End there = absurd (true≢false (sym there))
  stays (Kept n c r) there = elim (either_among (element_key n) (elements_in (new_of c) ++ elements_in (new_of r)) there) [
    | inl own ↦ inr (left_among k (element_key n) (elements_in (old_of c) ++ elements_in (old_of r)) own)
    | inr rest ↦ nested (cond (has_place c) (n.key ∷ []) []) (element_key n) c r (elim (either_among (elements_in (new_of c)) (elements_in (new_of r)) rest) [
      | inl below ↦ inl (stays c below)
      | inr beside ↦ inr (stays r beside)
    ])
  ]
  stays (Turned was n c r) there = elim (either_among (element_key n) (elements_in (new_of c) ++ elements_in (new_of r)) there) [
    | inl own ↦ inl (left_among k (n.key ∷ []) (entered_elements c ++ entered_elements r) (own_key n.key (is_element n.label) own))
    | inr rest ↦ nested (n.key ∷ []) (element_key was) c r (elim (either_among (elements_in (new_of c)) (elements_in (new_of r)) rest) [
      | inl below ↦ inl (stays c below)
      | inr beside ↦ inr (stays r beside)
    ])
  ]
  stays (Gone n c r) there = elim (stays r there) [
    | inl enters ↦ inl enters
    | inr stood ↦ inr (right_among k (element_key n) (elements_in c ++ elements_in (old_of r)) (right_among k (elements_in c) (elements_in (old_of r)) stood))
  ]
  stays (Come n c r) there = elim (either_among (element_key n) (elements_in c ++ elements_in (new_of r)) there) [
    | inl own ↦ inl (left_among k (elements_in (Tree n c Empty)) (entered_elements r) (left_among k (element_key n) (elements_in c ++ []) own))
    | inr rest ↦ elim (either_among (elements_in c) (elements_in (new_of r)) rest) [
      | inl below ↦ inl (left_among k (elements_in (Tree n c Empty)) (entered_elements r) (right_among k (element_key n) (elements_in c ++ []) (left_among k (elements_in c) [] below)))
      | inr beside ↦ elim (stays r beside) [
        | inl enters ↦ inl (right_among k (elements_in (Tree n c Empty)) (entered_elements r) enters)
        | inr stood ↦ inr stood
      ]
    ]
  ]

-- How many elements there are.

own-count : (key : ℕ) (b : Bool) → length (cond b (key ∷ []) []) ≡ one_where b
own-count key true = refl
own-count key false = refl

pub count-elements : (trees : Forest (Keyed Node)) → length (elements_in trees) ≡ element_count (without_keys trees)
count-elements Empty = refl
count-elements (Tree n c r) =
    length-append (element_key n) (elements_in c ++ elements_in r)
    ∙ ap₂ (λ a b. a + b) (own-count n.key (is_element n.label)) (length-append (elements_in c) (elements_in r) ∙ ap₂ (λ a b. a + b) (count-elements c) (count-elements r))
