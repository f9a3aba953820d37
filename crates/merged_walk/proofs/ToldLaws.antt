-- What is kept tells what is handed. Throughout, e is an evaluator, i what trees are handed, n a node, c what is under
-- it, r what is after it, b an open node and bs those above it.
use Rattle.std.proofs.Common.{◌≡◌, ℕ, Bool, true, false, cond, List, [], ◌∷◌, Option, Some, None, refl, sym, ap, subst, ◌∙◌}
use Rattle.std.proofs.lemmas.List.Elements.{All-head}
use Rattle.std.proofs.lemmas.Option.{none-some, same_Some}
use Rattle.forest.specs.Forest.{Forest, Empty, Tree}
use Rattle.forest.specs.Keys.{Keyed}
use Rattle.merged_walk.specs.Merges.{Merge, old_of}
use Rattle.merged_walk.specs.Stops.{first_element}
use Rattle.merged_walk.specs.Evaluators.{Evaluator, IsSound, told, past_all, told_all}
use Rattle.merged_walk.specs.Entries.{Holds}
use Rattle.merged_walk.specs.Walks.{Open, old_told, olds}
use Rattle.merged_walk.proofs.EntryLaws.{all-left, all-right}

module _ {L K H : Type 0} (e : Evaluator L K H) (s : IsSound e) (held : ℕ → Option K) where
  abbrev has : ℕ × K → Type 0
  has x = held x.0 ≡ Some x.1

  told-tree : (n : Keyed L) (c r : Forest (Keyed L)) (i : H) (k : ℕ) (b : Bool) → e.is_element n.label ≡ b
      → cond b (Some n.key) (first_element e.is_element r) ≡ Some k → Holds held (told_all e i (Tree n c r))
      → (first_element e.is_element r ≡ Some k → Holds held (told_all e i r) → (entry : K) × (held k ≡ Some entry) × (e.handed_in entry ≡ i))
      → (entry : K) × (held k ≡ Some entry) × (e.handed_in entry ≡ i)
  told-tree n c r i k true element is h rest =
      let x = past_all e (e.within n i) c in
      let own : told e n i x ≡ (n.key, e.kept n i x) ∷ [] = rw element refl in
      let its : held n.key ≡ Some (e.kept n i x) =
      All-head has (n.key, e.kept n i x) [] (subst (Holds held) own (all-left has (told e n i x) _ (all-right has (told_all e (e.within n i) c) _ h))) in
      (e.kept n i x, ap held (sym (same_Some _ _ is)) ∙ its, s.handed n i x)
  told-tree n c r i k false text is h rest =
      let x = past_all e (e.within n i) c in
      rest is (subst (λ y. Holds held (told_all e y r)) (s.text n i x text) (all-right has (told e n i x) _ (all-right has (told_all e (e.within n i) c) _ h)))

  -- the first element of a level was handed what the level was
  pub told_by_first : (g : Forest (Keyed L)) (i : H) (k : ℕ) → first_element e.is_element g ≡ Some k → Holds held (told_all e i g) → (entry : K) × (held k ≡ Some entry) × (e.handed_in entry ≡ i)
  told_by_first Empty i k is h = absurd (none-some k is)
  told_by_first (Tree n c r) i k is h = told-tree n c r i k (e.is_element n.label) refl is h (told_by_first r i k)

  past-tree : (n : Keyed L) (c r : Forest (Keyed L)) (i : H) (b : Bool) → e.is_element n.label ≡ b → cond b (Some n.key) (first_element e.is_element r) ≡ None
      → (first_element e.is_element r ≡ None → past_all e i r ≡ i) → past_all e i (Tree n c r) ≡ i
  past-tree n c r i true element h rest = absurd (none-some n.key (sym h))
  past-tree n c r i false text h rest = ap (λ x. past_all e x r) (s.text n i (past_all e (e.within n i) c) text) ∙ rest h

  -- behind trees without an element the same is handed on
  pub told_by_none : (g : Forest (Keyed L)) (i : H) → first_element e.is_element g ≡ None → past_all e i g ≡ i
  told_by_none Empty i h = refl
  told_by_none (Tree n c r) i h = past-tree n c r i (e.is_element n.label) refl h (told_by_none r i)

  -- the record of the innermost open node tells what was handed on behind its children
  pub told_by_parent : (b : Open L H) (bs : List (Open L H)) (j : H) (here : Merge L) → e.is_element b.was_node.label ≡ true → b.was_node.key ≡ b.node.key → b.fresh ≡ false
      → Holds held (olds e (b ∷ bs) j here) → (entry : K) × (held b.node.key ≡ Some entry) × (e.behind_in entry ≡ past_all e j (old_of here))
  told_by_parent b bs j here element one_key stays h =
      let x = past_all e j (old_of here) in
      let entry = e.kept b.was_node b.was_handed x in
      let own : old_told e b x ≡ (b.was_node.key, entry) ∷ [] = rw (stays, element) refl in
      let its : held b.was_node.key ≡ Some entry =
      All-head has (b.was_node.key, entry) [] (subst (Holds held) own (all-left has (old_told e b x) _ (all-right has (told_all e j (old_of here)) _ h))) in
      (entry, ap held (sym one_key) ∙ its, s.behind b.was_node b.was_handed x)
