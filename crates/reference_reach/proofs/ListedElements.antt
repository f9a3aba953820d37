-- Elements in lists. Throughout, n is a node, c what is under it, r what is after it, f trees, m a merge, and k a key.
use Rattle.std.proofs.Common.{◌≡◌, ◌==◌, ◌<◌, ◌+◌, ◌||◌, ℕ, Bool, true, false, cond, List, [], ◌∷◌, ◌++◌, Option, Some, None, ◌⊎◌, inl, inr, refl, sym, ap, ap₂, ◌∙◌, arith}
use Rattle.std.specs.List.{list_any}
use Rattle.std.specs.Option.{option_map_or}
use Rattle.std.proofs.lemmas.List.Folds.{list_any-append}
use Rattle.forest.specs.Forest.{Forest, Empty, Tree}
use Rattle.forest.specs.Keys.{Keyed, times}
use Rattle.plain_types.specs.declared.node.Node.{Node}
use Rattle.generated_texts.specs.References.{first_holder}
use Rattle.merged_walk.specs.Merges.{Merge, End, Kept, Turned, Gone, Come, has_place, new_of}
use Rattle.edit_merge.specs.EditMerges.{is_element}
use Rattle.edit_work.specs.KeyedSources.{element_key, elements_in, is_among}
use Rattle.reference_reach.specs.ChangedTargets.{Evaluated, has_changed_target, has_other_target, has_referring_target, has_target_among, references_at, refers, refers_through}
use Rattle.reference_reach.specs.Laws.{RefersTheSame}
use Rattle.reference_reach.specs.MergedNodes.{entered_elements}

-- Listed elements stand in the trees.

one-of : (a b : Bool) → (a || b) ≡ true → (a ≡ true) ⊎ (b ≡ true)
one-of true b h = inl refl
one-of false b h = inr h

module _ (k : ℕ) where
  either-list : (xs ys : List ℕ) → is_among (xs ++ ys) k ≡ true → (is_among xs k ≡ true) ⊎ (is_among ys k ≡ true)
  either-list xs ys h = one-of (is_among xs k) (is_among ys k) (sym (list_any-append (λ other. other == k) xs ys) ∙ h)

  own-key : (key : ℕ) (b : Bool) → is_among (cond b (key ∷ []) []) k ≡ true → (key == k) ≡ true
  own-key key false h = absurd (cc h)
  own-key key true h = elim (one-of (key == k) false h) [ inl a ↦ a | inr b ↦ absurd (cc b) ]

  own-counted : (b : Bool) (x y : ℕ) → b ≡ true → 0 < cond {A = ℕ} b 1 0 + (x + y)
  own-counted true x y h = omega arith
  own-counted false x y h = absurd (cc h)

  elements-counted : (f : Forest (Keyed Node)) → is_among (elements_in f) k ≡ true → 0 < times k f
  elements-counted Empty h = absurd (cc h)
  elements-counted (Tree n c r) h = elim (either-list (element_key n) (elements_in c ++ elements_in r) h) [
    | inl own ↦ own-counted (n.key == k) (times k c) (times k r) (own-key n.key (is_element n.label) own)
    | inr rest ↦ elim (either-list (elements_in c) (elements_in r) rest) [
      | inl below ↦ let some = elements-counted c below in omega (arith, some)
      | inr beside ↦ let some = elements-counted r beside in omega (arith, some)
    ]
  ]

  pub entered-counted : (m : Merge Node) → is_among (entered_elements m) k ≡ true → 0 < times k (new_of m)
  entered-counted End h = absurd (cc h)
  entered-counted (Kept n c r) h = elim (either-list (cond (has_place c) (n.key ∷ []) []) (entered_elements c ++ entered_elements r) h) [
    | inl own ↦ own-counted (n.key == k) (times k (new_of c)) (times k (new_of r)) (own-key n.key (has_place c) own)
    | inr rest ↦ elim (either-list (entered_elements c) (entered_elements r) rest) [
      | inl below ↦ let some = entered-counted c below in omega (arith, some)
      | inr beside ↦ let some = entered-counted r beside in omega (arith, some)
    ]
  ]
  entered-counted (Turned was n c r) h = elim (one-of (n.key == k) (is_among (entered_elements c ++ entered_elements r) k) h) [
    | inl own ↦ own-counted (n.key == k) (times k (new_of c)) (times k (new_of r)) own
    | inr rest ↦ elim (either-list (entered_elements c) (entered_elements r) rest) [
      | inl below ↦ let some = entered-counted c below in omega (arith, some)
      | inr beside ↦ let some = entered-counted r beside in omega (arith, some)
    ]
  ]
  entered-counted (Gone n c r) h = entered-counted r h
  entered-counted (Come n c r) h = elim (either-list (elements_in (Tree n c Empty)) (entered_elements r) h) [
    | inl comes ↦ let some = elements-counted (Tree n c Empty) comes in omega (arith, some)
    | inr beside ↦ let some = entered-counted r beside in omega (arith, some)
  ]

-- However changed elements are listed, the same elements refer to them.

same-any : {X : Type 0} (one other : X → Bool) → ((x : X) → one x ≡ other x) → (xs : List X) → list_any one xs ≡ list_any other xs
same-any one other same [] = refl
same-any one other same (x ∷ xs) = ap₂ (λ a b. a || b) (same x) (same-any one other same xs)

same-target : (one other : ℕ → Bool) → ((k : ℕ) → one k ≡ other k) → (o : Option ℕ) → option_map_or one o false ≡ option_map_or other o false
same-target one other same None = refl
same-target one other same (Some k) = same k

module _ (before after : Evaluated) (changed listed : List ℕ) (same : (k : ℕ) → is_among changed k ≡ is_among listed k) where
  changed-same : (id : List ℕ) → has_changed_target before after changed id ≡ has_changed_target before after listed id
  changed-same id = ap (λ b. has_other_target before after id || b) (same-target (is_among changed) (is_among listed) same (first_holder after.tree id))

  first-same : (k : ℕ) → refers before after changed k ≡ refers before after listed k
  first-same k = same-any (has_changed_target before after changed) (has_changed_target before after listed) changed-same (references_at after k)

  referring-same : (id : List ℕ) → has_referring_target before after changed id ≡ has_referring_target before after listed id
  referring-same id = same-target (refers before after changed) (refers before after listed) first-same (first_holder after.tree id)

  pub refers-same : (k : ℕ) → RefersTheSame before after changed listed k
  refers-same k = record {
    first = first-same k;
    second = same-any (has_referring_target before after changed) (has_referring_target before after listed) referring-same (references_at after k);
  }
