-- The first holder of an id. Throughout, n is a node, c what is under it, r what is after it, f trees, m a merge, and k a
-- key.
use Rattle.std.proofs.Common.{◌≡◌, ◌==◌, ◌<◌, ◌||◌, ℕ, Bool, true, false, cond, List, [], ◌∷◌, ◌++◌, Option, Some, None, IsSome, refl, sym, ap, ap₂, subst, ◌∙◌, inl, inr, arith, eq-eqb}
use Rattle.std.specs.Prelude.{find, option_and_then, option_map}
use Rattle.std.specs.List.{list_any}
use Rattle.std.specs.Option.{option_or}
use Rattle.std.proofs.lemmas.Bool.{or_parts}
use Rattle.std.proofs.lemmas.List.Folds.{find-append, list_any-append}
use Rattle.std.proofs.lemmas.Option.{none-some, same_Some}
use Rattle.forest.specs.Forest.{Forest, Empty, Tree, labels}
use Rattle.forest.specs.Keys.{Keyed, HasDistinctKeys, times}
use Rattle.forest.specs.Spots.{Spot, spot}
use Rattle.forest.proofs.SpotLaws.{chosen, distinct-parts, first_found, spot-below, spot-beside, spot-root, spot-some, the_some}
use Rattle.plain_types.specs.declared.node.Node.{Node}
use Rattle.plain_types.specs.declared.node.Node.TheVariants as node
use Rattle.node_arena.specs.Nodes.{name_of, node_name}
use Rattle.generated_texts.specs.References.{first_holder, has_id}
use Rattle.edit_merge.specs.EditMerges.{is_element}
use Rattle.merged_walk.specs.Merges.{Merge, End, Kept, Turned, Gone, Come, new_of, old_of}
use Rattle.edit_work.specs.KeyedSources.{element_key, elements_in, is_among}
use Rattle.reference_reach.specs.MergedNodes.{IsLeftAlone, is_held_in}

module _ (id : List ℕ) where
  abbrev holds : Keyed Node → Bool
  holds n = has_id id n.label

  abbrev key_in : Option (Keyed Node) → Option ℕ
  key_in o = option_map (λ (n : Keyed Node). n.key) o

  key-or : (a b : Option (Keyed Node)) → key_in (option_or a b) ≡ option_or (key_in a) (key_in b)
  key-or None b = refl
  key-or (Some n) b = refl

  key-choice : (x : Bool) (n : Keyed Node) (o : Option (Keyed Node)) → key_in (cond x (Some n) o) ≡ cond x (Some n.key) (key_in o)
  key-choice true n o = refl
  key-choice false n o = refl

  -- it is a first root, or under it, or after it
  first-tree : (n : Keyed Node) (c r : Forest (Keyed Node))
      → first_holder (Tree n c r) id ≡ cond (has_id id n.label) (Some n.key) (option_or (first_holder c id) (first_holder r id))
  first-tree n c r =
      key-choice (holds n) n (find holds (labels c ++ labels r))
      ∙ ap (λ o. cond (holds n) (Some n.key) (key_in o)) (find-append holds (labels c) (labels r))
      ∙ ap (cond (holds n) (Some n.key)) (key-or (find holds (labels c)) (find holds (labels r)))

  none-held : (ns : List (Keyed Node)) → list_any holds ns ≡ false → find holds ns ≡ None
  none-held [] h = refl
  none-held (n ∷ ns) h = let parts = or_parts (holds n) (list_any holds ns) h in ap (λ b. cond b (Some n) (find holds ns)) parts.0 ∙ none-held ns parts.1

  -- a first tree of which no node has the id
  first-beside : (n : Keyed Node) (c r : Forest (Keyed Node)) → is_held_in id (Tree n c Empty) ≡ false → first_holder (Tree n c r) id ≡ first_holder r id
  first-beside n c r h =
      let parts = or_parts (holds n) (list_any holds (labels c ++ [])) h in
      let under = or_parts (list_any holds (labels c)) (list_any holds []) (sym (list_any-append holds (labels c) []) ∙ parts.1) in
      first-tree n c r
      ∙ ap (λ b. cond b (Some n.key) (option_or (first_holder c id) (first_holder r id))) parts.0
      ∙ ap (λ o. option_or (key_in o) (first_holder r id)) (none-held (labels c) under.0)

  -- an edit that leaves the id alone
  pub targets-stay : (m : Merge Node) → IsLeftAlone id m → first_holder (new_of m) id ≡ first_holder (old_of m) id
  targets-stay End h = refl
  targets-stay (Kept n c r) h =
      first-tree n (new_of c) (new_of r)
      ∙ ap₂ (λ a b. cond (holds n) (Some n.key) (option_or a b)) (targets-stay c h.0) (targets-stay r h.1)
      ∙ sym (first-tree n (old_of c) (old_of r))
  targets-stay (Turned was n c r) h =
      first-tree n (new_of c) (new_of r)
      ∙ ap₂ (λ a b. cond (holds n) (Some n.key) (option_or a b)) (targets-stay c h.2) (targets-stay r h.3)
      ∙ ap₂ (λ b k. cond b (Some k) (option_or (first_holder (old_of c) id) (first_holder (old_of r) id))) (sym h.1) (sym h.0)
      ∙ sym (first-tree was (old_of c) (old_of r))
  targets-stay (Gone n c r) h = targets-stay r h.1 ∙ sym (first-beside n c (old_of r) h.0)
  targets-stay (Come n c r) h = first-beside n c (new_of r) h.0 ∙ targets-stay r h.1

  -- It is a node, and an element.

  pub holder-counted : (f : Forest (Keyed Node)) (k : ℕ) → first_holder f id ≡ Some k → 0 < times k f
  holder-counted Empty k is = absurd (none-some k is)
  holder-counted (Tree n c r) k is =
      elim (chosen (holds n) _ _ _ (sym (first-tree n c r) ∙ is)) [
        | inl h ↦ rw (eq-eqb n.key k (same_Some n.key k h.1)) (omega arith)
        | inr h ↦ elim (first_found _ _ k h.1) [
          | inl a ↦ omega (arith, holder-counted c k a)
          | inr b ↦ omega (arith, holder-counted r k b.1)
        ]
      ]

  has-name : (l : Node) → has_id id l ≡ true → IsSome (node_name l)
  has-name (node.Element name attrs) h = refl
  has-name (node.Text characters) h = absurd (cc)

  abbrev IsNamed : Option (Spot Node) → Type 0
  IsNamed o = IsSome (option_and_then node_name (option_map (λ (s : Spot Node). s.label) o))

  named : (f : Forest (Keyed Node)) (p : Option ℕ) (e : List (Keyed Node)) (k : ℕ) → HasDistinctKeys f → first_holder f id ≡ Some k → IsNamed (spot p e f k)
  named Empty p e k d is = absurd (none-some k is)
  named (Tree n c r) p e k d is =
      let parts = distinct-parts n c r d in
      elim (chosen (holds n) _ _ _ (sym (first-tree n c r) ∙ is)) [
        | inl h ↦
            subst (λ q. IsNamed (spot p e (Tree n c r) q)) (same_Some n.key k h.1)
            (subst IsNamed (sym (spot-root p e n c r)) (has-name n.label h.0))
        | inr h ↦ elim (first_found _ _ k h.1) [
          | inl a ↦
              let s = the_some (spot (Some n.key) [] c k) (spot-some c (Some n.key) [] k (holder-counted c k a)) in
              subst IsNamed (s.1 ∙ sym (spot-below p e n c r k s.0 d s.1)) (named c (Some n.key) [] k parts.0 a)
          | inr b ↦
              let s = the_some (spot p (e ++ n ∷ []) r k) (spot-some r p (e ++ n ∷ []) k (holder-counted r k b.1)) in
              subst IsNamed (s.1 ∙ sym (spot-beside p e n c r k s.0 d s.1)) (named r p (e ++ n ∷ []) k parts.1 b.1)
        ]
      ]

  pub holder-element : (f : Forest (Keyed Node)) (k : ℕ) → HasDistinctKeys f → first_holder f id ≡ Some k → IsSome (name_of f k)
  holder-element f k d is = named f None [] k d is

  -- so it is listed among the elements
  is-one : (l : Node) → has_id id l ≡ true → is_element l ≡ true
  is-one (node.Element name attrs) h = refl
  is-one (node.Text characters) h = absurd (cc)

  right : (a b : Bool) → b ≡ true → (a || b) ≡ true
  right true b h = refl
  right false b h = h

  left : (a b : Bool) → a ≡ true → (a || b) ≡ true
  left a b h = ap (λ a. a || b) h

  listed-parts : (n : Keyed Node) (c r : Forest (Keyed Node)) (k : ℕ)
      → is_among (elements_in (Tree n c r)) k ≡ (is_among (element_key n) k || (is_among (elements_in c) k || is_among (elements_in r) k))
  listed-parts n c r k =
      list_any-append (λ other. other == k) (element_key n) (elements_in c ++ elements_in r)
      ∙ ap (λ b. is_among (element_key n) k || b) (list_any-append (λ other. other == k) (elements_in c) (elements_in r))

  pub holder-listed : (f : Forest (Keyed Node)) (k : ℕ) → first_holder f id ≡ Some k → is_among (elements_in f) k ≡ true
  holder-listed Empty k is = absurd (none-some k is)
  holder-listed (Tree n c r) k is =
      listed-parts n c r k
      ∙ elim (chosen (holds n) _ _ _ (sym (first-tree n c r) ∙ is)) [
        | inl h ↦
            left (is_among (element_key n) k) (is_among (elements_in c) k || is_among (elements_in r) k)
            (ap (λ b. is_among (cond b (n.key ∷ []) []) k) (is-one n.label h.0) ∙ left (n.key == k) false (eq-eqb n.key k (same_Some n.key k h.1)))
        | inr h ↦ right (is_among (element_key n) k) (is_among (elements_in c) k || is_among (elements_in r) k) (elim (first_found _ _ k h.1) [
          | inl a ↦ left (is_among (elements_in c) k) (is_among (elements_in r) k) (holder-listed c k a)
          | inr b ↦ right (is_among (elements_in c) k) (is_among (elements_in r) k) (holder-listed r k b.1)
        ])
      ]
