-- What stands at a path of a keyed tree, by its key, and without keys.
use Rattle.std.proofs.Common.{◌≡◌, ℕ, zero, suc, false, List, [], ◌∷◌, ◌++◌, length, Option, Some, None, is_some, option_map, refl, sym, ap, subst, ◌∙◌}
use Rattle.std.proofs.lemmas.Option.{none-some, same_Some}
use Rattle.std.proofs.lemmas.List.{length-map}
use Rattle.forest.specs.Forest.{Forest, Empty, Tree, map_labels}
use Rattle.forest.specs.Keys.{Keyed, HasDistinctKeys, without_keys}
use Rattle.forest.specs.Spots.{Spot, keyed, roots, first_key, spot, spot_of, label_of, child_count_of, parent_of, index_of, on_link, children_of}
use Rattle.forest.specs.Paths.{trees_from, on_path, key_at}
use Rattle.forest.proofs.SpotLaws.{the_spot, keyed-same, distinct-parts, spot-root, spot-below, spot-beside}
use Rattle.forest.proofs.PathLaws.{key_at-child, path-live}
use Rattle.forest.proofs.SiblingLaws.{child-is}
use Rattle.plain_types.specs.declared.node.Node.{Node}
use Rattle.node_arena.specs.AtPaths.{first_label, first_children, label_at, child_count_at}
use Rattle.node_arena.specs.Copies.{is_element}
use Rattle.node_arena.specs.Edits.{is_element_at}

module _ {L M : Type 0} (f : L → M) where
  pub from-map : (i : ℕ) (t : Forest L) → trees_from i (map_labels f t) ≡ map_labels f (trees_from i t)
  from-map zero t = refl
  from-map (suc i) Empty = refl
  from-map (suc i) (Tree n c r) = from-map i r

  pub on-map : (path : List ℕ) (t : Forest L) → on_path path (map_labels f t) ≡ map_labels f (on_path path t)
  on-map [] t = refl
  on-map (p ∷ path) Empty = refl
  on-map (p ∷ path) (Tree n c r) = ap (on_path path) (from-map p c) ∙ on-map path (trees_from p c)

  pub count-map : (t : Forest L) → length (roots (map_labels f t)) ≡ length (roots t)
  count-map Empty = refl
  count-map (Tree n c r) = ap (λ k. suc k) (count-map r)

  pub first-map : (t : Forest L) → first_label (map_labels f t) ≡ option_map f (first_label t)
  first-map Empty = refl
  first-map (Tree n c r) = refl

module _ {L : Type 0} where
  -- the tree at a path is that of the key there
  pub record IsAt (f : Forest (Keyed L)) (path : List ℕ) (q : ℕ) : Type 0 where
    pub spot : Spot L
    pub at : spot_of f q ≡ Some spot
    pub on : on_path path f ≡ Tree (keyed q spot.label) spot.children spot.after

  abbrev Stands : Forest (Keyed L) → Option ℕ → List (Keyed L) → ℕ → List ℕ → ℕ → Type 0
  Stands f p e i path q = (s : Spot L) × (spot p e f q ≡ Some s) × (on_path path (trees_from i f) ≡ Tree (keyed q s.label) s.children s.after)

  pub nothing-there : (i : ℕ) (path : List ℕ) (q : ℕ) (f : Forest (Keyed L)) → f ≡ Empty → first_key (on_path path (trees_from i f)) ≡ Some q → ⊥
  nothing-there zero [] q Empty is e = none-some q e
  nothing-there zero (k ∷ path) q Empty is e = none-some q e
  nothing-there (suc i) [] q Empty is e = none-some q e
  nothing-there (suc i) (k ∷ path) q Empty is e = none-some q e
  nothing-there i path q (Tree n c r) is e = cc

  stands-at : (f : Forest (Keyed L)) (p : Option ℕ) (e : List (Keyed L)) (i : ℕ) (path : List ℕ) (q : ℕ) → HasDistinctKeys f → first_key (on_path path (trees_from i f)) ≡ Some q → Stands f p e i path q
  stands-at Empty p e i path q d is = absurd (nothing-there i path q Empty refl is)
  stands-at (Tree n c r) p e zero [] q d is =
      let key : n.key ≡ q = same_Some _ _ is in
      (the_spot p e n.label c r, subst (λ k. spot p e (Tree n c r) k ≡ Some (the_spot p e n.label c r)) key (spot-root p e n c r), ap (λ m. Tree m c r) (keyed-same n q n.label key refl))
  stands-at (Tree n c r) p e zero (k ∷ path) q d is =
      let h = stands-at c (Some n.key) [] k path q (distinct-parts n c r d).0 is in
      (h.0, spot-below p e n c r q h.0 d h.1, h.2)
  stands-at (Tree n c r) p e (suc i) path q d is =
      let h = stands-at r p (e ++ n ∷ []) i path q (distinct-parts n c r d).1 is in
      (h.0, spot-beside p e n c r q h.0 d h.1, h.2)

  pub is-at : (f : Forest (Keyed L)) (path : List ℕ) (q : ℕ) → HasDistinctKeys f → key_at f path ≡ Some q → IsAt f path q
  is-at f path q d is = let h = stands-at f None [] 0 path q d is in record { spot = h.0; at = h.1; on = h.2 }

  -- what a path leads to is what the link to its key does
  pub on-link-at : (f : Forest (Keyed L)) (path : List ℕ) (q : ℕ) → HasDistinctKeys f → key_at f path ≡ Some q → on_path path f ≡ on_link f (Some q)
  on-link-at f path q d is = let h = is-at f path q d is in let link : on_link f (Some q) ≡ Tree (keyed q h.spot.label) h.spot.children h.spot.after = rw h.at refl in h.on ∙ sym link

  pub children-at : (f : Forest (Keyed L)) (path : List ℕ) (q : ℕ) → HasDistinctKeys f → key_at f path ≡ Some q → first_children (on_path path f) ≡ children_of f q
  children-at f path q d is = let h = is-at f path q d is in let its : children_of f q ≡ h.spot.children = rw h.at refl in ap first_children h.on ∙ sym its

  -- the label and the children at a path, without keys

  pub label-found : (f : Forest (Keyed L)) (path : List ℕ) (q : ℕ) → HasDistinctKeys f → key_at f path ≡ Some q → label_at path (without_keys f) ≡ label_of f q
  label-found f path q d is =
      let h = is-at f path q d is in
      ap first_label (on-map (λ (n : Keyed L). n.label) path f ∙ ap (λ t. without_keys t) h.on) ∙ rw h.at refl

  pub count-found : (f : Forest (Keyed L)) (path : List ℕ) (q : ℕ) → HasDistinctKeys f → key_at f path ≡ Some q → child_count_at path (without_keys f) ≡ child_count_of f q
  count-found f path q d is =
      let h = is-at f path q d is in
      ap (λ t. length (roots (first_children t))) (on-map (λ (n : Keyed L). n.label) path f ∙ ap (λ t. without_keys t) h.on)
      ∙ count-map (λ (n : Keyed L). n.label) h.spot.children
      ∙ sym (length-map (roots h.spot.children) (λ (n : Keyed L). n.key))
      ∙ rw h.at refl

  some-first : (t : Forest (Keyed L)) → is_some (first_label (without_keys t)) ≡ is_some (first_key t)
  some-first Empty = refl
  some-first (Tree n c r) = refl

  pub node-found : (f : Forest (Keyed L)) (path : List ℕ) → is_some (label_at path (without_keys f)) ≡ is_some (key_at f path)
  node-found f path = ap (λ t. is_some (first_label t)) (on-map (λ (n : Keyed L). n.label) path f) ∙ some-first (on_path path f)

  pub none-found : (f : Forest (Keyed L)) (path : List ℕ) → key_at f path ≡ None → label_at path (without_keys f) ≡ None
  none-found f path none = nothing (label_at path (without_keys f)) (node-found f path ∙ ap (λ o. is_some o) none)
    where
      nothing : (o : Option L) → is_some o ≡ false → o ≡ None
      nothing None e = refl
      nothing (Some x) e = absurd (cc)

  -- a node is the child of its parent that its path's last step tells
  pub parent-found : (f : Forest (Keyed L)) (parent : List ℕ) (i p q : ℕ) → HasDistinctKeys f → key_at f parent ≡ Some p → key_at f (parent ++ i ∷ []) ≡ Some q → (parent_of f q ≡ Some p) × (index_of f q ≡ i)
  parent-found f parent i p q d above is =
      let h = child-is f p d i q (path-live f parent p above) (sym (key_at-child f parent p i d above) ∙ is) in
      (h.1, h.2)

-- whether an element stands there
pub element-found : (f : Forest (Keyed Node)) (path : List ℕ) (q : ℕ) (node : Node) → HasDistinctKeys f → key_at f path ≡ Some q → Some node ≡ label_of f q → is_element_at path (without_keys f) ≡ is_element node
element-found f path q node d is label = let at : label_at path (without_keys f) ≡ Some node = label-found f path q d is ∙ sym label in rw (at, is_element_at) refl

pub no-element-found : (f : Forest (Keyed Node)) (path : List ℕ) → key_at f path ≡ None → is_element_at path (without_keys f) ≡ false
no-element-found f path none = let at : label_at path (without_keys f) ≡ None = none-found f path none in rw (at, is_element_at) refl
