-- Edits by paths, told by keys, and without keys.
use Rattle.std.proofs.Common.{◌≡◌, ◌<◌, ℕ, zero, suc, List, [], ◌∷◌, Some, option_map, refl, sym, ap, subst, ◌∙◌, arith, eq-eqb}
use Rattle.std.proofs.lemmas.Option.{same_Some}
use Rattle.forest.specs.Forest.{Forest, Empty, Tree, map_labels}
use Rattle.forest.specs.Keys.{Keyed, times, HasDistinctKeys, without_keys}
use Rattle.forest.specs.Spots.{Spot, keyed, first_key, label_of, children_of}
use Rattle.forest.specs.Paths.{trees_from, on_path, key_at}
use Rattle.forest.specs.Changes.{put_children, put_label, splice}
use Rattle.forest.proofs.SpotLaws.{distinct-parts, root-once, below-or-after, not-root}
use Rattle.forest.proofs.PathLaws.{path-counted}
use Rattle.plain_types.specs.declared.edit.Edit.{Edit}
use Rattle.plain_types.specs.declared.edit.Edit.TheVariants.{Insert, Remove, Move, SetAttr, UnsetAttr, ReplaceSheet}
use Rattle.plain_types.specs.declared.node.Node.{Node}
use Rattle.node_arena.specs.AtPaths.{from_position, at_path, without_first, with_children, with_label, with_tree, first_children, inserted_at, removed_at, relabelled_at, moved, once_out}
use Rattle.node_arena.specs.Edits.{set_attr, unset_attr, edited, with_its_key, KeepsKeys, IsEdited}
use Rattle.forest.proofs.ChangeLaws.{put_children-absent}
use Rattle.node_arena.proofs.KeyAtLaws.{on-map, is-at, children-at, nothing-there}
use Rattle.node_arena.proofs.RelabelLaws.{put_label-absent}

-- Changes by paths are natural: they do the same to other labels.
module _ {L M : Type 0} (f : L → M) where
  from-natural : (change : Forest L → Forest L) (other : Forest M → Forest M) → ((x : Forest L) → map_labels f (change x) ≡ other (map_labels f x)) → (i : ℕ) (x : Forest L) → map_labels f (from_position change i x) ≡ from_position other i (map_labels f x)
  from-natural change other same zero x = same x
  from-natural change other same (suc i) Empty = refl
  from-natural change other same (suc i) (Tree n c r) = ap (λ t. Tree (f n) (map_labels f c) t) (from-natural change other same i r)

  pub at-natural : (change : Forest L → Forest L) (other : Forest M → Forest M) → ((x : Forest L) → map_labels f (change x) ≡ other (map_labels f x)) → (path : List ℕ) (x : Forest L) → map_labels f (at_path change path x) ≡ at_path other path (map_labels f x)
  at-natural change other same [] x = same x
  at-natural change other same (p ∷ path) Empty = refl
  at-natural change other same (p ∷ path) (Tree n c r) = ap (λ t. Tree (f n) t (map_labels f r)) (from-natural (at_path change path) (at_path other path) (at-natural change other same path) p c)

  first-natural : (x : Forest L) → map_labels f (without_first x) ≡ without_first (map_labels f x)
  first-natural Empty = refl
  first-natural (Tree n c r) = refl

  splice-natural : (i : ℕ) (m : L) (t c : Forest L) → map_labels f (splice i m t c) ≡ splice i (f m) (map_labels f t) (map_labels f c)
  splice-natural zero m t c = refl
  splice-natural (suc i) m t Empty = refl
  splice-natural (suc i) m t (Tree n d r) = ap (λ s. Tree (f n) (map_labels f d) s) (splice-natural i m t r)

  with_tree-natural : (i : ℕ) (t c : Forest L) → map_labels f (with_tree i t c) ≡ with_tree i (map_labels f t) (map_labels f c)
  with_tree-natural i Empty c = refl
  with_tree-natural i (Tree m t r) c = splice-natural i m t c

  insert-natural : (i : ℕ) (t x : Forest L) → map_labels f (with_children (with_tree i t) x) ≡ with_children (with_tree i (map_labels f t)) (map_labels f x)
  insert-natural i t Empty = refl
  insert-natural i t (Tree n c r) = ap (λ d. Tree (f n) d (map_labels f r)) (with_tree-natural i t c)

  pub inserted-natural : (path : List ℕ) (i : ℕ) (t x : Forest L) → map_labels f (inserted_at path i t x) ≡ inserted_at path i (map_labels f t) (map_labels f x)
  inserted-natural path i t x = at-natural (with_children (with_tree i t)) (with_children (with_tree i (map_labels f t))) (insert-natural i t) path x

  pub removed-natural : (path : List ℕ) (x : Forest L) → map_labels f (removed_at path x) ≡ removed_at path (map_labels f x)
  removed-natural path x = at-natural without_first without_first first-natural path x

  pub moved-natural : (from parent : List ℕ) (i : ℕ) (x : Forest L) → map_labels f (moved from parent i x) ≡ moved from parent i (map_labels f x)
  moved-natural from parent i x =
      inserted-natural (once_out from parent) i (on_path from x) (removed_at from x)
      ∙ ap (λ t. inserted_at (once_out from parent) i t (map_labels f (removed_at from x))) (sym (on-map f from x))
      ∙ ap (inserted_at (once_out from parent) i (on_path from (map_labels f x))) (removed-natural from x)

label-natural : (change : Node → Node) (x : Forest (Keyed Node)) → without_keys (with_label (with_its_key change) x) ≡ with_label change (without_keys x)
label-natural change Empty = refl
label-natural change (Tree n c r) = refl

relabelled-natural : (path : List ℕ) (change : Node → Node) (x : Forest (Keyed Node)) → without_keys (relabelled_at path (with_its_key change) x) ≡ relabelled_at path change (without_keys x)
relabelled-natural path change x = at-natural (λ (n : Keyed Node). n.label) (with_label (with_its_key change)) (with_label change) (label-natural change) path x

-- what an edit makes of a keyed tree is, without keys, what it makes of the tree
pub keeps-edited : (edit : Edit) (old new : Forest (Keyed Node)) → KeepsKeys edit old new → without_keys new ≡ edited edit (without_keys old)
keeps-edited (Insert parent index fragment) old new h =
    ap (λ t. without_keys t) h.3 ∙ inserted-natural (λ (n : Keyed Node). n.label) parent index h.0 old ∙ ap (λ t. inserted_at parent index t (without_keys old)) h.1
keeps-edited (Remove path) old new h = ap (λ t. without_keys t) h ∙ removed-natural (λ (n : Keyed Node). n.label) path old
keeps-edited (Move from parent index) old new h = ap (λ t. without_keys t) h ∙ moved-natural (λ (n : Keyed Node). n.label) from parent index old
keeps-edited (SetAttr path name value) old new h = ap (λ t. without_keys t) h ∙ relabelled-natural path (set_attr name value) old
keeps-edited (UnsetAttr path name) old new h = ap (λ t. without_keys t) h ∙ relabelled-natural path (unset_attr name) old
keeps-edited (ReplaceSheet text) old new h = ap (λ t. without_keys t) h

pub is-edited : (edit : Edit) (old new : Forest (Keyed Node)) → KeepsKeys edit old new → IsEdited edit old new
is-edited edit old new h = record { tree = keeps-edited edit old new h; keys = h }

-- Changes by paths, told by keys.
module _ {L : Type 0} where
  children-from : (change : Forest (Keyed L) → Forest (Keyed L)) (f : Forest (Keyed L)) (i : ℕ) (path : List ℕ) (q : ℕ) → HasDistinctKeys f → first_key (on_path path (trees_from i f)) ≡ Some q
      → from_position (at_path (with_children change) path) i f ≡ put_children q (change (first_children (on_path path (trees_from i f)))) f
  children-from change Empty i path q d is = absurd (nothing-there i path q Empty refl is)
  children-from change (Tree n c r) zero [] q d is =
      let key : n.key ≡ q = same_Some _ _ is in
      let none : times q r ≡ 0 = subst (λ x. times x r ≡ 0) key (root-once n c r d).1 in
      rw (eq-eqb n.key q key, put_children-absent r q (change c) none) refl
  children-from change (Tree n c r) zero (k ∷ path) q d is =
      let there : 0 < times q c = path-counted c k path q is in
      let none : times q r ≡ 0 = omega (arith, d q) in
      let g : Forest (Keyed L) = change (first_children (on_path path (trees_from k c))) in
      rw (not-root n c r q d (omega arith), put_children-absent r q g none) (ap (λ t. Tree n t r) (children-from change c k path q (distinct-parts n c r d).0 is))
  children-from change (Tree n c r) (suc i) path q d is =
      let there : 0 < times q r = path-counted r i path q is in
      let none : times q c ≡ 0 = below-or-after n c r q d there in
      let g : Forest (Keyed L) = change (first_children (on_path path (trees_from i r))) in
      rw (not-root n c r q d (omega arith), put_children-absent c q g none) (ap (λ t. Tree n c t) (children-from change r i path q (distinct-parts n c r d).1 is))

  pub children-changed : (change : Forest (Keyed L) → Forest (Keyed L)) (f : Forest (Keyed L)) (path : List ℕ) (q : ℕ) → HasDistinctKeys f → key_at f path ≡ Some q → at_path (with_children change) path f ≡ put_children q (change (children_of f q)) f
  children-changed change f path q d is =
      children-from change f 0 path q d is ∙ ap (λ c. put_children q (change c) f) (children-at f path q d is)

  label-from : (change : L → L) (both : Keyed L → Keyed L) → ((n : Keyed L) → both n ≡ keyed n.key (change n.label)) → (f : Forest (Keyed L)) (i : ℕ) (path : List ℕ) (q : ℕ) (l : L) (t s : Forest (Keyed L)) → HasDistinctKeys f → on_path path (trees_from i f) ≡ Tree (keyed q l) t s
      → from_position (at_path (with_label both) path) i f ≡ put_label q (change l) f
  label-from change both same Empty i path q l t s d is = absurd (nothing-there i path q Empty refl (ap first_key is))
  label-from change both same (Tree n c r) zero [] q l t s d is =
      let its : n ≡ keyed q l = cc in
      let key : n.key ≡ q = ap (λ m. m.key) its in
      let none_c : times q c ≡ 0 = subst (λ x. times x c ≡ 0) key (root-once n c r d).0 in
      let none_r : times q r ≡ 0 = subst (λ x. times x r ≡ 0) key (root-once n c r d).1 in
      rw (eq-eqb n.key q key, put_label-absent c q (change l) none_c, put_label-absent r q (change l) none_r) (ap (λ m. Tree m c r) (same n ∙ ap (λ m. keyed m.key (change m.label)) its))
  label-from change both same (Tree n c r) zero (k ∷ path) q l t s d is =
      let there : 0 < times q c = path-counted c k path q (ap first_key is) in
      let none : times q r ≡ 0 = omega (arith, d q) in
      rw (not-root n c r q d (omega arith), put_label-absent r q (change l) none) (ap (λ x. Tree n x r) (label-from change both same c k path q l t s (distinct-parts n c r d).0 is))
  label-from change both same (Tree n c r) (suc i) path q l t s d is =
      let there : 0 < times q r = path-counted r i path q (ap first_key is) in
      let none : times q c ≡ 0 = below-or-after n c r q d there in
      rw (not-root n c r q d (omega arith), put_label-absent c q (change l) none) (ap (λ x. Tree n c x) (label-from change both same r i path q l t s (distinct-parts n c r d).1 is))

pub relabelled-is : (change : Node → Node) (f : Forest (Keyed Node)) (path : List ℕ) (q : ℕ) (l : Node) → HasDistinctKeys f → key_at f path ≡ Some q → Some l ≡ label_of f q → put_label q (change l) f ≡ relabelled_at path (with_its_key change) f
relabelled-is change f path q l d is label =
    let h = is-at f path q d is in
    let same : l ≡ h.spot.label = same_Some _ _ (label ∙ ap (option_map (λ (s : Spot Node). s.label)) h.at) in
    ap (λ m. put_label q (change m) f) same ∙ sym (label-from change (with_its_key change) (λ n. refl) f 0 path q h.spot.label h.spot.children h.spot.after d h.on)
