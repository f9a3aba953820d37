-- An id that no node has which an edit takes out, moves or puts in keeps its target. Throughout, n is a node, c what is under
-- it, r what is after it, g trees, and m a merge; z is a node that comes, with zs under it.
use Rattle.std.proofs.Common.{◌≡◌, ◌||◌, ℕ, zero, suc, Bool, true, false, List, [], ◌∷◌, ◌++◌, refl, sym, ap, ap₂, subst, ◌∙◌}
use Rattle.std.proofs.lemmas.Bool.{or_parts}
use Rattle.forest.specs.Forest.{Forest, Empty, Tree}
use Rattle.forest.specs.Keys.{Keyed}
use Rattle.forest.specs.Paths.{on_path, trees_from}
use Rattle.plain_types.specs.declared.edit.Edit.{Edit}
use Rattle.plain_types.specs.declared.edit.Edit.TheVariants.{Insert, Remove, Move, SetAttr, UnsetAttr, ReplaceSheet}
use Rattle.plain_types.specs.declared.node.Node.{Node}
use Rattle.node_arena.specs.AtPaths.{from_position, once_out, relabelled_at, with_label}
use Rattle.node_arena.specs.Changes.{alone}
use Rattle.node_arena.specs.Edits.{set_attr, unset_attr, with_its_key}
use Rattle.node_arena.proofs.AtPathLaws.{on-changed}
use Rattle.generated_texts.specs.References.{first_holder, has_id}
use Rattle.merged_walk.specs.Edits.{come_among, first_gone, from_new, merged_at, merged_from, put_at, put_fragment, removal}
use Rattle.merged_walk.specs.Merges.{Merge, End, Kept, Turned, Gone, Come, all_kept, new_of, old_of}
use Rattle.merged_walk.proofs.MergeLaws.{new-all_kept, old-all_kept}
use Rattle.edit_merge.specs.EditMerges.{edit_merge, inserted_tree}
use Rattle.edit_merge.specs.Laws.{IsDone}
use Rattle.edit_merge.proofs.EditLaws.{edits_merge, inserted}
use Rattle.reference_reach.specs.ExchangedNodes.{coming_nodes, first_node, leaving_nodes}
use Rattle.reference_reach.specs.MergedNodes.{IsLeftAlone, is_held_in}
use Rattle.reference_reach.proofs.EnteredLaws.{OnlyGoes, only-all_kept, only-removal}
use Rattle.reference_reach.proofs.HolderLaws.{targets-stay}

-- A merge in which one node is turned.

abbrev first_turned : (Keyed Node → Keyed Node) → Forest (Keyed Node) → Merge Node
first_turned change Empty = End
first_turned change (Tree n c r) = Turned n (change n) (all_kept c) (all_kept r)

old-from : (sub : Forest (Keyed Node) → Merge Node) → ((g : Forest (Keyed Node)) → old_of (sub g) ≡ g) → (position : ℕ) (g : Forest (Keyed Node)) → old_of (merged_from sub position g) ≡ g
old-from sub old zero g = old g
old-from sub old (suc position) Empty = refl
old-from sub old (suc position) (Tree n c r) = ap₂ (λ c r. Tree n c r) (old-all_kept c) (old-from sub old position r)

new-from : (sub : Forest (Keyed Node) → Merge Node) (change : Forest (Keyed Node) → Forest (Keyed Node)) → ((g : Forest (Keyed Node)) → new_of (sub g) ≡ change g)
    → (position : ℕ) (g : Forest (Keyed Node)) → new_of (merged_from sub position g) ≡ from_position change position g
new-from sub change new zero g = new g
new-from sub change new (suc position) Empty = refl
new-from sub change new (suc position) (Tree n c r) = ap₂ (λ c r. Tree n c r) (new-all_kept c) (new-from sub change new position r)

module _ (change : Keyed Node → Keyed Node) where
  abbrev turning : List ℕ → Forest (Keyed Node) → Merge Node
  turning path g = merged_at (first_turned change) path g

  old-turning : (path : List ℕ) (g : Forest (Keyed Node)) → old_of (turning path g) ≡ g
  old-turning [] Empty = refl
  old-turning [] (Tree n c r) = ap₂ (λ c r. Tree n c r) (old-all_kept c) (old-all_kept r)
  old-turning (position ∷ path) Empty = refl
  old-turning (position ∷ path) (Tree n c r) = ap₂ (λ c r. Tree n c r) (old-from (turning path) (old-turning path) position c) (old-all_kept r)

  new-turning : (path : List ℕ) (g : Forest (Keyed Node)) → new_of (turning path g) ≡ relabelled_at path change g
  new-turning [] Empty = refl
  new-turning [] (Tree n c r) = ap₂ (λ c r. Tree (change n) c r) (new-all_kept c) (new-all_kept r)
  new-turning (position ∷ path) Empty = refl
  new-turning (position ∷ path) (Tree n c r) =
      ap₂ (λ c r. Tree n c r) (new-from (turning path) (relabelled_at path change) (new-turning path) position c) (new-all_kept r)

module _ (id : List ℕ) where
  -- Merges that leave the id alone.

  left-all_kept : (g : Forest (Keyed Node)) → IsLeftAlone id (all_kept g)
  left-all_kept Empty = tt
  left-all_kept (Tree n c r) = (left-all_kept c, left-all_kept r)

  module _ (change : Forest (Keyed Node) → Merge Node) where
    left-from : (sub : Forest (Keyed Node) → Merge Node) (position : ℕ) (g : Forest (Keyed Node)) → IsLeftAlone id (sub (trees_from position g)) → IsLeftAlone id (merged_from sub position g)
    left-from sub zero g h = h
    left-from sub (suc position) Empty h = tt
    left-from sub (suc position) (Tree n c r) h = (left-all_kept c, left-from sub position r h)

    left-at : (path : List ℕ) (g : Forest (Keyed Node)) → IsLeftAlone id (change (on_path path g)) → IsLeftAlone id (merged_at change path g)
    left-at [] g h = h
    left-at (position ∷ path) Empty h = tt
    left-at (position ∷ path) (Tree n c r) h = (left-from (merged_at change path) position c (left-at path (trees_from position c) h), left-all_kept r)

  left-gone : (g : Forest (Keyed Node)) → is_held_in id (alone g) ≡ false → IsLeftAlone id (first_gone g)
  left-gone Empty h = tt
  left-gone (Tree n c r) h = (h, left-all_kept r)

  left-turned : (change : Keyed Node → Keyed Node) → ((n : Keyed Node) → (change n).key ≡ n.key) → (g : Forest (Keyed Node)) → is_held_in id (first_node g) ≡ false
      → is_held_in id (first_node (with_label change g)) ≡ false → IsLeftAlone id (first_turned change g)
  left-turned change key Empty was is = tt
  left-turned change key (Tree n c r) was is =
      let had = or_parts (has_id id n.label) false was in
      let has = or_parts (has_id id (change n).label) false is in
      (sym (key n), had.0 ∙ sym has.0, left-all_kept c, left-all_kept r)

  -- A tree that comes into a merge in which trees only go.
  module _ (z : Keyed Node) (zs : Forest (Keyed Node)) (free : is_held_in id (Tree z zs Empty) ≡ false) where
    left-among : (index : ℕ) (m : Merge Node) → OnlyGoes m → IsLeftAlone id m → IsLeftAlone id (come_among index z zs m)
    left-among zero m only h = (free, h)
    left-among (suc position) End only h = (free, h)
    left-among (suc position) (Kept n c r) only h = (h.0, left-among position r only.1 h.1)
    left-among (suc position) (Turned was n c r) only h = absurd only
    left-among (suc position) (Gone n c r) only h = (h.0, left-among (suc position) r only h.1)
    left-among (suc position) (Come n c r) only h = absurd only

    left-new : (change : Merge Node → Merge Node) → ((m : Merge Node) → OnlyGoes m → IsLeftAlone id m → IsLeftAlone id (change m)) → (position : ℕ) (m : Merge Node)
        → OnlyGoes m → IsLeftAlone id m → IsLeftAlone id (from_new change position m)
    left-new change changes zero End only h = changes End only h
    left-new change changes zero (Kept n c r) only h = changes (Kept n c r) only h
    left-new change changes zero (Turned was n c r) only h = absurd only
    left-new change changes zero (Gone n c r) only h = (h.0, left-new change changes zero r only h.1)
    left-new change changes zero (Come n c r) only h = absurd only
    left-new change changes (suc position) End only h = tt
    left-new change changes (suc position) (Kept n c r) only h = (h.0, left-new change changes position r only.1 h.1)
    left-new change changes (suc position) (Turned was n c r) only h = absurd only
    left-new change changes (suc position) (Gone n c r) only h = (h.0, left-new change changes (suc position) r only h.1)
    left-new change changes (suc position) (Come n c r) only h = absurd only

    left-put : (path : List ℕ) (index : ℕ) (m : Merge Node) → OnlyGoes m → IsLeftAlone id m → IsLeftAlone id (put_at path index z zs m)
    left-put [] index End only h = tt
    left-put [] index (Kept n c r) only h = (left-among index c only.0 h.0, h.1)
    left-put [] index (Turned was n c r) only h = absurd only
    left-put [] index (Gone n c r) only h = (h.0, left-put [] index r only h.1)
    left-put [] index (Come n c r) only h = absurd only
    left-put (position ∷ path) index End only h = tt
    left-put (position ∷ path) index (Kept n c r) only h = (left-new (put_at path index z zs) (left-put path index) position c only.0 h.0, h.1)
    left-put (position ∷ path) index (Turned was n c r) only h = absurd only
    left-put (position ∷ path) index (Gone n c r) only h = (h.0, left-put (position ∷ path) index r only h.1)
    left-put (position ∷ path) index (Come n c r) only h = absurd only

  left-fragment : (path : List ℕ) (index : ℕ) (t : Forest (Keyed Node)) (m : Merge Node) → is_held_in id (alone t) ≡ false → OnlyGoes m → IsLeftAlone id m → IsLeftAlone id (put_fragment path index t m)
  left-fragment path index Empty m free only h = h
  left-fragment path index (Tree z zs after) m free only h = left-put z zs free path index m only h

  alone-again : (t : Forest (Keyed Node)) → alone (alone t) ≡ alone t
  alone-again Empty = refl
  alone-again (Tree n c r) = refl

  -- of the merge of an edit
  of-merge : (m : Merge Node) (old new : Forest (Keyed Node)) → old_of m ≡ old → new_of m ≡ new → IsLeftAlone id m → first_holder new id ≡ first_holder old id
  of-merge m old new was is h = ap (λ g. first_holder g id) (sym is) ∙ targets-stay id m h ∙ ap (λ g. first_holder g id) was

  of-relabelling : (path : List ℕ) (change : Keyed Node → Keyed Node) → ((n : Keyed Node) → (change n).key ≡ n.key) → (old new : Forest (Keyed Node)) → new ≡ relabelled_at path change old
      → is_held_in id (first_node (on_path path old)) ≡ false → is_held_in id (first_node (on_path path new)) ≡ false → first_holder new id ≡ first_holder old id
  of-relabelling path change key old new is left come =
      let there : on_path path new ≡ with_label change (on_path path old) = ap (on_path path) is ∙ on-changed (with_label change) path old refl in
      of-merge (turning change path old) old new (old-turning change path old) (new-turning change path old ∙ sym is)
      (left-at (first_turned change) path old (left-turned change key (on_path path old) left (ap (λ g. is_held_in id (first_node g)) (sym there) ∙ come)))

  of-edit : (edit : Edit) (old new : Forest (Keyed Node)) → IsDone edit old new → IsLeftAlone id (edit_merge edit old new) → first_holder new id ≡ first_holder old id
  of-edit edit old new done h = let merges = edits_merge edit old new done in of-merge (edit_merge edit old new) old new merges.old merges.new h

  pub others-keep : (edit : Edit) (old new : Forest (Keyed Node)) → IsDone edit old new → is_held_in id (leaving_nodes edit old) ≡ false → is_held_in id (coming_nodes edit new) ≡ false
      → first_holder new id ≡ first_holder old id
  others-keep (Insert parent index fragment) old new done left come =
      of-edit (Insert parent index fragment) old new done
      (left-fragment parent index (inserted_tree parent index new) (all_kept old) (ap (is_held_in id) (alone-again (on_path (parent ++ index ∷ []) new)) ∙ come) (only-all_kept old) (left-all_kept old))
  others-keep (Remove path) old new done left come =
      of-edit (Remove path) old new done (left-at first_gone path old (left-gone (on_path path old) left))
  others-keep (Move from parent index) old new done left come =
      of-edit (Move from parent index) old new done
      (left-fragment (once_out from parent) index (on_path from old) (removal from old) left (only-removal from old) (left-at first_gone from old (left-gone (on_path from old) left)))
  others-keep (SetAttr path name value) old new done left come =
      of-relabelling path (with_its_key (set_attr name value)) (λ n. refl) old new done.edited.keys left come
  others-keep (UnsetAttr path name) old new done left come =
      of-relabelling path (with_its_key (unset_attr name)) (λ n. refl) old new done.edited.keys left come
  others-keep (ReplaceSheet text) old new done left come = of-edit (ReplaceSheet text) old new done (left-all_kept old)
