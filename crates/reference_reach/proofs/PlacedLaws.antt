-- What the merge of an edit enters is at its places or above them.
use Rattle.std.proofs.Common.{◌≡◌, ℕ, Bool, List, [], ◌∷◌, ◌++◌, refl, sym, ap, subst, ◌∙◌}
use Rattle.std.specs.Prelude.{flat_map}
use Rattle.forest.specs.Forest.{Forest, Empty, Tree}
use Rattle.forest.specs.Keys.{Keyed}
use Rattle.forest.specs.Paths.{on_path}
use Rattle.plain_types.specs.declared.edit.Edit.{Edit}
use Rattle.plain_types.specs.declared.edit.Edit.TheVariants.{Insert, Remove, Move, SetAttr, UnsetAttr, ReplaceSheet}
use Rattle.plain_types.specs.declared.node.Node.{Node}
use Rattle.node_arena.specs.AtPaths.{once_out, relabelled_at, with_label}
use Rattle.node_arena.specs.Changes.{alone}
use Rattle.node_arena.specs.Edits.{set_attr, unset_attr, with_its_key}
use Rattle.node_arena.proofs.AtPathLaws.{on-changed}
use Rattle.merged_walk.specs.Edits.{insertion, put_fragment, relabelling, removal}
use Rattle.merged_walk.specs.Merges.{Merge, all_kept, new_of}
use Rattle.edit_merge.specs.EditMerges.{edit_merge, inserted_tree}
use Rattle.edit_merge.specs.Laws.{IsDone}
use Rattle.edit_merge.proofs.EditLaws.{edits_merge, inserted}
use Rattle.edit_work.specs.KeyedSources.{elements_in}
use Rattle.edit_work.specs.Places.{ancestors_at, around_place, elements_at, paths_after, paths_before, paths_coming, preceding_at, up_to_box}
use Rattle.reference_reach.specs.MergedNodes.{entered_elements}
use Rattle.reference_reach.proofs.EnteredLaws.{entered-all_kept, entered-put, entered-relabelling, entered-removal, keys_above, only-all_kept, only-removal}
use Rattle.reference_reach.proofs.Lists.{Within, both-within, left-within, nothing-within, right-within, same-within, sum-within, through-within}

module _ (edit : Edit) (old new : Forest (Keyed Node)) where
  abbrev pub at_places : List ℕ
  at_places = flat_map (elements_at old) (paths_before edit) ++ flat_map (elements_at new) (paths_after edit)

  abbrev pub above_places : List ℕ
  above_places = flat_map (ancestors_at old) (paths_before edit) ++ flat_map (ancestors_at new) (paths_coming edit)

  -- the elements that its merge enters are there
  abbrev pub IsThere : Type 0
  IsThere = Within (entered_elements (edit_merge edit old new)) (at_places ++ above_places)

-- what is at one place
one-place : (f : List ℕ → List ℕ) (path : List ℕ) → Within (f path) (flat_map f (path ∷ []))
one-place f path = left-within (f path) []

there-removal : (path : List ℕ) (old new : Forest (Keyed Node)) → IsThere (Remove path) old new
there-removal path old new =
    through-within (entered-removal path old)
    (through-within (one-place (ancestors_at old) path)
    (through-within (left-within (flat_map (ancestors_at old) (path ∷ [])) [])
    (right-within (at_places (Remove path) old new) (above_places (Remove path) old new))))

there-relabelling : (path : List ℕ) (change : Keyed Node → Keyed Node) (old new : Forest (Keyed Node)) → new ≡ relabelled_at path change old
    → Within (entered_elements (relabelling path change old))
    ((flat_map (elements_at old) (path ∷ []) ++ flat_map (elements_at new) (path ∷ [])) ++ (flat_map (ancestors_at old) (path ∷ []) ++ []))
there-relabelling path change old new is =
    let placed : List ℕ = flat_map (elements_at old) (path ∷ []) ++ flat_map (elements_at new) (path ∷ []) in
    let over : List ℕ = flat_map (ancestors_at old) (path ∷ []) ++ [] in
    let there : with_label change (on_path path old) ≡ on_path path new = sym (ap (on_path path) is ∙ on-changed (with_label change) path old refl) in
    let now : elements_in (alone (with_label change (on_path path old))) ≡ elements_at new path = ap (λ g. elements_in (alone g)) there in
    through-within (entered-relabelling change path old)
    (both-within (keys_above path old) (elements_in (alone (with_label change (on_path path old))))
    (through-within (one-place (ancestors_at old) path) (through-within (left-within (flat_map (ancestors_at old) (path ∷ [])) []) (right-within placed over)))
    (through-within (same-within (elements_in (alone (with_label change (on_path path old)))) (elements_at new path) now)
    (through-within (one-place (elements_at new) path)
    (through-within (right-within (flat_map (elements_at old) (path ∷ [])) (flat_map (elements_at new) (path ∷ []))) (left-within placed over)))))

there-insertion : (parent : List ℕ) (index : ℕ) (fragment : Forest Node) (old new : Forest (Keyed Node)) → IsDone (Insert parent index fragment) old new → IsThere (Insert parent index fragment) old new
there-insertion parent index fragment old new done =
    let its = inserted parent index fragment old new done in
    let place : List ℕ = parent ++ index ∷ [] in
    let tree : Forest (Keyed Node) = inserted_tree parent index new in
    let put : Within (entered_elements (insertion parent index tree old)) (elements_in tree ++ (keys_above place (new_of (insertion parent index tree old)) ++ entered_elements (all_kept old))) =
    subst (λ t. Within (entered_elements (insertion parent index t old)) (elements_in t ++ (keys_above place (new_of (insertion parent index t old)) ++ entered_elements (all_kept old)))) (sym its.tree)
    (entered-put its.root its.children parent index (all_kept old) (only-all_kept old)) in
    let placed : List ℕ = at_places (Insert parent index fragment) old new in
    let over : List ℕ = above_places (Insert parent index fragment) old new in
    let is : keys_above place (new_of (insertion parent index tree old)) ≡ ancestors_at new place = ap (keys_above place) (edits_merge (Insert parent index fragment) old new done).new in
    through-within put
    (both-within (elements_in tree) (keys_above place (new_of (insertion parent index tree old)) ++ entered_elements (all_kept old))
    (through-within (one-place (elements_at new) place) (left-within placed over))
    (both-within (keys_above place (new_of (insertion parent index tree old))) (entered_elements (all_kept old))
    (through-within (same-within (keys_above place (new_of (insertion parent index tree old))) (ancestors_at new place) is)
    (through-within (one-place (ancestors_at new) place) (right-within placed over)))
    (through-within (same-within (entered_elements (all_kept old)) [] (entered-all_kept old)) (nothing-within (placed ++ over)))))

-- a tree that goes and comes
put-moved : (path : List ℕ) (index : ℕ) (from : List ℕ) (old : Forest (Keyed Node)) (t : Forest (Keyed Node))
    → Within (entered_elements (put_fragment path index t (removal from old)))
    (elements_in (alone t) ++ (keys_above (path ++ index ∷ []) (new_of (put_fragment path index t (removal from old))) ++ entered_elements (removal from old)))
put-moved path index from old Empty =
    right-within (keys_above (path ++ index ∷ []) (new_of (removal from old))) (entered_elements (removal from old))
put-moved path index from old (Tree z zs after) = entered-put z zs path index (removal from old) (only-removal from old)

there-moving : (from parent : List ℕ) (index : ℕ) (old new : Forest (Keyed Node)) → IsDone (Move from parent index) old new → IsThere (Move from parent index) old new
there-moving from parent index old new done =
    let place : List ℕ = once_out from parent ++ index ∷ [] in
    let merge : Merge Node = put_fragment (once_out from parent) index (on_path from old) (removal from old) in
    let placed : List ℕ = at_places (Move from parent index) old new in
    let over : List ℕ = above_places (Move from parent index) old new in
    let was : List ℕ = flat_map (ancestors_at old) (from ∷ []) in
    let now : List ℕ = flat_map (ancestors_at new) (place ∷ []) in
    let is : keys_above place (new_of merge) ≡ ancestors_at new place = ap (keys_above place) (edits_merge (Move from parent index) old new done).new in
    through-within (put-moved (once_out from parent) index from old (on_path from old))
    (both-within (elements_at old from) (keys_above place (new_of merge) ++ entered_elements (removal from old))
    (through-within (one-place (elements_at old) from)
    (through-within (left-within (flat_map (elements_at old) (from ∷ [])) (flat_map (elements_at new) (place ∷ []))) (left-within placed over)))
    (both-within (keys_above place (new_of merge)) (entered_elements (removal from old))
    (through-within (same-within (keys_above place (new_of merge)) (ancestors_at new place) is)
    (through-within (one-place (ancestors_at new) place) (through-within (right-within was now) (right-within placed over))))
    (through-within (entered-removal from old)
    (through-within (one-place (ancestors_at old) from) (through-within (left-within was now) (right-within placed over))))))

pub there : (edit : Edit) (old new : Forest (Keyed Node)) → IsDone edit old new → IsThere edit old new
there (Insert parent index fragment) old new done = there-insertion parent index fragment old new done
there (Remove path) old new done = there-removal path old new
there (Move from parent index) old new done = there-moving from parent index old new done
there (SetAttr path name value) old new done = there-relabelling path (with_its_key (set_attr name value)) old new done.edited.keys
there (UnsetAttr path name) old new done = there-relabelling path (with_its_key (unset_attr name)) old new done.edited.keys
there (ReplaceSheet text) old new done =
    through-within (same-within (entered_elements (all_kept old)) [] (entered-all_kept old)) (nothing-within (at_places (ReplaceSheet text) old new ++ above_places (ReplaceSheet text) old new))

-- what is above places is around them
pub above-around : (tree : Forest (Keyed Node)) (has_box : ℕ → Bool) (paths : List (List ℕ)) → Within (flat_map (ancestors_at tree) paths) (flat_map (around_place tree has_box) paths)
above-around tree has_box [] = nothing-within []
above-around tree has_box (path ∷ paths) =
    sum-within (ancestors_at tree path) (flat_map (ancestors_at tree) paths) (around_place tree has_box path) (flat_map (around_place tree has_box) paths)
    (left-within (ancestors_at tree path) (up_to_box has_box (preceding_at tree path))) (above-around tree has_box paths)
