-- What the merge of an edit leads to, what comes and what goes: it is at the places of the edit, or above them.
-- Throughout, w is a weight.
use Rattle.std.proofs.Common.{◌≡◌, ◌+◌, ◌≤◌, ℕ, List, [], ◌∷◌, ◌++◌, refl, sym, subst, arith}
use Rattle.std.specs.Prelude.{sum_by, flat_map}
use Rattle.std.proofs.lemmas.List.Sums.{sum_by-append, sum_by-cons}
use Rattle.forest.specs.Forest.{Forest, Empty, Tree}
use Rattle.forest.specs.Keys.{Keyed, without_keys}
use Rattle.forest.specs.Paths.{on_path}
use Rattle.plain_types.specs.declared.edit.Edit.{Edit}
use Rattle.plain_types.specs.declared.edit.Edit.TheVariants.{Insert, Remove, Move, SetAttr, UnsetAttr, ReplaceSheet}
use Rattle.plain_types.specs.declared.node.Node.{Node}
use Rattle.node_arena.specs.AtPaths.{inserted_at, moved, once_out, relabelled_at, removed_at}
use Rattle.node_arena.specs.Changes.{alone}
use Rattle.node_arena.specs.Edits.{set_attr, unset_attr, with_its_key}
use Rattle.node_arena.proofs.MoveLaws.{inner-long}
use Rattle.node_arena.proofs.PrepareLaws.{allowed-move}
use Rattle.merged_walk.specs.Merges.{Merge}
use Rattle.merged_walk.specs.Counts.{come_count, gone_count, led_count, place_count}
use Rattle.merged_walk.specs.Edits.{insertion, moving, relabelling, removal}
use Rattle.merged_walk.specs.EditStops.{HasRoom, NamesNode, on_way}
use Rattle.merged_walk.specs.Evaluators.{count_of_elements}
use Rattle.merged_walk.proofs.CountLaws.{weigh-all_kept}
use Rattle.merged_walk.proofs.WorkLaws.{led-all_kept, touched-insertion, touched-moving, touched-relabelling, touched-removal}
use Rattle.edit_merge.specs.EditMerges.{edit_merge, is_element}
use Rattle.edit_merge.specs.Laws.{IsDone}
use Rattle.edit_merge.proofs.EditLaws.{inserted}
use Rattle.edit_merge.proofs.PlaceLaws.{both-are, element-there, named, node-there, room-once_out, room-there}
use Rattle.edit_work.specs.Places.{ancestors_at, elements_at, paths_after, paths_before, paths_coming}
use Rattle.edit_work.proofs.Sums.{sum-elements, sum-keys}

module _ (edit : Edit) (old new : Forest (Keyed Node)) where
  -- the elements at the places of an edit that reaches nothing else, and those above these
  abbrev pub own_placed : List ℕ
  own_placed = flat_map (elements_at old) (paths_before edit) ++ flat_map (elements_at new) (paths_after edit)

  abbrev pub own_ancestors : List ℕ
  own_ancestors = flat_map (ancestors_at old) (paths_before edit) ++ flat_map (ancestors_at new) (paths_coming edit)

module _ (w : ℕ → ℕ) where
  sum-each : {X : Type 0} (f : X → List ℕ) (xs : List X) → sum_by w (flat_map f xs) ≡ sum_by (λ x. sum_by w (f x)) xs
  sum-each f [] = refl
  sum-each f (x ∷ xs) = omega (arith, sum_by-append w (f x) (flat_map f xs), sum_by-cons (λ x. sum_by w (f x)) x xs, sum-each f xs)

  pub sum-both : {X : Type 0} (f g : X → List ℕ) (xs ys : List X)
      → sum_by w (flat_map f xs ++ flat_map g ys) ≡ sum_by (λ x. sum_by w (f x)) xs + sum_by (λ y. sum_by w (g y)) ys
  sum-both f g xs ys = omega (arith, sum_by-append w (flat_map f xs) (flat_map g ys), sum-each f xs, sum-each g ys)

  -- a merge has two places at most, and what it leads to, what comes and what goes is at the places of the edit or above
  pub record AreCounted (m : Merge Node) (edit : Edit) (old new : Forest (Keyed Node)) : Type 0 where
    pub places : place_count m ≤ 2
    pub few : (led_count m + come_count is_element m + gone_count is_element m) ≤ sum_by w (own_placed edit old new) + sum_by w (own_ancestors edit old new)

module _ (w : ℕ → ℕ) (heavy : (k : ℕ) → 1 ≤ w k) where
  counted-removal : (path : List ℕ) (old new : Forest (Keyed Node)) → AreCounted w (removal path old) (Remove path) old new
  counted-removal path old new =
      let its = touched-removal is_element w heavy path old in
      record {
        places = its.places;
        few =
            omega (
              arith,
              its.few,
              sum-both w (elements_at old) (elements_at new) (path ∷ []) [],
              sum-both w (ancestors_at old) (ancestors_at new) (path ∷ []) [],
              sum-elements w (alone (on_path path old)),
              sum-keys w (on_way path old),
            );
      }

  -- the same for both edits that change an attribute
  record AreRelabelled (path : List ℕ) (m : Merge Node) (old new : Forest (Keyed Node)) : Type 0 where
    places : place_count m ≤ 2
    few :
        (led_count m + come_count is_element m + gone_count is_element m)
        ≤ sum_by w (flat_map (elements_at old) (path ∷ []) ++ flat_map (elements_at new) (path ∷ []))
        + sum_by w (flat_map (ancestors_at old) (path ∷ []) ++ flat_map (ancestors_at new) [])

  relabelled-there : (path : List ℕ) (change : Keyed Node → Keyed Node) (old : Forest (Keyed Node)) → AreRelabelled path (relabelling path change old) old (relabelled_at path change old)
  relabelled-there path change old =
      let new = relabelled_at path change old in
      let its = touched-relabelling is_element w heavy path change old in
      record {
        places = its.places;
        few =
            omega (
              arith,
              its.few,
              sum-both w (elements_at old) (elements_at new) (path ∷ []) (path ∷ []),
              sum-both w (ancestors_at old) (ancestors_at new) (path ∷ []) [],
              sum-elements w (alone (on_path path old)),
              sum-elements w (alone (on_path path new)),
              sum-keys w (on_way path old),
            );
      }

  counted-relabelling : (path : List ℕ) (change : Keyed Node → Keyed Node) (old new : Forest (Keyed Node)) → new ≡ relabelled_at path change old → AreRelabelled path (relabelling path change old) old new
  counted-relabelling path change old new is = subst (AreRelabelled path (relabelling path change old) old) (sym is) (relabelled-there path change old)

  inserted-there : (parent : List ℕ) (index : ℕ) (fragment : Forest Node) (tree old : Forest (Keyed Node)) → HasRoom parent index old
      → AreCounted w (insertion parent index tree old) (Insert parent index fragment) old (inserted_at parent index tree old)
  inserted-there parent index fragment tree old room =
      let new = inserted_at parent index tree old in
      let place = parent ++ index ∷ [] in
      let its = touched-insertion is_element w heavy parent index tree old room in
      record {
        places = its.places;
        few =
            omega (
              arith,
              its.few,
              sum-both w (elements_at old) (elements_at new) [] (place ∷ []),
              sum-both w (ancestors_at old) (ancestors_at new) [] (place ∷ []),
              sum-elements w (alone (on_path place new)),
              sum-keys w (on_way place new),
            );
      }

  moved-there : (from parent : List ℕ) (index : ℕ) (old : Forest (Keyed Node)) → NamesNode from old → HasRoom (once_out from parent) index (removed_at from old)
      → AreCounted w (moving from parent index old) (Move from parent index) old (moved from parent index old)
  moved-there from parent index old names room =
      let new = moved from parent index old in
      let place = once_out from parent ++ index ∷ [] in
      let its = touched-moving is_element w heavy from parent index old names room in
      record {
        places = its.places;
        few =
            omega (
              arith,
              its.few,
              sum-both w (elements_at old) (elements_at new) (from ∷ []) (place ∷ []),
              sum-both w (ancestors_at old) (ancestors_at new) (from ∷ []) (place ∷ []),
              sum-elements w (alone (on_path from old)),
              sum-elements w (alone (on_path place new)),
              sum-keys w (on_way from old),
              sum-keys w (on_way place new),
            );
      }

  pub counted : (edit : Edit) (old new : Forest (Keyed Node)) → IsDone edit old new → AreCounted w (edit_merge edit old new) edit old new
  counted (Insert parent index fragment) old new done =
      let its = inserted parent index fragment old new done in
      let tree = Tree its.root its.children Empty in
      let room : HasRoom parent index old = (named parent old its.above.label its.above.children its.above.after its.above.on, room-there parent index old its.room) in
      subst (λ t. AreCounted w (insertion parent index t old) (Insert parent index fragment) old new) (sym its.tree)
      (subst (AreCounted w (insertion parent index tree old) (Insert parent index fragment) old) (sym its.is) (inserted-there parent index fragment tree old room))
  counted (Remove path) old new done = counted-removal path old new
  counted (Move from parent index) old new done =
      let can = allowed-move from parent index (without_keys old) done.allowed in
      let its = node-there from old (both-are _ _ can.0).1 in
      let room = room-once_out from parent index old (inner-long from (without_keys old) can.0) can.2 (element-there parent old can.1) can.3 in
      subst (AreCounted w (moving from parent index old) (Move from parent index) old) (sym done.edited.keys)
      (moved-there from parent index old (named from old its.label its.children its.after its.on) room)
  counted (SetAttr path name value) old new done =
      let its = counted-relabelling path (with_its_key (set_attr name value)) old new done.edited.keys in
      record { places = its.places; few = its.few }
  counted (UnsetAttr path name) old new done =
      let its = counted-relabelling path (with_its_key (unset_attr name)) old new done.edited.keys in
      record { places = its.places; few = its.few }
  counted (ReplaceSheet text) old new done = record {
    places = omega (arith, weigh-all_kept (λ _. 1) (λ _. 1) old);
    few = omega (arith, led-all_kept old, weigh-all_kept (λ _. 0) (count_of_elements is_element) old, weigh-all_kept (count_of_elements is_element) (λ _. 0) old);
  }
