-- What is listed under the points of work, weighed. Throughout, w is a weight.
use Rattle.std.proofs.Common.{◌≡◌, ◌+◌, ◌≤◌, ℕ, Bool, List, [], ◌∷◌, ◌++◌, sym, ap, subst, ◌∙◌, arith}
use Rattle.std.specs.Prelude.{filter, flat_map, sum_by}
use Rattle.std.proofs.lemmas.List.Sums.{sum_by-append}
use Rattle.forest.specs.Forest.{Forest}
use Rattle.forest.specs.Keys.{Keyed}
use Rattle.plain_types.specs.declared.edit.Edit.{Edit}
use Rattle.plain_types.specs.declared.node.Node.{Node}
use Rattle.node_arena.specs.Changes.{alone}
use Rattle.node_arena.specs.Document.{IsKeyedDocument}
use Rattle.edit_merge.specs.EditMerges.{is_element}
use Rattle.edit_merge.proofs.PlaceLaws.{one-root}
use Rattle.merged_walk.specs.Evaluators.{count_of_elements, weigh_elements}
use Rattle.merged_walk.proofs.WorkLaws.{elements-within}
use Rattle.style_reach.specs.declared.extent.Reach.{Reach}
use Rattle.style_reach.specs.declared.extent.Reach.TheVariants.{Own, All}
use Rattle.edit_work.specs.Inputs.{differs}
use Rattle.edit_work.specs.KeyedSources.{KeyedSource, child_elements, either, elements_in, weight}
use Rattle.edit_work.specs.Places.{ancestors_at, around_place, elements_at, new_places, paths_after, paths_before, paths_coming, places, preceding_at, up_to_box}
use Rattle.edit_work.specs.Work.{around_places, differing, edit_reach, has_box_in, placed, walk_work, work}
use Rattle.edit_work.proofs.Sums.{other_weight, sum-differing, sum-elements, sum-more}
use Rattle.edit_work.proofs.Touched.{own_ancestors, own_placed, sum-both}

module _ (w : ℕ → ℕ) where
  -- what is around places has their ancestors
  ancestors-around : (tree : Forest (Keyed Node)) (has_box : ℕ → Bool) (paths : List (List ℕ)) → sum_by w (flat_map (ancestors_at tree) paths) ≤ sum_by w (flat_map (around_place tree has_box) paths)
  ancestors-around tree has_box [] = omega arith
  ancestors-around tree has_box (path ∷ paths) =
      omega (
        arith,
        sum_by-append w (ancestors_at tree path) (flat_map (ancestors_at tree) paths),
        sum_by-append w (around_place tree has_box path) (flat_map (around_place tree has_box) paths),
        sum_by-append w (ancestors_at tree path) (up_to_box has_box (preceding_at tree path)),
        ancestors-around tree has_box paths,
      )

  pub both-around : (old new : Forest (Keyed Node)) (was_box box : ℕ → Bool) (before after : List (List ℕ))
      → sum_by w (flat_map (ancestors_at old) before ++ flat_map (ancestors_at new) after) ≤ sum_by w (flat_map (around_place old was_box) before ++ flat_map (around_place new box) after)
  both-around old new was_box box before after =
      omega (
        arith,
        sum_by-append w (flat_map (ancestors_at old) before) (flat_map (ancestors_at new) after),
        sum_by-append w (flat_map (around_place old was_box) before) (flat_map (around_place new box) after),
        ancestors-around old was_box before,
        ancestors-around new box after,
      )

module _ (edit : Edit) (before after : KeyedSource) where
  -- the places, where the reach is this one
  abbrev pub placed_by : Reach → List ℕ
  placed_by reach = flat_map (elements_at before.tree) (places reach (paths_before edit) before.tree) ++ flat_map (elements_at after.tree) (places reach (paths_after edit) after.tree)

  abbrev pub around_by : Reach → List ℕ
  around_by reach =
      flat_map (around_place before.tree (has_box_in before)) (places reach (paths_before edit) before.tree)
      ++ flat_map (around_place after.tree (has_box_in after)) (new_places reach edit)

  pub placed-is : (reach : Reach) → edit_reach edit before after ≡ reach → placed edit before after ≡ placed_by reach
  unfolding placed
  placed-is reach is = ap placed_by is

  pub around-is : (reach : Reach) → edit_reach edit before after ≡ reach → around_places edit before after ≡ around_by reach
  unfolding around_places
  around-is reach is = ap around_by is

  -- an edit that reaches nothing else has its own places
  pub placed-own : edit_reach edit before after ≡ Own → placed edit before after ≡ own_placed edit before.tree after.tree
  placed-own own = placed-is Own own

  pub around-own : (w : ℕ → ℕ) → edit_reach edit before after ≡ Own → sum_by w (own_ancestors edit before.tree after.tree) ≤ sum_by w (around_places edit before after)
  around-own w own =
      subst (λ keys. sum_by w (own_ancestors edit before.tree after.tree) ≤ sum_by w keys) (sym (around-is Own own))
      (both-around w before.tree after.tree (has_box_in before) (has_box_in after) (paths_before edit) (paths_coming edit))

  -- the elements that differ are among those listed
  pub differing-few : (w : ℕ → ℕ) → weigh_elements is_element (other_weight w (differs before after)) after.tree ≤ sum_by w (differing edit before after)
  unfolding differing
  differing-few w =
      let keys = filter (differs before after) (elements_in after.tree) in
      omega (arith, sum-differing w (differs before after) after.tree, sum-more w (λ key. either (child_elements before.tree key) (child_elements after.tree key)) keys)

  -- what pays for walks has three points
  pub walk-least : let w : ℕ → ℕ = weight before after in (sum_by w (placed edit before after) + sum_by w (differing edit before after) + sum_by w (around_places edit before after)) ≤ walk_work edit before after
  unfolding walk_work
  walk-least =
      let w = weight before after in
      let one = placed edit before after in
      let two = differing edit before after in
      let three = around_places edit before after in
      omega (arith, sum_by-append w one (two ++ three), sum_by-append w two three)

  -- and is within the work
  pub walk-work-within : walk_work edit before after ≤ work edit before after
  unfolding work
  walk-work-within = omega arith

-- where an edit reaches everywhere, all elements are at its places
module _ (w : ℕ → ℕ) (heavy : (k : ℕ) → 1 ≤ w k) where
  whole-alone : (tree : Forest (Keyed Node)) → IsKeyedDocument tree → alone tree ≡ tree
  whole-alone tree document = let root = one-root tree document.is_tree.one in ap alone root.2 ∙ sym root.2

  all-at : (tree : Forest (Keyed Node)) → IsKeyedDocument tree → count_of_elements is_element tree ≤ sum_by w (elements_at tree [])
  all-at tree document =
      subst (λ g. count_of_elements is_element g ≤ sum_by w (elements_at tree [])) (whole-alone tree document)
      (omega (arith, sum-elements w (alone tree), elements-within is_element w heavy (alone tree)))

  pub all-placed : (edit : Edit) (before after : KeyedSource) → IsKeyedDocument before.tree → IsKeyedDocument after.tree → edit_reach edit before after ≡ All
      → (count_of_elements is_element before.tree + count_of_elements is_element after.tree) ≤ sum_by w (placed edit before after)
  all-placed edit before after was document all =
      subst (λ keys. (count_of_elements is_element before.tree + count_of_elements is_element after.tree) ≤ sum_by w keys) (sym (placed-is edit before after All all))
      (omega (arith, sum-both w (elements_at before.tree) (elements_at after.tree) ([] ∷ []) ([] ∷ []), all-at before.tree was, all-at after.tree document))
