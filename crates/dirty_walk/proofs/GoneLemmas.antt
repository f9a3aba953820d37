-- What is taken of a board goes in the merge of the edit.
use Rattle.std.proofs.Common.{◌≤◌, ◌≡◌, ℕ, zero, suc, Bool, true, false, List, [], ◌∷◌, length, refl, ap, arith}
use Rattle.std.proofs.lemmas.List.{length-map}
use Rattle.forest.specs.Forest.{Forest, Empty, Tree, labels}
use Rattle.forest.specs.Keys.{Keyed}
use Rattle.forest.specs.Paths.{on_path, trees_from}
use Rattle.plain_types.specs.declared.edit.Edit.{Edit}
use Rattle.plain_types.specs.declared.edit.Edit.TheVariants.{Insert, Remove, Move, SetAttr, UnsetAttr, ReplaceSheet}
use Rattle.plain_types.specs.declared.node.Node.{Node}
use Rattle.node_arena.specs.Changes.{alone}
use Rattle.merged_walk.specs.Counts.{gone_count}
use Rattle.merged_walk.specs.Edits.{first_gone, merged_at, merged_from}
use Rattle.merged_walk.specs.Evaluators.{count_of_elements}
use Rattle.merged_walk.specs.Merges.{Merge, End, Kept, Turned, Gone, Come, old_of}
use Rattle.edit_merge.specs.EditMerges.{edit_merge, is_element}
use Rattle.styled_merge.specs.Reached.{reached}
use Rattle.styled_merge.proofs.ReachedLaws.{at_kept, at_turned}
use Rattle.dirty_walk.specs.declared.exchange.ElementId.{ElementId}
use Rattle.dirty_walk.specs.Exchanges.{elements_in, leaving, taken_keys}
use Rattle.kept_elements.proofs.SaidLemmas.{weigh-labels}
use Rattle.dirty_walk.proofs.TakenLemmas.{count-elements, one_element}

-- The elements of the tree that is removed go.

on-none : (path : List ℕ) → on_path {L = Keyed Node} path Empty ≡ Empty
on-none [] = refl
on-none (position ∷ path) = refl

abbrev going : List ℕ → Forest (Keyed Node) → ℕ
going path trees = count_of_elements is_element (alone (on_path path trees))

going-from : (path : List ℕ) → ((trees : Forest (Keyed Node)) → going path trees ≤ gone_count is_element (merged_at first_gone path trees)) → (position : ℕ) (trees : Forest (Keyed Node))
    → going path (trees_from position trees) ≤ gone_count is_element (merged_from (merged_at first_gone path) position trees)
going-from path each zero trees = each trees
going-from path each (suc position) Empty = omega (arith, ap (λ (t : Forest (Keyed Node)). count_of_elements is_element (alone t)) (on-none path))
going-from path each (suc position) (Tree node children after) = omega (arith, going-from path each position after)

going-gone : (path : List ℕ) (trees : Forest (Keyed Node)) → going path trees ≤ gone_count is_element (merged_at first_gone path trees)
going-gone [] Empty = omega arith
going-gone [] (Tree node children after) = omega arith
going-gone (position ∷ path) Empty = omega arith
going-gone (position ∷ path) (Tree node children after) = omega (arith, going-from path (going-gone path) position children)

-- what is taken goes in the merge of the edit
pub taken_gone : (edit : Edit) (old new : Forest (Keyed Node)) → length (taken_keys edit (elements_in (leaving edit old))) ≤ gone_count is_element (edit_merge edit old new)
taken_gone (Insert parent index fragment) old new = omega arith
taken_gone (Remove path) old new =
    let gone : Forest (Keyed Node) = alone (on_path path old) in
    omega (arith, length-map (elements_in gone) (λ (element : ElementId). element.key), count-elements (labels gone), weigh-labels one_element gone, going-gone path old)
taken_gone (Move from parent index) old new = omega arith
taken_gone (SetAttr path name value) old new = omega arith
taken_gone (UnsetAttr path name) old new = omega arith
taken_gone (ReplaceSheet text) old new = omega arith

-- What goes in the merge of an edit goes where what is reached does too. Throughout, n is a node, c what is under it, r what
-- is after it, and m a merge.

gone-within : (m : Merge Node) → gone_count is_element m ≤ count_of_elements is_element (old_of m)
gone-within End = omega arith
gone-within (Kept n c r) = omega (arith, gone-within c, gone-within r)
gone-within (Turned was n c r) = omega (arith, gone-within c, gone-within r)
gone-within (Gone n c r) = omega (arith, gone-within r)
gone-within (Come n c r) = omega (arith, gone-within r)

pub gone-reached : (is_reached : ℕ → Bool) (m : Merge Node) → gone_count is_element m ≤ gone_count is_element (reached is_reached m)
gone-reached is_reached End = omega arith
gone-reached is_reached (Kept n c r) =
    elim (is_reached n.key) as (λ b. gone_count is_element (Kept n c r) ≤ gone_count is_element (at_kept is_reached b n c r)) [
      | true ↦ omega (arith, gone-within c, gone-reached is_reached r)
      | false ↦ omega (arith, gone-reached is_reached c, gone-reached is_reached r)
    ]
gone-reached is_reached (Turned was n c r) =
    elim (is_reached was.key) as (λ b. gone_count is_element (Turned was n c r) ≤ gone_count is_element (at_turned is_reached b was n c r)) [
      | true ↦ omega (arith, gone-within c, gone-reached is_reached r)
      | false ↦ omega (arith, gone-reached is_reached c, gone-reached is_reached r)
    ]
gone-reached is_reached (Gone n c r) = omega (arith, gone-reached is_reached r)
gone-reached is_reached (Come n c r) = omega (arith, gone-reached is_reached r)
