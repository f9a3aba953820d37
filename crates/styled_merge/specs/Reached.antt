-- The merge of an edit where what the edit reaches goes and comes (our own): there styles can change.
use Rattle.std.specs.Prelude.{◌==◌, ◌||◌, ℕ, Bool, true, false, if◌then◌else◌}
use Rattle.forest.specs.Forest.{Forest}
use Rattle.forest.specs.Keys.{Keyed}
use Rattle.plain_types.specs.declared.edit.Edit.{Edit}
use Rattle.plain_types.specs.declared.node.Node.{Node}
use Rattle.plain_types.specs.declared.sheet.Features.{Features}
use Rattle.merged_walk.specs.Merges.{Merge, End, Kept, Turned, Gone, Come, old_of, new_of}
use Rattle.edit_merge.specs.EditMerges.{edit_merge}
use Rattle.style_reach.specs.Reaches.{reach}
use Rattle.style_reach.specs.declared.extent.Reach.{Reach}
use Rattle.style_reach.specs.declared.extent.Reach.TheVariants.{Own, Under, Both, All}

module _ {L : Type 0} (is_reached : ℕ → Bool) where
  -- each node with such a key goes and comes, and all under it
  abbrev pub reached : Merge L → Merge L
  reached End = End
  reached (Kept node children after) =
      if is_reached node.key then Gone node (old_of children) (Come node (new_of children) (reached after))
      else Kept node (reached children) (reached after)
  reached (Turned was node children after) =
      if is_reached was.key then Gone was (old_of children) (Come node (new_of children) (reached after))
      else Turned was node (reached children) (reached after)
  reached (Gone node children after) = Gone node children (reached after)
  reached (Come node children after) = Come node children (reached after)

-- a reach is all that stands in this node, or in another
abbrev pub begins_at : Reach → ℕ → Bool
begins_at Own key = false
begins_at (Under top) key = top == key
begins_at (Both first second) key = (first == key) || (second == key)
begins_at All key = true

-- the merge of an edit, where what it reaches goes and comes
abbrev pub reached_merge : Features → Edit → (old new : Forest (Keyed Node)) → Merge Node
reached_merge features edit old new = reached (begins_at (reach features old edit)) (edit_merge edit old new)
