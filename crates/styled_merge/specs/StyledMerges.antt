-- A merge with the styles and the starts of its elements (our own): of those that are kept or go the old ones, and of
-- those that come the new ones.
use Rattle.std.specs.Prelude.{ℕ, ℤ, List, Option}
use Rattle.forest.specs.Keys.{Keyed}
use Rattle.plain_types.specs.declared.box_id.BoxId.{BoxId}
use Rattle.plain_types.specs.declared.node.Node.{Node}
use Rattle.plain_types.specs.declared.style.ElementStyle.{ElementStyle}
use Rattle.plain_types.specs.declared.style.Style.{Style}
use Rattle.box_eval.specs.Evaluation.{StyledNode, styled_node, style_within, styled_trees}
use Rattle.merged_walk.specs.Merges.{Merge, End, Kept, Turned, Gone, Come}

-- the styles of the element of a key, where its parent has this style
abbrev pub Styling : Type 0
Styling = ℕ → Option Style → ElementStyle

-- the start of the reversed counter of a name that a box creates
abbrev pub Starting : Type 0
Starting = BoxId → List ℕ → ℤ

-- a node with its styles and starts, where its parent has this style
abbrev pub styled_by : Styling → Starting → Option Style → Keyed Node → Keyed StyledNode
styled_by style start parent node = record { key = node.key; label = styled_node style start parent node.key node.label }

module _ (old new : Styling) (was_start start : Starting) where
  -- the parent of the level has this style
  abbrev pub styled_merge : Option Style → Merge Node → Merge StyledNode
  styled_merge parent End = End
  styled_merge parent (Kept node children after) =
      Kept (styled_by old was_start parent node)
      (styled_merge (style_within old was_start parent node.key node.label) children)
      (styled_merge parent after)
  styled_merge parent (Turned was node children after) =
      Turned (styled_by old was_start parent was) (styled_by new start parent node)
      (styled_merge (style_within old was_start parent was.key was.label) children)
      (styled_merge parent after)
  styled_merge parent (Gone node children after) =
      Gone (styled_by old was_start parent node)
      (styled_trees old was_start (style_within old was_start parent node.key node.label) children)
      (styled_merge parent after)
  styled_merge parent (Come node children after) =
      Come (styled_by new start parent node)
      (styled_trees new start (style_within new start parent node.key node.label) children)
      (styled_merge parent after)
