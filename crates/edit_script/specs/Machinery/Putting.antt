-- Trees put at the end of what is built.
use Rattle.std.specs.Prelude.{◌++◌}
use Rattle.forest.specs.Forest.{Forest}
use Rattle.plain_types.specs.Building.{Building}
use Rattle.plain_types.specs.Rows.{rows}
use Rattle.plain_types.specs.declared.node.Node.{Node}

-- the same element is open, and these trees come last in it
abbrev pub with_trees : Building → Forest Node → Building
with_trees building trees = record { rows = building.rows ++ rows building.inside trees; inside = building.inside }
