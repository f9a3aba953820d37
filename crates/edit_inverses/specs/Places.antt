-- Positions on paths (our own).
use Rattle.std.specs.Prelude.{ℕ, List, length, Option, None, slice_get, if◌then◌else◌}
use Rattle.node_arena.specs.AtPaths.{leads_into}

-- the position that a path has among the children of the node at another, where it leads to one of these or under it
abbrev pub position_below : List ℕ → List ℕ → Option ℕ
position_below parent path = if leads_into parent path then slice_get path (length parent) else None
