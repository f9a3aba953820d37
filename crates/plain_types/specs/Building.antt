-- A tree that is being built.
use Rattle.std.specs.Prelude.{ℕ, ◌+◌, ◌≤◌, ◌==◌, ◌||◌, ◌&&◌, nat_lt, Bool, List, [], ◌∷◌, length}
use Rattle.plain_types.specs.Tree.{HasDistinctNames}
use Rattle.plain_types.specs.declared.node.Node.{Node}
use Rattle.plain_types.specs.declared.node.Node.TheVariants.{Element, Text}
use Rattle.plain_types.specs.declared.row.Row.{Row}

-- the nodes so far, and how many elements are begun and not ended
pub record Building : Type 0 where
  pub rows : List Row
  pub inside : ℕ

-- a node may come: there is none yet, or an element is begun and not ended
abbrev pub accepts_node : Building → Bool
accepts_node building = length building.rows == 0 || nat_lt 0 building.inside

-- an element is begun and not ended
abbrev pub is_inside : Building → Bool
is_inside building = nat_lt 0 building.inside

-- there is a node, and no element is left open
abbrev pub is_whole : Building → Bool
is_whole building = nat_lt 0 (length building.rows) && building.inside == 0

-- how deep the node after this one may be
abbrev pub depth_after : Node → ℕ → ℕ
depth_after (Element name attrs) depth = depth + 1
depth_after (Text characters) depth = depth

-- no node is deeper than the one before it allows
abbrev pub Fits : ℕ → List Row → Type 0
Fits bound [] = Unit {0}
Fits bound (first ∷ rest) = (first.depth ≤ bound) × Fits (depth_after first.node first.depth) rest

-- how deep a node may be that comes after all of these
abbrev pub bound_after : ℕ → List Row → ℕ
bound_after bound [] = bound
bound_after bound (first ∷ rest) = bound_after (depth_after first.node first.depth) rest

-- each node is below a root
abbrev pub AreDeep : List Row → Type 0
AreDeep [] = Unit {0}
AreDeep (first ∷ rest) = (1 ≤ first.depth) × AreDeep rest

-- only the first node is a root
abbrev pub HasOneRoot : List Row → Type 0
HasOneRoot [] = Unit {0}
HasOneRoot (first ∷ rest) = AreDeep rest

-- an element's attributes have distinct names
abbrev pub IsSoundNode : Node → Type 0
IsSoundNode (Element name attrs) = HasDistinctNames attrs
IsSoundNode (Text characters) = Unit {0}

-- so it is with each of the nodes
abbrev pub AreSoundNodes : List Row → Type 0
AreSoundNodes [] = Unit {0}
AreSoundNodes (first ∷ rest) = IsSoundNode first.node × AreSoundNodes rest

-- what always holds of a tree that is being built
pub record IsBuilding (all : List Row) (inside : ℕ) : Type 0 where
  pub fits : Fits 0 all
  pub bounded : inside ≤ bound_after 0 all
  pub one_root : HasOneRoot all
  pub counted : inside ≤ length all
  pub sound : AreSoundNodes all
