-- The node that a view shows, and a tree that is built node by node.
use Rattle.std.specs.Prelude.{◌≡◌, ℕ, ◌+◌, Bool, true, false, [], ◌∷◌, ◌++◌}
use Rattle.std.specs.Str.{chars}
use Rattle.plain_types.specs.Building.{Building}
use Rattle.plain_types.specs.Rows.{row}
use Rattle.plain_types.specs.declared.node.Node.{Node}
use Rattle.plain_types.specs.declared.node.Node.TheVariants.{Element, Text}
use Rattle.plain_types.specs.declared.node.NodeView.{NodeView}
use Rattle.plain_types.specs.declared.node.NodeView.TheVariants as view

abbrev pub shown_node : NodeView → Node
shown_node (view.Element name attrs) = Element (chars name.now) attrs.now
shown_node (view.Text characters) = Text (chars characters.now)

abbrev pub is_element : Node → Bool
is_element (Element name attrs) = true
is_element (Text characters) = false

-- how many elements are begun once this node is put
abbrev pub inside_after : Node → ℕ → ℕ
inside_after (Element name attrs) inside = inside + 1
inside_after (Text characters) inside = inside

-- the node was put, and it is an element or not
pub record PutsNode (old new : Building) (node : Node) (element : Bool) : Type 0 where
  pub built : new ≡ record { rows = old.rows ++ row old.inside node ∷ []; inside = inside_after node old.inside }
  pub kind : element ≡ is_element node
