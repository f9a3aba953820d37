-- The `style` attributes of elements: HTML, "The style attribute".
use Rattle.std.specs.Prelude.{ℕ, List, [], codes}
use Rattle.std.specs.Option.{option_map_or}
use Rattle.forest.specs.Forest.{Forest}
use Rattle.forest.specs.Keys.{Keyed}
use Rattle.plain_types.specs.declared.declaration.Declared.{Declared}
use Rattle.plain_types.specs.declared.node.Node.{Node}
use Rattle.node_arena.specs.Nodes.{attr_of}
use Rattle.css_reader.specs.Sheets.{inline_declarations}

-- the declarations of the node's `style` attribute; a node without one has none
abbrev pub inline_of : Forest (Keyed Node) → ℕ → List Declared
inline_of tree key = option_map_or inline_declarations (attr_of tree key (codes "style")) []
