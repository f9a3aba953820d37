-- Fragments, of which edits insert one at a time (our own).
use Rattle.forest.specs.Forest.{Forest}
use Rattle.std.specs.Prelude.{List}
use Rattle.plain_types.specs.Tree.{IsOne}
use Rattle.plain_types.specs.declared.node.Node.{Node}
use Rattle.xml_definitions.specs.Documents.{IsContent}
use Rattle.xml_definitions.specs.Items.{Item}

-- the items are content, and its tree has one node with what is in it
pub record IsFragment (items : List Item) (tree : Forest Node) : Type 0 where
  pub content : IsContent items tree
  pub one : IsOne tree
