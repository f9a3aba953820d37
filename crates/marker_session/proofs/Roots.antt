-- The root of a document is an element.
use Rattle.std.specs.Prelude.{ℕ, List}
use Rattle.xml_definitions.specs.Documents.{IsDocument, document}
use Rattle.xml_definitions.specs.Items.{Item}
use Rattle.xml_definitions.specs.Texts.{IsDocumentText}
use Rattle.forest.specs.Forest.{Forest}
use Rattle.node_arena.specs.Document.{HasElementRoot}
use Rattle.plain_types.specs.declared.node.Node.{Node}

pub document_element : (text : List ℕ) (tree : Forest Node) → IsDocumentText text tree → HasElementRoot tree
document_element text tree is = by is.allowed
  where
    by : {items : List Item} {other : Forest Node} → IsDocument items other → HasElementRoot other
    by (document after prolog element misc) = tt
