-- The tree of a document that was read.
use Rattle.std.proofs.Common.{◌≡◌, ℕ, ◌*◌, List, sym, ap}
use Rattle.std.specs.Prelude.{Ok, Err}
use Rattle.xml_definitions.specs.Documents.{IsDocument, document}
use Rattle.xml_definitions.specs.Items.{Item}
use Rattle.xml_definitions.specs.Texts.{IsDocumentText}
use Rattle.document_walk.specs.Elements.{element_count}
use Rattle.forest.specs.Forest.{Forest}
use Rattle.node_arena.specs.Document.{HasElementRoot}
use Rattle.plain_types.specs.declared.node.Node.{Node}
use Rattle.marker_cli.specs.Aspects.{most_steps}
use Rattle.marker_cli.specs.Documents.{Reading, tree_of}

-- the root of a document is an element
pub document_element : (text : List ℕ) (tree : Forest Node) → IsDocumentText text tree → HasElementRoot tree
document_element text tree is = by is.allowed
  where
    by : {items : List Item} {other : Forest Node} → IsDocument items other → HasElementRoot other
    by (document after prolog element misc) = tt

-- an evaluation of the tree that a text has
pub most_of : (reading : Reading) (tree : Forest Node) → tree_of reading ≡ Ok tree → 8 * element_count tree ≡ most_steps reading
most_of (Ok other) tree is = let same : other ≡ tree = cc is in ap (λ t. 8 * element_count t) (sym same)
most_of (Err place) tree is = absurd (cc is)
