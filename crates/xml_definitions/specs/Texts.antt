-- Which texts have which trees.
use Rattle.std.specs.Prelude.{ℕ, List}
use Rattle.forest.specs.Forest.{Forest}
use Rattle.plain_types.specs.declared.node.Node.{Node}
use Rattle.xml_definitions.specs.Documents.{IsDocument}
use Rattle.xml_definitions.specs.Fragments.{IsFragment}
use Rattle.xml_definitions.specs.Items.{Item, ArePieces}
use Rattle.xml_definitions.specs.Normalized.{normalized}
use Rattle.xml_definitions.specs.Spelling.{Spells}

-- which lists of items are allowed, and of which trees
abbrev pub Grammar : Type 1
Grammar = List Item → Forest Node → Type 0

-- The characters spell items that the grammar allows, with this tree.
pub record HasTree (Allows : Grammar) (characters : List ℕ) (tree : Forest Node) : Type 0 where
  pub items : List Item
  pub spelled : ArePieces Spells characters items
  pub allowed : Allows items tree

-- the text is a document with this tree
abbrev pub IsDocumentText : List ℕ → Forest Node → Type 0
IsDocumentText text tree = HasTree IsDocument (normalized text) tree

-- the text is a fragment with this tree
abbrev pub IsFragmentText : List ℕ → Forest Node → Type 0
IsFragmentText text tree = HasTree IsFragment (normalized text) tree
