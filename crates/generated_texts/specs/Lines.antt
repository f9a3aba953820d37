-- The lines of a dump (our own): one for each marker, before and after box, in tree order.
use Rattle.std.specs.Prelude.{ℕ, List, [], ◌∷◌, ◌++◌, Option}
use Rattle.std.specs.Option.{option_map_or}
use Rattle.forest.specs.Forest.{Forest, Empty, Tree}
use Rattle.forest.specs.Keys.{Keyed, numbered}
use Rattle.forest.specs.Paths.{path_of}
use Rattle.plain_types.specs.declared.box_kind.BoxKind.{BoxKind}
use Rattle.plain_types.specs.declared.box_kind.BoxKind.TheVariants.{Marker, Before, After}
use Rattle.plain_types.specs.declared.node.Node.{Node}
use Rattle.dump_definitions.specs.Dump.{Line, dump}
use Rattle.generated_texts.specs.declared.entry.BoxText.{BoxText}
use Rattle.generated_texts.specs.declared.entry.NodeEntry.{NodeEntry}
use Rattle.generated_texts.specs.Entries.{document_entries}
use Rattle.generated_texts.specs.References.{kept_at}
use Rattle.generated_texts.specs.StyleElements.{author_sheet}

module _ (document : Forest (Keyed Node)) where
  -- the line of a box of the node of this key, where it has the box
  abbrev pub lines_of : ℕ → BoxKind → Option BoxText → List Line
  lines_of key kind box = option_map_or (λ (text : BoxText). record { path = path_of document key; kind = kind; text = text.full } ∷ []) box []

module _ (document : Forest (Keyed Node)) (entry_of : ℕ → Option NodeEntry) where
  -- the lines before those of an element's children, and behind them
  abbrev pub first_lines : ℕ → List Line
  first_lines key =
      option_map_or (λ (entry : NodeEntry). lines_of document key Marker entry.marker ++ lines_of document key Before entry.before) (entry_of key) []

  abbrev pub last_lines : ℕ → List Line
  last_lines key = option_map_or (λ (entry : NodeEntry). lines_of document key After entry.after) (entry_of key) []

  -- the lines of trees of the document side by side
  abbrev pub tree_lines : Forest (Keyed Node) → List Line
  tree_lines Empty = []
  tree_lines (Tree node children after) = first_lines node.key ++ (tree_lines children ++ (last_lines node.key ++ tree_lines after))

-- The lines of a document whose nodes have keys, under the sheet of this text. A text node has no entry.
abbrev pub keyed_lines : List ℕ → Forest (Keyed Node) → List Line
keyed_lines sheet_text document = tree_lines document (kept_at (document_entries (author_sheet sheet_text document) document)) document

-- the lines of a document, each of whose nodes has its place in tree order as its key
unfoldable pub document_lines : List ℕ → Forest Node → List Line
document_lines sheet_text tree = keyed_lines sheet_text (numbered 0 tree)

-- the dump of a fresh evaluation of a document and the text of a sheet
abbrev pub fresh_dump : List ℕ → Forest Node → List ℕ
fresh_dump sheet_text tree = dump (document_lines sheet_text tree)
