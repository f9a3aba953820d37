-- The lines that are told of a document of which nothing was shown before (our own). They are listed by elements; in a dump an
-- after box stands behind the children of its element.
use Rattle.std.specs.Prelude.{ℕ, Bool, true, false, List, [], ◌++◌, Option, Some, None}
use Rattle.forest.specs.Forest.{Forest, Empty, Tree}
use Rattle.forest.specs.Keys.{Keyed}
use Rattle.plain_types.specs.declared.box_kind.BoxKind.{BoxKind}
use Rattle.plain_types.specs.declared.box_kind.BoxKind.TheVariants.{Element, Marker, Before, After}
use Rattle.plain_types.specs.declared.node.Node.{Node}
use Rattle.dump_definitions.specs.Dump.{Line}
use Rattle.generated_texts.specs.declared.entry.NodeEntry.{NodeEntry}
use Rattle.generated_texts.specs.Lines.{first_lines, last_lines}
use Rattle.edit_work.specs.KeyedSources.{KeyedSource}
use Rattle.changed_lines.specs.declared.changed_line.ChangedLine.{ChangedLine}
use Rattle.changed_lines.specs.Changes.{entry_in, lines_between}

-- all lines of a document, as they are told to one who was shown nothing of it before
abbrev pub lines_from_nothing : KeyedSource → List ChangedLine
lines_from_nothing source = lines_between source.tree (λ _. None) (entry_in source)

-- a line of a dump as it is told: with its text
abbrev pub shown_line : Line → ChangedLine
shown_line line = record { path = line.path; kind = line.kind; text = Some line.text }

-- the box stands before the children of its element
abbrev pub stands_first : BoxKind → Bool
stands_first Element = true
stands_first Marker = true
stands_first Before = true
stands_first After = false

module _ (document : Forest (Keyed Node)) (entry_of : ℕ → Option NodeEntry) where
  -- the lines of a dump of trees of the document, but for their order: all those of an element stand before those of its children
  abbrev pub listed_lines : Forest (Keyed Node) → List Line
  listed_lines Empty = []
  listed_lines (Tree node children after) =
      (first_lines document entry_of node.key ++ last_lines document entry_of node.key) ++ (listed_lines children ++ listed_lines after)
