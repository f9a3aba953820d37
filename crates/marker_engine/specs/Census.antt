-- How much there is of a document and its evaluation (our own).
use Rattle.std.specs.Prelude.{ℕ, ◌+◌, ◌-◌, ◌^◌, min, is_some, List}
use Rattle.std.specs.Option.{option_map_or}
use Rattle.forest.specs.Forest.{Forest, weigh}
use Rattle.forest.specs.Keys.{Keyed, numbered}
use Rattle.plain_types.specs.declared.node.Node.{Node}
use Rattle.document_walk.specs.Elements.{one_where}
use Rattle.generated_texts.specs.StyleElements.{author_sheet}
use Rattle.generated_texts.specs.declared.entry.NodeEntry.{NodeEntry}
use Rattle.generated_texts.specs.Entries.{document_entries}
use Rattle.generated_texts.specs.References.{kept_at}

-- the marker, before and after boxes of an element, each of which has a line in the dump
abbrev pub lines_in : NodeEntry → ℕ
lines_in entry = one_where (is_some entry.marker) + (one_where (is_some entry.before) + one_where (is_some entry.after))

-- these boxes and its own
abbrev pub boxes_in : NodeEntry → ℕ
boxes_in entry = one_where entry.has_box + lines_in entry

-- the boxes of a document whose nodes have keys, under the sheet of this text
abbrev pub keyed_box_count : List ℕ → Forest (Keyed Node) → ℕ
keyed_box_count sheet_text document =
    weigh (λ (node : Keyed Node). option_map_or boxes_in (kept_at (document_entries (author_sheet sheet_text document) document) node.key) 0) document

-- the boxes of a document, each of whose nodes has its place in tree order as its key
unfoldable pub box_count : List ℕ → Forest Node → ℕ
box_count sheet_text tree = keyed_box_count sheet_text (numbered 0 tree)

-- a number as a usize tells it, which ends at its greatest
abbrev pub saturated : ℕ → ℕ
saturated number = min number (2 ^ 64 - 1)
