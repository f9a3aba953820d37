-- A document as lines of text (our own): its texts, with those of marker, before and after boxes where they stand.
use Rattle.std.specs.Prelude.{ℕ, Bool, if◌then◌else◌, List, [], ◌∷◌, ◌++◌, Option, None, Some, encode_utf8_all}
use Rattle.std.specs.Option.{option_map_or}
use Rattle.forest.specs.Forest.{Forest, Empty, Tree}
use Rattle.forest.specs.Keys.{Keyed, numbered}
use Rattle.plain_types.specs.declared.node.Node.{Node}
use Rattle.plain_types.specs.declared.node.Node.TheVariants.{Element, Text}
use Rattle.generated_texts.specs.declared.entry.BoxText.{BoxText}
use Rattle.generated_texts.specs.declared.entry.NodeEntry.{NodeEntry}
use Rattle.generated_texts.specs.Entries.{document_entries}
use Rattle.generated_texts.specs.References.{kept_at}
use Rattle.generated_texts.specs.StyleElements.{author_sheet}
use Rattle.text_view.specs.Breaks.{is_breaking}
use Rattle.text_view.specs.Lines.{Piece, Break, Characters, lines}

-- a break, where there is one
abbrev pub break_where : Bool → List Piece
break_where breaks = if breaks then Break ∷ [] else []

-- the full text of a box, where there is one
abbrev pub box_pieces : Option BoxText → List Piece
box_pieces box = option_map_or (λ (text : BoxText). Characters text.full ∷ []) box []

-- what an element with a box gives before what its children give, and behind it
abbrev pub first_pieces : Bool → NodeEntry → List Piece
first_pieces breaks entry = break_where breaks ++ (box_pieces entry.marker ++ box_pieces entry.before)

abbrev pub last_pieces : Bool → NodeEntry → List Piece
last_pieces breaks entry = box_pieces entry.after ++ break_where breaks

-- What a node gives, with what its children give: a text its characters; an element without a box nothing, whatever its
-- children would give.
abbrev pub node_pieces : Option NodeEntry → Node → List Piece → List Piece
node_pieces entry (Text characters) inside = Characters characters ∷ []
node_pieces None (Element name attrs) inside = []
node_pieces (Some entry) (Element name attrs) inside =
    if entry.has_box then first_pieces (is_breaking name) entry ++ (inside ++ last_pieces (is_breaking name) entry) else []

-- what trees give, side by side
abbrev pub tree_pieces : (ℕ → Option NodeEntry) → Forest (Keyed Node) → List Piece
tree_pieces entry_of Empty = []
tree_pieces entry_of (Tree node children after) = node_pieces (entry_of node.key) node.label (tree_pieces entry_of children) ++ tree_pieces entry_of after

-- what a document gives whose nodes have keys, under the sheet of this text
abbrev pub keyed_pieces : List ℕ → Forest (Keyed Node) → List Piece
keyed_pieces sheet_text document = tree_pieces (kept_at (document_entries (author_sheet sheet_text document) document)) document

-- what a document gives, each of whose nodes has its place in tree order as its key
unfoldable pub document_pieces : List ℕ → Forest Node → List Piece
document_pieces sheet_text tree = keyed_pieces sheet_text (numbered 0 tree)

-- the lines of a document under the text of a sheet, as bytes
abbrev pub text_view : List ℕ → Forest Node → List ℕ
text_view sheet_text tree = encode_utf8_all (lines (document_pieces sheet_text tree))
