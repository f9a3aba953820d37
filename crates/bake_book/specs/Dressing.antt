-- What a sheet puts into a document (our own): the texts of marker and before boxes first in their elements, those of after boxes
-- last.
use Rattle.std.specs.Prelude.{ℕ, List, [], ◌∷◌, ◌++◌, Option}
use Rattle.std.specs.List.{flat_map}
use Rattle.std.specs.Option.{option_map_or}
use Rattle.bake_definitions.specs.Baked.{Annotated}
use Rattle.bake_definitions.specs.Insertions.{Insertion}
use Rattle.bake_definitions.specs.Tags.{Tag, tags_of}
use Rattle.dump_definitions.specs.Dump.{Line}
use Rattle.forest.specs.Forest.{Forest, map_labels}
use Rattle.forest.specs.Keys.{Keyed, numbered}
use Rattle.generated_texts.specs.Entries.{document_entries}
use Rattle.generated_texts.specs.References.{kept_at}
use Rattle.generated_texts.specs.StyleElements.{author_sheet}
use Rattle.generated_texts.specs.declared.entry.BoxText.{BoxText}
use Rattle.generated_texts.specs.declared.entry.NodeEntry.{NodeEntry}
use Rattle.plain_types.specs.declared.box_kind.BoxKind.{BoxKind}
use Rattle.plain_types.specs.declared.box_kind.BoxKind.TheVariants.{Marker, Before, After}
use Rattle.plain_types.specs.declared.node.Node.{Node}

-- a text is put in where there is some
abbrev pub some_insertion : BoxKind → List ℕ → List Insertion
some_insertion kind [] = []
some_insertion kind (first ∷ rest) = record { kind = kind; text = first ∷ rest } ∷ []

-- the full text of a box, where there is one
abbrev pub box_insertions : BoxKind → Option BoxText → List Insertion
box_insertions kind box = option_map_or (λ (text : BoxText). some_insertion kind text.full) box []

-- what is put in first where this is kept of an element, and what last
abbrev pub first_insertions : Option NodeEntry → List Insertion
first_insertions entry = option_map_or (λ (kept : NodeEntry). box_insertions Marker kept.marker ++ box_insertions Before kept.before) entry []

abbrev pub last_insertions : Option NodeEntry → List Insertion
last_insertions entry = option_map_or (λ (kept : NodeEntry). box_insertions After kept.after) entry []

-- a node with what is put into it
abbrev pub dressed_node : (ℕ → Option NodeEntry) → Keyed Node → Annotated
dressed_node entry_of node = record { node = node.label; first = first_insertions (entry_of node.key); last = last_insertions (entry_of node.key) }

-- trees with what is put into their nodes
abbrev pub dressed_trees : (ℕ → Option NodeEntry) → Forest (Keyed Node) → Forest Annotated
dressed_trees entry_of trees = map_labels (dressed_node entry_of) trees

-- a document whose nodes have keys, with what the sheet of this text puts into it
abbrev pub keyed_dressed : List ℕ → Forest (Keyed Node) → Forest Annotated
keyed_dressed sheet_text document = dressed_trees (kept_at (document_entries (author_sheet sheet_text document) document)) document

-- a document, each of whose nodes has its place in tree order as its key
unfoldable pub dressed_document : List ℕ → Forest Node → Forest Annotated
dressed_document sheet_text tree = keyed_dressed sheet_text (numbered 0 tree)

-- the insertions of a document, tag by tag
abbrev pub insertions_of : Forest Annotated → List Insertion
insertions_of document = flat_map (λ (tag : Tag). tag.insertions) (tags_of document)

-- the text of a dump's line as an insertion, where there is some
abbrev pub insertion_of_line : Line → List Insertion
insertion_of_line line = some_insertion line.kind line.text
