-- Laws of what a sheet puts into a document.
use Rattle.std.specs.Prelude.{◌≡◌, ℕ, ◌+◌, List, Option, length, map}
use Rattle.std.specs.List.{flat_map}
use Rattle.bake_definitions.specs.Baked.{without_insertions}
use Rattle.bake_definitions.specs.Places.{left_out, placed}
use Rattle.bake_definitions.specs.Tags.{tags_of}
use Rattle.bake_definitions.specs.Woven.{IsBaked}
use Rattle.bake_book.specs.Dressing.{dressed_document, dressed_trees, insertion_of_line, insertions_of, keyed_dressed}
use Rattle.bake_book.specs.Walks.{dressed_tag, tree_tags}
use Rattle.forest.specs.Forest.{Forest}
use Rattle.forest.specs.Keys.{HasDistinctKeys, Keyed, numbered, without_keys}
use Rattle.generated_texts.specs.Lines.{document_lines}
use Rattle.generated_texts.specs.StyleElements.{author_sheet}
use Rattle.generated_texts.specs.declared.entry.NodeEntry.{NodeEntry}
use Rattle.node_arena.specs.Document.{IsKeyedDocument}
use Rattle.plain_types.specs.Tree.{AreSound}
use Rattle.plain_types.specs.declared.node.Node.{Node}
use Rattle.silent_sheets.specs.Silence.{IsSilent}

-- What is put into a document, tag by tag, are the texts of its dump, line by line, but for the empty ones.
abbrev pub InsertionsAreLines : Type 0
InsertionsAreLines = (sheet_text : List ℕ) (tree : Forest Node) → insertions_of (dressed_document sheet_text tree) ≡ flat_map insertion_of_line (document_lines sheet_text tree)

-- So none is lost: each line of the dump that has a text is an insertion that has a place, or is counted as left out.
abbrev pub NoneIsLost : Type 0
NoneIsLost =
    (sheet_text : List ℕ) (tree : Forest Node)
    → length (flat_map insertion_of_line (document_lines sheet_text tree)) ≡ length (insertions_of (placed (dressed_document sheet_text tree))) + left_out (dressed_document sheet_text tree)

-- Without it the document is as it was.
abbrev pub DocumentsStay : Type 0
DocumentsStay = (sheet_text : List ℕ) (tree : Forest Node) → without_insertions (dressed_document sheet_text tree) ≡ tree

-- Whichever distinct keys the nodes of a document have, the same is put into it.
abbrev pub KeysDoNotMatter : Type 0
KeysDoNotMatter =
    (sheet_text : List ℕ) (document : Forest (Keyed Node)) → HasDistinctKeys document → keyed_dressed sheet_text document ≡ dressed_document sheet_text (without_keys document)

-- The tags of a document, with what is put in at them by what is kept of its elements, are those that a walk over it gives.
abbrev pub WalksGiveTheTags : Type 0
WalksGiveTheTags =
    (document : Forest (Keyed Node)) (entry_of : ℕ → Option NodeEntry) → IsKeyedDocument document
    → tags_of (dressed_trees entry_of document) ≡ map (dressed_tag document entry_of) (tree_tags document)

-- Where the sheets of its author are silent together, nothing is put into a document, so its text stays as it is: baked again
-- behind such a sheet, a baked text does not change.
abbrev pub SilentDocumentsBakeToThemselves : Type 0
SilentDocumentsBakeToThemselves =
    (sheet_text text output : List ℕ) (tree : Forest Node) → AreSound tree → IsSilent (author_sheet sheet_text (numbered 0 tree))
    → IsBaked text (placed (dressed_document sheet_text tree)) output → output ≡ text
