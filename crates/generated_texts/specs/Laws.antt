-- Laws of generated texts: which keys entries have, which elements have boxes, and that keys do not matter.
use Rattle.std.specs.Prelude.{◌≡◌, ℕ, List, Option, IsSome, true, false, flat_map, is_some, option_map}
use Rattle.forest.specs.Forest.{Forest}
use Rattle.forest.specs.Keys.{Keyed, HasDistinctKeys, keys, numbered, without_keys}
use Rattle.plain_types.specs.declared.node.Node.{Node}
use Rattle.plain_types.specs.Tree.{AreSound}
use Rattle.plain_types.specs.declared.sheet.Sheet.{Sheet}
use Rattle.plain_types.specs.declared.style.Style.{Style}
use Rattle.node_arena.specs.Nodes.{name_of}
use Rattle.box_eval.specs.Boxes.{is_absent}
use Rattle.generated_texts.specs.Documents.{document_evaluation, document_style}
use Rattle.generated_texts.specs.Entries.{document_entries}
use Rattle.generated_texts.specs.Keyings.{KeepsApart, rekeyed, rekeyed_entries, rekeyed_records}
use Rattle.generated_texts.specs.Lines.{document_lines, keyed_lines}
use Rattle.generated_texts.specs.References.{kept_at}
use Rattle.generated_texts.specs.StyleElements.{author_sheet, style_text_of, style_texts}
use Rattle.generated_texts.specs.declared.entry.NodeEntry.{NodeEntry}

-- The entries of a document have exactly the keys of its elements: the nodes that have a name.
abbrev pub EntriesHaveKeysOfElements : Type 0
EntriesHaveKeysOfElements =
    (author : Sheet) (document : Forest (Keyed Node)) (key : ℕ) → HasDistinctKeys document
    → is_some (kept_at (document_entries author document) key) ≡ is_some (name_of document key)

-- Where no element's style is `display: none`, whatever its parent's is, each element has its box. (No text has children.)
abbrev pub EachElementHasItsBox : Type 0
EachElementHasItsBox =
    (author : Sheet) (document : Forest (Keyed Node)) → HasDistinctKeys document → AreSound (without_keys document)
    → ((key : ℕ) (parent : Option Style) → IsSome (name_of document key) → is_absent (document_style author document key parent).own.display ≡ false)
    → (key : ℕ)
    → option_map (λ (entry : NodeEntry). entry.has_box) (kept_at (document_entries author document) key) ≡ option_map (λ name. true) (name_of document key)

-- The texts of style elements are found one by one, in the order of the document's keys.
abbrev pub StyleTextsByKeys : Type 0
StyleTextsByKeys = (document : Forest (Keyed Node)) → HasDistinctKeys document → style_texts document ≡ flat_map (style_text_of document) (keys document)

-- Each document whose nodes have distinct keys is the one with the places in tree order as its keys, under
-- other keys.
abbrev pub EachKeyingIsAnother : Type 0
EachKeyingIsAnother =
    (document : Forest (Keyed Node)) → HasDistinctKeys document
    → (rekey : ℕ → ℕ) × KeepsApart rekey × (document ≡ rekeyed rekey (numbered 0 (without_keys document)))

-- Under other keys the author's sheet is the same.
abbrev pub SheetsKeepNoKeys : Type 0
SheetsKeepNoKeys =
    (sheet_text : List ℕ) (document : Forest (Keyed Node)) (rekey : ℕ → ℕ)
    → author_sheet sheet_text (rekeyed rekey document) ≡ author_sheet sheet_text document

-- Under other keys what the evaluation says of a document's elements is the same, but for the names of the keys: their
-- counters and depths, and the counters, pieces and changes of their markers, before and after boxes.
abbrev pub RecordsFollowKeys : Type 0
RecordsFollowKeys =
    (author : Sheet) (document : Forest (Keyed Node)) (rekey : ℕ → ℕ) → KeepsApart rekey
    → document_evaluation author (rekeyed rekey document) ≡ rekeyed_records rekey (document_evaluation author document)

-- And so is what is kept of them.
abbrev pub EntriesFollowKeys : Type 0
EntriesFollowKeys =
    (author : Sheet) (document : Forest (Keyed Node)) (rekey : ℕ → ℕ) → KeepsApart rekey
    → document_entries author (rekeyed rekey document) ≡ rekeyed_entries rekey (document_entries author document)

-- The lines of its dump are the same.
abbrev pub LinesKeepNoKeys : Type 0
LinesKeepNoKeys =
    (sheet_text : List ℕ) (document : Forest (Keyed Node)) (rekey : ℕ → ℕ) → KeepsApart rekey
    → keyed_lines sheet_text (rekeyed rekey document) ≡ keyed_lines sheet_text document

-- So a document whose nodes have distinct keys has the lines of its tree.
abbrev pub LinesAreThoseOfTheTree : Type 0
LinesAreThoseOfTheTree =
    (sheet_text : List ℕ) (document : Forest (Keyed Node)) → HasDistinctKeys document
    → keyed_lines sheet_text document ≡ document_lines sheet_text (without_keys document)
