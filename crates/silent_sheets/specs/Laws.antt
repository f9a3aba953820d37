-- That nothing is generated under a silent sheet (our own).
use Rattle.std.specs.Prelude.{◌≡◌, ℕ, List, [], IsTrue}
use Rattle.std.specs.List.{list_all}
use Rattle.css_reader.specs.Sheets.{sheet}
use Rattle.forest.specs.Forest.{Forest}
use Rattle.forest.specs.Keys.{Keyed, numbered}
use Rattle.generated_texts.specs.Lines.{document_lines, fresh_dump}
use Rattle.generated_texts.specs.StyleElements.{author_sheet, style_texts}
use Rattle.plain_types.specs.Tree.{AreSound}
use Rattle.plain_types.specs.declared.node.Node.{Node}
use Rattle.silent_sheets.specs.Silence.{IsSilent, all_keep_silence, silencing_text}

-- A document has no lines where the sheets of its author are silent together: that of this text and those of its style
-- elements. What its `style` attributes say does not matter, since they say nothing of pseudo-elements.
abbrev pub SilentSheetsGiveNoLines : Type 0
SilentSheetsGiveNoLines = (sheet_text : List ℕ) (tree : Forest Node) → AreSound tree → IsSilent (author_sheet sheet_text (numbered 0 tree)) → document_lines sheet_text tree ≡ []

-- Its dump is empty.
abbrev pub SilentSheetsGiveNoDump : Type 0
SilentSheetsGiveNoDump = (sheet_text : List ℕ) (tree : Forest Node) → AreSound tree → IsSilent (author_sheet sheet_text (numbered 0 tree)) → fresh_dump sheet_text tree ≡ []

-- They are silent together where the sheet of the text is, and each important `content` in a style element is `none`.
abbrev pub StyleElementsKeepSilence : Type 0
StyleElementsKeepSilence =
    (sheet_text : List ℕ) (document : Forest (Keyed Node)) → IsSilent (sheet sheet_text) → IsTrue (list_all (λ (text : List ℕ). all_keep_silence (sheet text)) (style_texts document))
    → IsSilent (author_sheet sheet_text document)

-- The text of `examples/baked.css` is a silent sheet.
abbrev pub SilencingTextIsSilent : Type 0
SilencingTextIsSilent = IsSilent (sheet silencing_text)
