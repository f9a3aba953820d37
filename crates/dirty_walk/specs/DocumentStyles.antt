-- What a document's sheet and style elements say, read (our own).
use Rattle.std.specs.Prelude.{ℕ, List, ◌∷◌}
use Rattle.forest.specs.Forest.{Forest}
use Rattle.forest.specs.Keys.{Keyed}
use Rattle.plain_types.specs.declared.node.Node.{Node}
use Rattle.css_reader.specs.Features.{features}
use Rattle.css_reader.specs.Sheets.{sheets}
use Rattle.generated_texts.specs.Documents.{counter_styles}
use Rattle.generated_texts.specs.StyleElements.{style_texts}
use Rattle.dirty_walk.specs.declared.document_styles.DocumentStyles.{DocumentStyles}

-- what the text of a sheet and the texts of style elements say together: the author's sheet, what its selectors look
-- at, and the counter styles under it
unfoldable pub read_styles : List ℕ → List (List ℕ) → DocumentStyles
read_styles sheet_text texts =
    let author = sheets (sheet_text ∷ texts) in
    record { sheet = sheet_text; texts = texts; author = author; features = features author; table = counter_styles author }

-- those of a document under the sheet of this text
abbrev pub document_styles : List ℕ → Forest (Keyed Node) → DocumentStyles
document_styles sheet_text document = read_styles sheet_text (style_texts document)
