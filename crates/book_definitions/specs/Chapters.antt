-- A volume (our own): chapters, each of which is a document under a style sheet of its own.
use Rattle.std.specs.Prelude.{ℕ, ◌≢◌, List, []}
use Rattle.std.specs.List.{AllByRecursion, AllPairs}
use Rattle.forest.specs.Forest.{Forest}
use Rattle.forest.specs.Keys.{Keyed}
use Rattle.plain_types.specs.declared.counter_style.CounterStyle.{CounterStyle}
use Rattle.plain_types.specs.declared.node.Node.{Node}
use Rattle.plain_types.specs.declared.sheet.Sheet.{Sheet}
use Rattle.node_arena.specs.Document.{IsKeyedDocument}
use Rattle.reading.specs.Punctuation.{number_sign}
use Rattle.box_eval.specs.declared.element_record.ElementRecord.{ElementRecord}
use Rattle.generated_texts.specs.Documents.{counter_styles, document_evaluation}
use Rattle.generated_texts.specs.StyleElements.{author_sheet}

-- a chapter: its name, its document, whose nodes have keys, and the text of its sheet
pub record Chapter : Type 0 where
  pub name : List ℕ
  pub document : Forest (Keyed Node)
  pub sheet : List ℕ

-- a name that a url can give before its `#`
pub record IsChapterName (name : List ℕ) : Type 0 where
  pub is_not_empty : name ≢ []
  pub has_no_sign : AllByRecursion (λ character. character ≢ number_sign) name

-- what every volume is: each name can stand before a `#`, no two chapters have one name, and each has a document
pub record IsVolume (volume : List Chapter) : Type 0 where
  pub names : AllByRecursion (λ (chapter : Chapter). IsChapterName chapter.name) volume
  pub distinct : AllPairs (λ (first second : Chapter). first.name ≢ second.name) volume
  pub documents : AllByRecursion (λ (chapter : Chapter). IsKeyedDocument chapter.document) volume

-- the author's sheet of a chapter
abbrev pub chapter_sheet : Chapter → Sheet
chapter_sheet chapter = author_sheet chapter.sheet chapter.document

-- CSS Counter Styles 3, 2: a counter style is of the document whose sheet defines it; so each chapter has its own (our own)
abbrev pub chapter_styles : Chapter → List CounterStyle
chapter_styles chapter = counter_styles (chapter_sheet chapter)

-- CSS Lists 3, 4.4: counters have scopes in their document alone, so what is said of a chapter's elements is what is said of
-- them in its document (our own)
abbrev pub chapter_records : Chapter → List (ℕ × ElementRecord)
chapter_records chapter = document_evaluation (chapter_sheet chapter) chapter.document
