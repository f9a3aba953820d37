-- Laws of volumes (our own).
use Rattle.std.specs.Prelude.{◌≡◌, ◌≢◌, ℕ, List, [], ◌∷◌, ◌++◌, Some, IfSome, cond, map, option_map}
use Rattle.std.specs.List.{AllByRecursion, slice_get}
use Rattle.std.specs.Str.{bytes_eq}
use Rattle.forest.specs.Keys.{HasDistinctKeys, without_keys}
use Rattle.reading.specs.Punctuation.{number_sign}
use Rattle.content_eval.specs.declared.generated.Piece.{Piece}
use Rattle.box_eval.specs.declared.element_record.ElementRecord.{ElementRecord}
use Rattle.box_eval.specs.declared.made.Made.{Made}
use Rattle.generated_texts.specs.declared.entry.BoxText.{BoxText}
use Rattle.generated_texts.specs.declared.entry.NodeEntry.{NodeEntry}
use Rattle.generated_texts.specs.Entries.{document_entries}
use Rattle.generated_texts.specs.Lines.{fresh_dump, keyed_lines}
use Rattle.book_definitions.specs.Aims.{Address, Aim, address, aim, chapter_at, target}
use Rattle.book_definitions.specs.Chapters.{Chapter, IsVolume, chapter_records, chapter_sheet}
use Rattle.book_definitions.specs.Fresh.{chapter_source, fresh_chapter_dump, fresh_chapter_lines}
use Rattle.book_definitions.specs.Lines.{chapter_dump, chapter_entries, chapter_lines}
use Rattle.book_definitions.specs.Texts.{url_of}

-- A url gives no name of a chapter: nothing stands before its `#`, or it has none.
abbrev pub GivesNoName : List ℕ → Type 0
GivesNoName url = IfSome (address url) (λ (found : Address). found.name ≡ [])

-- Something holds of each url of a box, of an element's boxes, and of a chapter's.

abbrev pub OfEachUrl : (List ℕ → Type 0) → Made → Type 0
OfEachUrl holds made = AllByRecursion (λ (refers : Piece). IfSome (url_of refers) holds) made.pieces

pub record OfEachUrlAt (holds : List ℕ → Type 0) (element : ElementRecord) : Type 0 where
  pub marker : IfSome element.marker (OfEachUrl holds)
  pub before : IfSome element.before (OfEachUrl holds)
  pub after : IfSome element.after (OfEachUrl holds)

abbrev pub OfEachUrlIn : (List ℕ → Type 0) → Chapter → Type 0
OfEachUrlIn holds chapter = AllByRecursion (λ (element : ℕ × ElementRecord). OfEachUrlAt holds element.1) (chapter_records chapter)

-- A chapter none of whose urls gives a name has, whatever the volume, the entries and lines of its document alone; and, where
-- no two nodes have one key, its dump.
abbrev pub ClosedChapterHasItsEntries : Type 0
ClosedChapterHasItsEntries =
    (volume : List Chapter) (own : Chapter) → OfEachUrlIn GivesNoName own → chapter_entries volume own ≡ document_entries (chapter_sheet own) own.document

abbrev pub ClosedChapterHasItsLines : Type 0
ClosedChapterHasItsLines =
    (volume : List Chapter) (own : Chapter) → OfEachUrlIn GivesNoName own → chapter_lines volume own ≡ keyed_lines own.sheet own.document

abbrev pub ClosedChapterHasItsDump : Type 0
ClosedChapterHasItsDump =
    (volume : List Chapter) (own : Chapter) → HasDistinctKeys own.document → OfEachUrlIn GivesNoName own
    → chapter_dump volume own ≡ fresh_dump own.sheet (without_keys own.document)

-- So a volume of one such chapter has the dump of its document, whatever the chapter's name.
abbrev pub VolumeOfOneChapter : Type 0
VolumeOfOneChapter =
    (own : Chapter) → HasDistinctKeys own.document → OfEachUrlIn GivesNoName own → chapter_dump (own ∷ []) own ≡ fresh_dump own.sheet (without_keys own.document)

-- empty texts in the place of those of a box
abbrev pub no_text : BoxText → BoxText
no_text text = record { flat = []; full = [] }

-- an entry, the texts of its boxes left out: whether there is a box, its counters and depths, and which boxes it makes
abbrev pub without_texts : NodeEntry → NodeEntry
without_texts entry =
    record entry { marker = option_map no_text entry.marker; before = option_map no_text entry.before; after = option_map no_text entry.after }

abbrev pub bare_entries : List (ℕ × NodeEntry) → List (ℕ × NodeEntry)
bare_entries entries = map (λ (entry : ℕ × NodeEntry). (entry.0, without_texts entry.1)) entries

-- All else that is kept of a chapter's elements is that of its document alone.
abbrev pub OnlyTextsCrossChapters : Type 0
OnlyTextsCrossChapters =
    (volume : List Chapter) (own : Chapter) → bare_entries (chapter_entries volume own) ≡ bare_entries (document_entries (chapter_sheet own) own.document)

-- So whatever becomes of the other chapters, it stays.
abbrev pub OtherChaptersChangeOnlyTexts : Type 0
OtherChaptersChangeOnlyTexts = (volume other : List Chapter) (own : Chapter) → bare_entries (chapter_entries volume own) ≡ bare_entries (chapter_entries other own)

-- What a url aims at rests on the chapter that it names alone: in two volumes, and from two chapters, that have the same
-- chapter there, it aims at the same.
abbrev pub AimNeedsItsChapterAlone : Type 0
AimNeedsItsChapterAlone =
    (volume other : List Chapter) (own another : Chapter) (url : List ℕ)
    → IfSome (address url) (λ (found : Address). chapter_at volume own found.name ≡ chapter_at other another found.name)
    → (aim volume own url ≡ aim other another url) × (target volume own url ≡ target other another url)

-- The lines of a chapter rest, besides itself, on the chapters at which its urls aim, and on those at which the urls of
-- these aim: where all of them aim at the same in two volumes, it has the same lines in both.

abbrev pub AimsAtTheSame : List Chapter → List Chapter → Chapter → List ℕ → Type 0
AimsAtTheSame volume other own url = aim volume own url ≡ aim other own url

-- something holds of each url of the chapter at which a url aims
abbrev pub OfEachUrlBehind : List Chapter → Chapter → (Chapter → List ℕ → Type 0) → List ℕ → Type 0
OfEachUrlBehind volume own holds url = IfSome (aim volume own url) (λ (found : Aim). OfEachUrlIn (holds found.chapter) found.chapter)

-- of a url, and of each behind it
abbrev pub OfUrlAndBehind : List Chapter → Chapter → (Chapter → List ℕ → Type 0) → List ℕ → Type 0
OfUrlAndBehind volume own holds url = holds own url × OfEachUrlBehind volume own holds url

abbrev pub LinesNeedTheChaptersAimedAt : Type 0
LinesNeedTheChaptersAimedAt =
    (volume other : List Chapter) (own : Chapter) → OfEachUrlIn (OfUrlAndBehind volume own (AimsAtTheSame volume other)) own
    → chapter_lines volume own ≡ chapter_lines other own

-- the volume in which this chapter stands in the place of the one of its name
abbrev pub with_chapter : List Chapter → Chapter → List Chapter
with_chapter volume new = map (λ (old : Chapter). cond (bytes_eq new.name old.name) new old) volume

-- the text before a url's `#`, if it has one, is not this name
abbrev pub NamesAnother : List ℕ → List ℕ → Type 0
NamesAnother name url = IfSome (address url) (λ (found : Address). found.name ≢ name)

-- An edit of one chapter changes nothing of where a url of another aims, if that does not name it.
abbrev pub EditsKeepOtherAims : Type 0
EditsKeepOtherAims =
    (volume : List Chapter) (own new : Chapter) (url : List ℕ) → NamesAnother new.name url → aim volume own url ≡ aim (with_chapter volume new) own url

-- It changes no line of another chapter that neither names it nor names one that does.
abbrev pub EditsKeepOtherLines : Type 0
EditsKeepOtherLines =
    (volume : List Chapter) (own new : Chapter) → OfEachUrlIn (OfUrlAndBehind volume own (λ chapter. NamesAnother new.name)) own
    → chapter_lines volume own ≡ chapter_lines (with_chapter volume new) own

-- The name of a chapter of a volume, with a `#` and an id behind it, aims from wherever it stands into that chapter.
abbrev pub NamesAimAtTheirChapters : Type 0
NamesAimAtTheirChapters =
    (volume : List Chapter) (own : Chapter) (place : ℕ) (chapter : Chapter) (id : List ℕ) → IsVolume volume → slice_get volume place ≡ Some chapter
    → aim volume own (chapter.name ++ number_sign ∷ id) ≡ Some (record { chapter = chapter; id = id })

-- Whichever distinct keys the nodes of each document of a volume have, the lines of a chapter are those of the documents
-- without their keys; and so is its dump.

abbrev pub HaveDistinctKeys : List Chapter → Type 0
HaveDistinctKeys volume = AllByRecursion (λ (chapter : Chapter). HasDistinctKeys chapter.document) volume

abbrev pub ChapterLinesAreThoseOfTheTrees : Type 0
ChapterLinesAreThoseOfTheTrees =
    (volume : List Chapter) (own : Chapter) → HaveDistinctKeys volume → HasDistinctKeys own.document
    → chapter_lines volume own ≡ fresh_chapter_lines (map chapter_source volume) (chapter_source own)

abbrev pub ChapterDumpIsThatOfTheTrees : Type 0
ChapterDumpIsThatOfTheTrees =
    (volume : List Chapter) (own : Chapter) → HaveDistinctKeys volume → HasDistinctKeys own.document
    → chapter_dump volume own ≡ fresh_chapter_dump (map chapter_source volume) (chapter_source own)
