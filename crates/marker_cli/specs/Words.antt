-- The words of a run (our own).
use Rattle.std.specs.Prelude.{◌≡◌, ◌≢◌, ℕ, ℤ, pos, ◌<◌, ◌≤◌, ◌≤ℤ◌, ◌+ℤ◌, List, [], ◌∷◌, get_or, length, codes, Option, Some, None}
use Rattle.std.specs.Fmt.{decimal, signed_decimal}
use Rattle.std.specs.List.{AllByRecursion, AllPairs}
use Rattle.book_definitions.specs.Chapters.{IsChapterName}
use Rattle.dump_definitions.specs.Dump.{path_text}
use Rattle.edit_script.specs.Scripts.{IsPath}
use Rattle.plain_types.specs.declared.count.TheConstants.{COUNT_LOW, COUNT_HIGH}
use Rattle.marker_cli.specs.declared.aspect.Aspect.{Aspect}
use Rattle.marker_cli.specs.declared.aspect.Aspect.TheVariants.{Dump, Text, Why}
use Rattle.marker_cli.specs.declared.form.Form.{Form as ReadForm}
use Rattle.marker_cli.specs.declared.form.Form.TheVariants as read

-- what words ask for: a command with its operands. An aspect of a document is written; a document is written with its
-- generated texts put in; the commands of a script are done with a depth, so that as many edits can be undone, or without one; the
-- commands of the script of a book are done with its documents.
pub data Form : Type 0 where
  aspect : (what : Aspect) (document sheet : List ℕ) → Form
  bake : (document sheet : List ℕ) → Form
  edit : (document sheet script : List ℕ) (depth : Option ℕ) → Form
  book : (sheet script : List ℕ) (documents : List (List ℕ)) → Form
  table : (sheet style : List ℕ) (from to : ℤ) → Form
  gen : (seed count : ℕ) → Form

-- the words of it; numbers are in decimal, and a path is as in a script
abbrev pub words_of : Form → List (List ℕ)
words_of (aspect Dump document sheet) = codes "dump" ∷ document ∷ sheet ∷ []
words_of (aspect Text document sheet) = codes "text" ∷ document ∷ sheet ∷ []
words_of (aspect (Why path) document sheet) = codes "why" ∷ document ∷ sheet ∷ path_text path ∷ []
words_of (bake document sheet) = codes "bake" ∷ document ∷ sheet ∷ []
words_of (edit document sheet script None) = codes "edit" ∷ document ∷ sheet ∷ script ∷ []
words_of (edit document sheet script (Some depth)) = codes "history" ∷ document ∷ sheet ∷ script ∷ decimal depth ∷ []
words_of (book sheet script documents) = codes "book" ∷ sheet ∷ script ∷ documents
words_of (table sheet style from to) = codes "table" ∷ sheet ∷ style ∷ signed_decimal from ∷ signed_decimal to ∷ []
words_of (gen seed count) = codes "gen" ∷ decimal seed ∷ decimal count ∷ []

-- a value that a counter may have
pub record IsCount (number : ℤ) : Type 0 where
  pub low : COUNT_LOW ≤ℤ number
  pub high : number ≤ℤ COUNT_HIGH

-- a table has 1 to 10000 lines
abbrev pub IsSpan : ℤ → ℤ → Type 0
IsSpan from to = (from ≤ℤ to) × (to ≤ℤ (from +ℤ pos 9999))

-- the first and the last value of a table
pub record IsTable (from to : ℤ) : Type 0 where
  pub from_fits : IsCount from
  pub to_fits : IsCount to
  pub span : IsSpan from to

-- a made-up run has 1 to 100000 edits
abbrev pub IsRun : ℕ → ℕ → Type 0
IsRun seed count = (seed ≤ 2147483647) × (1 ≤ count) × (count ≤ 100000)

-- a depth is 1 to 1000
abbrev pub IsDepth : ℕ → Type 0
IsDepth depth = (1 ≤ depth) × (depth ≤ 1000)

-- 1 to 64 names of documents, each of which can stand before a `#`, and no two of which are the same
pub record AreDocumentNames (names : List (List ℕ)) : Type 0 where
  pub some : 1 ≤ length names
  pub most : length names ≤ 64
  pub each : AllByRecursion IsChapterName names
  pub distinct : AllPairs (λ name other. name ≢ other) names

-- its numbers, and those of a path, are within their bounds; its documents have names that tell them apart
abbrev pub IsWithin : Form → Type 0
IsWithin (aspect Dump document sheet) = Unit {0}
IsWithin (aspect Text document sheet) = Unit {0}
IsWithin (aspect (Why path) document sheet) = IsPath path
IsWithin (bake document sheet) = Unit {0}
IsWithin (edit document sheet script None) = Unit {0}
IsWithin (edit document sheet script (Some depth)) = IsDepth depth
IsWithin (book sheet script documents) = AreDocumentNames documents
IsWithin (table sheet style from to) = IsTable from to
IsWithin (gen seed count) = IsRun seed count

-- the words are of this form
pub record IsForm (words : List (List ℕ)) (form : Form) : Type 0 where
  pub written : words ≡ words_of form
  pub within : IsWithin form

-- the words are of this form, or of none
abbrev pub ReadsAsForm : List (List ℕ) → Option Form → Type 0
ReadsAsForm words (Some form) = IsForm words form
ReadsAsForm words None = (form : Form) → IsForm words form → ⊥

abbrev pub IsOfTable : Form → Type 0
IsOfTable (aspect what document sheet) = ⊥
IsOfTable (bake document sheet) = ⊥
IsOfTable (edit document sheet script depth) = ⊥
IsOfTable (book sheet script documents) = ⊥
IsOfTable (table sheet style from to) = Unit {0}
IsOfTable (gen seed count) = ⊥

-- what the code read of words
abbrev pub form_of : ReadForm → Form
form_of (read.Aspect what document sheet) = aspect what document.now sheet.now
form_of (read.Bake document sheet) = bake document.now sheet.now
form_of (read.Script document sheet script depth) = edit document.now sheet.now script.now depth
form_of (read.Book sheet script documents) = book sheet.now script.now documents.now
form_of (read.Table sheet style from to) = table sheet.now style.now from to
form_of (read.Gen seed count) = gen seed count

abbrev pub read_form_of : Option ReadForm → Option Form
read_form_of None = None
read_form_of (Some form) = Some (form_of form)

-- the word at this place, from 0
abbrev pub word : List (List ℕ) → ℕ → List ℕ
word words place = get_or words place []

-- the words are so many, and the first is this one
abbrev pub IsCommand : List (List ℕ) → ℕ → List ℕ → Type 0
IsCommand words count name = (length words ≡ count) × (word words 0 ≡ name)

-- they are `book` and three others at least
abbrev pub IsBookCommand : List (List ℕ) → Type 0
IsBookCommand words = (3 < length words) × (word words 0 ≡ codes "book")
