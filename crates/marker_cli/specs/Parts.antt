-- What the documents of a book read as (our own).
use Rattle.std.specs.Prelude.{◌≡◌, ℕ, ◌+◌, List, [], ◌∷◌, Result, Ok, Err}
use Rattle.std.specs.List.{AllZip}
use Rattle.forest.specs.Forest.{Forest}
use Rattle.plain_types.specs.declared.node.Node.{Node}
use Rattle.ports.specs.Files.{Files}
use Rattle.xhtml_reader.specs.Readings.{ReadsAsDocument}
use Rattle.marker_cli.specs.declared.status.FileAt.TheVariants.{Word}
use Rattle.marker_cli.specs.declared.status.Status.{Status}
use Rattle.marker_cli.specs.declared.status.Status.TheVariants.{BadPart}
use Rattle.marker_cli.specs.Documents.{Reading}
use Rattle.marker_cli.specs.Output.{Output}
use Rattle.marker_cli.specs.Turns.{text_in, with_text}

-- The files of these names have these texts, one by one. The word at this place names the first.
abbrev pub HaveTexts : Files → ℕ → (names texts : List (List ℕ)) → Type 0
HaveTexts files place [] [] = Unit {0}
HaveTexts files place (name ∷ names) (text ∷ texts) = (text_in (Word place) (files name) ≡ Ok text) × HaveTexts files (place + 1) names texts
HaveTexts _ _ _ _ = ⊥

-- their turns come, one after the other, and then what follows where all have texts
abbrev pub with_texts : Files → ℕ → List (List ℕ) → Output → Output
with_texts files place [] next = next
with_texts files place (name ∷ names) next = with_text files (Word place) name (λ text. with_texts files (place + 1) names next)

-- SHEET, SCRIPT and the documents of a book have these texts
pub record HaveBookTexts (files : Files) (sheet script : List ℕ) (documents : List (List ℕ)) (style lines : List ℕ) (texts : List (List ℕ)) : Type 0 where
  pub of_sheet : text_in (Word 1) (files sheet) ≡ Ok style
  pub of_script : text_in (Word 2) (files script) ≡ Ok lines
  pub of_documents : HaveTexts files 3 documents texts

-- the documents of a book read as these, one by one, where all its files have texts
abbrev pub PartsReadAs : Files → (sheet script : List ℕ) → List (List ℕ) → List Reading → Type 0
PartsReadAs files sheet script documents readings =
    (style lines : List ℕ) (texts : List (List ℕ)) → HaveBookTexts files sheet script documents style lines texts → AllZip ReadsAsDocument texts readings

-- the tree of a document that the word at this place names, or the status with which it ends the run
abbrev pub part_of : ℕ → Reading → Result (Forest Node) Status
part_of place (Ok tree) = Ok tree
part_of place (Err fault) = Err (BadPart (Word place) fault.0 fault.1)

-- a tree before others, or the first status that there is
abbrev pub before_trees : Result (Forest Node) Status → Result (List (Forest Node)) Status → Result (List (Forest Node)) Status
before_trees (Err status) trees = Err status
before_trees (Ok tree) (Err status) = Err status
before_trees (Ok tree) (Ok trees) = Ok (tree ∷ trees)

-- The trees of documents, of which the word at this place names the first, or the status with which the first that has none
-- ends the run.
abbrev pub trees_of : ℕ → List Reading → Result (List (Forest Node)) Status
trees_of place [] = Ok []
trees_of place (reading ∷ readings) = before_trees (part_of place reading) (trees_of (place + 1) readings)

-- what was read, as this sees it
abbrev pub seen_by : {A B : Type 0} → (A → B) → Result A Status → Result B Status
seen_by see (Ok value) = Ok (see value)
seen_by see (Err status) = Err status
