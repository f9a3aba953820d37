-- The commands `dump DOC SHEET`, `text DOC SHEET` and `why DOC SHEET PATH` (our own): each writes an aspect of a document
-- under a sheet.
use Rattle.std.specs.Prelude.{ℕ, ◌*◌, List, Option, Some, None, Ok, Err, codes}
use Rattle.document_walk.specs.Elements.{element_count}
use Rattle.forest.specs.Forest.{Forest}
use Rattle.generated_texts.specs.Lines.{fresh_dump}
use Rattle.plain_types.specs.declared.node.Node.{Node}
use Rattle.ports.specs.Files.{Files}
use Rattle.text_view.specs.Views.{text_view}
use Rattle.why_report.specs.Accounts.{account}
use Rattle.marker_cli.specs.declared.aspect.Aspect.{Aspect}
use Rattle.marker_cli.specs.declared.aspect.Aspect.TheVariants.{Dump, Text, Why}
use Rattle.marker_cli.specs.declared.status.FileAt.TheVariants.{Word}
use Rattle.marker_cli.specs.declared.status.Status.TheVariants as status
use Rattle.marker_cli.specs.Documents.{Reading, tree_of}
use Rattle.marker_cli.specs.Output.{Output, ends, writes, goes_on}
use Rattle.marker_cli.specs.Turns.{with_text}

-- the account of an element, or the line that the path leads to none
abbrev pub account_or_refusal : Option (List ℕ) → List ℕ
account_or_refusal (Some text) = text
account_or_refusal None = codes "refused no-element\n"

-- the bytes of an aspect of a document under the text of a sheet: its dump, its lines of text, or the account of the element
-- at a path
abbrev pub aspect_bytes : Aspect → List ℕ → Forest Node → List ℕ
aspect_bytes Dump sheet tree = fresh_dump sheet tree
aspect_bytes Text sheet tree = text_view sheet tree
aspect_bytes (Why path) sheet tree = account_or_refusal (account sheet tree path)

-- the output of the command that writes this aspect, where DOC reads as this
abbrev pub aspect_output : Files → Aspect → (document sheet : List ℕ) → Reading → Output
aspect_output files aspect document sheet reading =
    with_text files (Word 1) document (λ text.
    with_text files (Word 2) sheet (λ style.
    goes_on (tree_of reading) (λ tree.
    writes (aspect_bytes aspect style tree) (ends status.Ok))))

-- of each element an evaluation takes three steps in each of its two walks, its entry is kept, and it is looked at
abbrev pub most_steps : Reading → ℕ
most_steps (Ok tree) = 8 * element_count tree
most_steps (Err place) = 0
