-- The command `bake DOC SHEET` (our own): it writes DOC with its generated texts put in.
use Rattle.std.specs.Prelude.{◌≡◌, ℕ, ◌+◌, ◌*◌, ◌==◌, if◌then◌else◌, List, Ok, Err, encode_utf8_all}
use Rattle.bake_book.specs.Dressing.{dressed_document}
use Rattle.bake_definitions.specs.Places.{left_out, placed}
use Rattle.bake_definitions.specs.Woven.{IsBaked}
use Rattle.baked_text.specs.Walks.{saturated}
use Rattle.document_walk.specs.Elements.{element_count}
use Rattle.forest.specs.Forest.{Forest}
use Rattle.plain_types.specs.declared.node.Node.{Node}
use Rattle.ports.specs.Files.{Files}
use Rattle.marker_cli.specs.declared.status.FileAt.TheVariants.{Word}
use Rattle.marker_cli.specs.declared.status.Status.{Status}
use Rattle.marker_cli.specs.declared.status.Status.TheVariants as status
use Rattle.marker_cli.specs.Documents.{Reading, tree_of}
use Rattle.marker_cli.specs.Output.{Output, ends, writes, goes_on}
use Rattle.marker_cli.specs.Turns.{text_in, with_text}

-- DOC bakes to this text, where both files have texts and DOC is a document: it is that text with those of its generated
-- texts that have a place
abbrev pub BakesTo : Files → (document sheet : List ℕ) → Reading → List ℕ → Type 0
BakesTo files document sheet reading baked =
    (text style : List ℕ) (tree : Forest Node) → text_in (Word 1) (files document) ≡ Ok text → text_in (Word 2) (files sheet) ≡ Ok style
    → reading ≡ Ok tree → IsBaked text (placed (dressed_document style tree)) baked

-- how a run ends that wrote all, where so many texts found no place
abbrev pub with_left_out : ℕ → Status
with_left_out count = if count == 0 then status.Ok else status.LeftOut count

-- the output of `bake DOC SHEET`, where DOC reads as this and bakes to this text
abbrev pub bake_output : Files → (document sheet : List ℕ) → Reading → List ℕ → Output
bake_output files document sheet reading baked =
    with_text files (Word 1) document (λ text.
    with_text files (Word 2) sheet (λ style.
    goes_on (tree_of reading) (λ tree.
    writes (encode_utf8_all baked) (ends (with_left_out (saturated (left_out (dressed_document style tree))))))))

-- of each element an evaluation takes three steps in each of its two walks, and its entry is kept; it is looked at at each of
-- its two tags, and at the first tag once more
abbrev pub most_bake_steps : Reading → ℕ
most_bake_steps (Ok tree) = 9 * element_count tree + 1
most_bake_steps (Err place) = 0
