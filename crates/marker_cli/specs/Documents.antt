-- What DOC reads as (our own).
use Rattle.std.specs.Prelude.{◌≡◌, ℕ, List, Result, Ok, Err}
use Rattle.forest.specs.Forest.{Forest}
use Rattle.plain_types.specs.declared.node.Node.{Node}
use Rattle.ports.specs.Files.{Files}
use Rattle.xhtml_reader.specs.Readings.{ReadsAsDocument}
use Rattle.marker_cli.specs.declared.status.FileAt.TheVariants.{Word}
use Rattle.marker_cli.specs.declared.status.Status.{Status}
use Rattle.marker_cli.specs.declared.status.Status.TheVariants.{BadDocument}
use Rattle.marker_cli.specs.Turns.{text_in}

-- what a text reads as, which is to be a document: its tree, or the line and the column of its fault
abbrev pub Reading : Type 0
Reading = Result (Forest Node) (ℕ × ℕ)

-- DOC reads as this, where both files have texts
abbrev pub DocumentReadsAs : Files → List ℕ → List ℕ → Reading → Type 0
DocumentReadsAs files document sheet reading =
    (text style : List ℕ) → text_in (Word 1) (files document) ≡ Ok text → text_in (Word 2) (files sheet) ≡ Ok style → ReadsAsDocument text reading

-- the tree of a document, or the status with which it ends the run
abbrev pub tree_of : Reading → Result (Forest Node) Status
tree_of (Ok tree) = Ok tree
tree_of (Err place) = Err (BadDocument place.0 place.1)
