-- What a text reads as: a tree, or the place where it fails.
use Rattle.std.specs.Prelude.{ℕ, List, Result, Ok, Err}
use Rattle.forest.specs.Forest.{Forest}
use Rattle.plain_types.specs.declared.node.Node.{Node}
use Rattle.xml_definitions.specs.Faults.{FailsAsDocument, FailsAsFragment}
use Rattle.xml_definitions.specs.Texts.{IsDocumentText, IsFragmentText}

-- the text is a document with this tree, or it is none, and its fault is on this line and in this column
abbrev pub ReadsAsDocument : List ℕ → Result (Forest Node) (ℕ × ℕ) → Type 0
ReadsAsDocument text (Ok tree) = IsDocumentText text tree
ReadsAsDocument text (Err place) = FailsAsDocument text place.0 place.1

-- the text is a fragment with this tree, or it is none, and its fault is on this line and in this column
abbrev pub ReadsAsFragment : List ℕ → Result (Forest Node) (ℕ × ℕ) → Type 0
ReadsAsFragment text (Ok tree) = IsFragmentText text tree
ReadsAsFragment text (Err place) = FailsAsFragment text place.0 place.1
