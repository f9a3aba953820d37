-- What an engine stands for (our own).
use Rattle.std.specs.Prelude.{◌≡◌, ℕ, List, true}
use Rattle.forest.specs.Forest.{Forest}
use Rattle.forest.specs.Keys.{without_keys}
use Rattle.plain_types.specs.declared.node.Node.{Node}
use Rattle.dirty_walk.specs.Books.{StyledDocument, Keeps}

-- a document, and the text of its style sheet
pub record Source : Type 0 where
  pub tree : Forest Node
  pub sheet : List ℕ

-- those of a document whose nodes have keys
abbrev pub source_of : StyledDocument → Source
source_of styled = record { tree = without_keys styled.tree; sheet = styled.sheet }

-- a book is settled, and keeps what a fresh evaluation does
abbrev pub IsEvaluated : StyledDocument → Type 0
IsEvaluated book = (book.settled ≡ true) × Keeps book
