-- Where a text stops being a document or a fragment. Which place that is, is our own.
use Rattle.std.specs.Prelude.{◌≡◌, ℕ, ◌+◌, ◌≤◌, if◌then◌else◌, ◌==◌, List, [], ◌∷◌, ◌++◌, length, take}
use Rattle.std.specs.List.{list_any}
use Rattle.forest.specs.Forest.{Forest}
use Rattle.plain_types.specs.declared.node.Node.{Node}
use Rattle.xml_definitions.specs.Documents.{IsDocument}
use Rattle.xml_definitions.specs.Fragments.{IsFragment}
use Rattle.xml_definitions.specs.Items.{Item, ArePieces}
use Rattle.xml_definitions.specs.Normalized.{normalized}
use Rattle.xml_definitions.specs.Spelling.{Spells}
use Rattle.xml_definitions.specs.Texts.{Grammar, HasTree}

-- Lines.

-- how many line feeds there are
abbrev pub line_feeds : List ℕ → ℕ
line_feeds [] = 0
line_feeds (first ∷ rest) = (if first == 10 then 1 else 0) + line_feeds rest

-- the characters after the last line feed
abbrev pub last_line : List ℕ → List ℕ
last_line [] = []
last_line (first ∷ rest) = if list_any (λ c. c == 10) (first ∷ rest) then last_line rest else first ∷ rest

-- Places.

module _ (Allows : Grammar) where
  -- the items of some text that the grammar allows begin with these
  pub record Begins (items : List Item) : Type 0 where
    pub text : List ℕ
    pub more : List Item
    pub tree : Forest Node
    pub spelled : ArePieces Spells text (items ++ more)
    pub allowed : Allows (items ++ more) tree

  -- the characters spell items with which those of some allowed text begin
  abbrev pub IsSound : List ℕ → Type 0
  IsSound characters = (items : List Item) × ArePieces Spells characters items × Begins items

  -- this many characters are the longest front that is sound
  pub record IsFaultPlace (characters : List ℕ) (place : ℕ) : Type 0 where
    pub within : place ≤ length characters
    pub sound : IsSound (take place characters)
    pub longest : (other : ℕ) → other ≤ length characters → IsSound (take other characters) → other ≤ place

  -- The characters have no tree, and their fault is on this line and in this column, both from 1.
  pub record FailsAt (characters : List ℕ) (line column : ℕ) : Type 0 where
    pub none : (tree : Forest Node) → HasTree Allows characters tree → ⊥
    pub place : ℕ
    pub fault : IsFaultPlace characters place
    pub line_is : line ≡ 1 + line_feeds (take place characters)
    pub column_is : column ≡ 1 + length (last_line (take place characters))

-- the text is no document, and its fault is here
abbrev pub FailsAsDocument : List ℕ → ℕ → ℕ → Type 0
FailsAsDocument text line column = FailsAt IsDocument (normalized text) line column

-- the text is no fragment, and its fault is here
abbrev pub FailsAsFragment : List ℕ → ℕ → ℕ → Type 0
FailsAsFragment text line column = FailsAt IsFragment (normalized text) line column
