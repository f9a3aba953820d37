-- A text as the pieces of which it is made (our own).
use Rattle.std.specs.Prelude.{◌≡◌, ℕ, ◌==◌, if◌then◌else◌, List, [], ◌∷◌, map}
use Rattle.std.specs.List.{flat_map}
use Rattle.xml_definitions.specs.Items.{Item}
use Rattle.xml_definitions.specs.Normalized.{with_line_feeds}
use Rattle.xml_definitions.specs.Spelling.{Spells}

-- the characters of an item as they stand in the file, and the item
pub record Piece : Type 0 where
  pub characters : List ℕ
  pub item : Item

abbrev pub piece : List ℕ → Item → Piece
piece characters item = record { characters = characters; item = item }

abbrev pub characters_of : List Piece → List ℕ
characters_of pieces = flat_map (λ (p : Piece). p.characters) pieces

abbrev pub items_of : List Piece → List Item
items_of pieces = map (λ (p : Piece). p.item) pieces

-- the characters of a piece as they are read: XML 1.0, 2.11
abbrev pub read_of : Piece → List ℕ
read_of p = with_line_feeds p.characters

-- each piece spells its item
abbrev pub AreSpelled : List Piece → Type 0
AreSpelled [] = Unit {0}
AreSpelled (p ∷ pieces) = Spells (read_of p) p.item × AreSpelled pieces

-- A text that has no byte order mark any more is these pieces. No line end of two characters lies in two of them: the text
-- reads as its pieces read one by one.
pub record IsMadeOf (text : List ℕ) (pieces : List Piece) : Type 0 where
  pub text_is : characters_of pieces ≡ text
  pub apart : with_line_feeds text ≡ flat_map read_of pieces
  pub spelled : AreSpelled pieces

-- XML 1.0, 4.3.3: the byte order mark at the front of a text, if there is one
abbrev pub mark_of : List ℕ → List ℕ
mark_of [] = []
mark_of (first ∷ rest) = if first == 0xfeff then first ∷ [] else []
