-- The items of which a document's text is made.
use Rattle.std.specs.Prelude.{◌≡◌, ℕ, List, [], ◌∷◌, ◌++◌}
use Rattle.plain_types.specs.declared.attr.Attr.{Attr}

-- An item (our own word) is a doctype, a comment, a processing instruction, a start-tag, an empty-element
-- tag, an end-tag, a reference, a CDATA section, or one other character. The attributes of a tag stand in
-- their order; that their names differ belongs to how the tag is spelled (XML 1.0, 3.1).
pub data Item : Type 0 where
  doctype : Item
  comment : Item
  instruction : Item
  start_tag : (name : List ℕ) (attrs : List Attr) → Item
  empty_tag : (name : List ℕ) (attrs : List Attr) → Item
  end_tag : (name : List ℕ) → Item
  reference : (character : ℕ) → Item
  section : (characters : List ℕ) → Item
  plain_character : (character : ℕ) → Item

-- the characters are these pieces, one after the other, each spelled as `Spells` says
module _ {Piece : Type 0} (Spells : List ℕ → Piece → Type 0) where
  abbrev pub ArePieces : List ℕ → List Piece → Type 0
  ArePieces characters [] = characters ≡ []
  ArePieces characters (piece ∷ pieces) =
      (front : List ℕ) × (rest : List ℕ) × Spells front piece × ArePieces rest pieces × (characters ≡ front ++ rest)
