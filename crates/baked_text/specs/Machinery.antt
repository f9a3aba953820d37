-- What the contracts of private functions say: how the code writes insertions and tags, and splits a text. No promise of
-- the crate rests on these.
use Rattle.std.specs.Prelude.{◌≡◌, ℕ, ◌+◌, Bool, false, ◌&&◌, ◌||◌, not, ◌==◌, nat_lt, cond, List, [], ◌∷◌, ◌++◌, codes, drop, length, map}
use Rattle.std.specs.List.{flat_map}
use Rattle.bake_definitions.specs.Insertions.{as_legal, is_referred, takes_span}
use Rattle.bake_definitions.specs.Pieces.{IsMadeOf, Piece, characters_of, read_of}
use Rattle.bake_definitions.specs.Tags.{Tag}
use Rattle.bake_definitions.specs.Woven.{character_piece, insertion_pieces, tags_in, woven}
use Rattle.xhtml_reader.specs.Machinery.LineEnds.{begins_with_line_feed}
use Rattle.xml_definitions.specs.Items.{Item}
use Rattle.xml_definitions.specs.Normalized.{with_line_feeds}
use Rattle.xml_definitions.specs.Spelling.{Spells, is_legal}

-- Insertions.

-- a character that is written as it is
abbrev pub is_straight : ℕ → Bool
is_straight c = is_legal c && not (is_referred c)

-- a character as it is written
abbrev pub shown : ℕ → List ℕ
shown c = (character_piece (as_legal c)).characters

-- Splitting.

-- what stands behind the first character, or behind a line end of two characters
abbrev pub past_first : List ℕ → List ℕ
past_first [] = []
past_first (c ∷ rest) = cond (c == 13 && begins_with_line_feed rest) (drop 1 rest) rest

-- Where a text has a front that reads as this, and no line end is cut behind it, it is split there.
abbrev pub SplitsAs : List ℕ → List ℕ → List ℕ → List ℕ → Type 0
SplitsAs kept read first second =
    (xs ys : List ℕ) → kept ≡ xs ++ ys → with_line_feeds (xs ++ ys) ≡ with_line_feeds xs ++ with_line_feeds ys → with_line_feeds xs ≡ read
    → (first ≡ xs) × (second ≡ ys)

-- Tags.

-- what is put in at a tag; where its element takes no `span`, nothing
abbrev pub pieces_at : Tag → List Piece
pieces_at tag = cond (takes_span tag.name) (flat_map (insertion_pieces tag.name) tag.insertions) []

abbrev pub text_at : Tag → List ℕ
text_at tag = characters_of (pieces_at tag)

-- something is put in at a tag
abbrev pub has_some : Tag → Bool
has_some tag = takes_span tag.name && nat_lt 0 (length tag.insertions)

-- how many insertions find no place at a tag, and at several
abbrev pub left_out_at : Tag → ℕ
left_out_at tag = cond (takes_span tag.name) 0 (length tag.insertions)

abbrev pub left_out_on : List Tag → ℕ
left_out_on [] = 0
left_out_on (tag ∷ tags) = left_out_at tag + left_out_on tags

-- the end of a start tag that has none yet, where something is put in behind it
abbrev pub opening : Bool → Tag → List ℕ
opening is_ended tag = cond (has_some tag && not is_ended) (codes ">") []

-- behind what is put in an end tag, and else the end of an empty-element tag
abbrev pub closing : Bool → List ℕ → List ℕ
closing is_ended name = cond is_ended (codes "</" ++ name ++ codes ">") (codes "/>")

-- an empty-element tag of this name that stands so before its `/>`, with what is put in at it
abbrev pub tag_text : List ℕ → List ℕ → Tag → Tag → List ℕ
tag_text name front first last =
    front ++ ((opening false first ++ text_at first) ++ ((opening (has_some first) last ++ text_at last) ++ closing (has_some first || has_some last) name))

-- Texts.

-- an item as it stands in a file, as a piece
pub record IsPiece (item : Item) (characters : List ℕ) (p : Piece) : Type 0 where
  pub item_is : item ≡ p.item
  pub characters_are : p.characters ≡ characters
  pub spelled : Spells (read_of p) p.item

-- a text stands in the file like this, reads like this, and has these pieces
pub record IsRead (kept read : List ℕ) (pieces : List Piece) : Type 0 where
  pub made_of : IsMadeOf kept pieces
  pub read_is : with_line_feeds kept ≡ read

-- what pieces become with what is put in at these tags
abbrev pub woven_text : List Piece → List Tag → List ℕ
woven_text pieces tags = characters_of (woven pieces (map pieces_at tags))

-- how many tags there are among pieces
abbrev pub tags_among : List Piece → ℕ
tags_among [] = 0
tags_among (p ∷ pieces) = tags_in p.item + tags_among pieces
