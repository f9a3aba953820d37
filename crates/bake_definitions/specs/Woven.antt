-- The pieces of a document's text with the insertions between them (our own).
use Rattle.std.specs.Prelude.{◌≡◌, ℕ, ◌-◌, cond, List, [], ◌∷◌, ◌++◌, codes, drop, get_or, length, map, take}
use Rattle.std.specs.List.{flat_map}
use Rattle.bake_definitions.specs.Baked.{Annotated}
use Rattle.bake_definitions.specs.Insertions.{Insertion, class_of, inserted_attrs, inserted_characters, inserted_name, is_referred, reference_to}
use Rattle.bake_definitions.specs.Pieces.{IsMadeOf, Piece, characters_of, mark_of, piece}
use Rattle.forest.specs.Forest.{Forest, Empty, Tree}
use Rattle.plain_types.specs.declared.attr.Attr.{Attr}
use Rattle.plain_types.specs.declared.node.Node.{Node}
use Rattle.plain_types.specs.declared.node.Node.TheVariants.{Element, Text}
use Rattle.xml_definitions.specs.Items.{Item, start_tag, empty_tag, end_tag, reference, plain_character}
use Rattle.reading.specs.Reading.{without_mark}

-- Insertions as pieces.

-- a character of an insertion: by reference, or as it is
abbrev pub character_piece : ℕ → Piece
character_piece c = cond (is_referred c) (piece (reference_to c) (reference c)) (piece (c ∷ []) (plain_character c))

abbrev pub end_piece : List ℕ → Piece
end_piece name = piece (codes "</" ++ name ++ codes ">") (end_tag name)

-- an insertion into an element of this name: a start tag with its class, its characters, an end tag
abbrev pub insertion_pieces : List ℕ → Insertion → List Piece
insertion_pieces name insertion =
    piece (codes "<" ++ inserted_name name ++ codes " class=\"" ++ class_of insertion.kind ++ codes "\">")
    (start_tag (inserted_name name) (inserted_attrs insertion.kind))
    ∷ (map character_piece (inserted_characters insertion) ++ end_piece (inserted_name name) ∷ [])

-- the characters of an insertion with its tags
abbrev pub insertion_text : List ℕ → Insertion → List ℕ
insertion_text name insertion = characters_of (insertion_pieces name insertion)

-- What is put in at each tag of a document, in the order of its tags: where an element begins, at the tags of its
-- content, and where it ends.
abbrev pub at_node : Node → List Insertion → List Insertion → List (List Piece) → List (List Piece)
at_node (Text characters) first last inside = inside
at_node (Element name attrs) first last inside =
    flat_map (insertion_pieces name) first ∷ (inside ++ flat_map (insertion_pieces name) last ∷ [])

abbrev pub at_tags : Forest Annotated → List (List Piece)
at_tags Empty = []
at_tags (Tree annotated children after) = at_node annotated.node annotated.first annotated.last (at_tags children) ++ at_tags after

-- Weaving.

-- how many tags an item stands for: an empty-element tag is one that begins an element and one that ends it
abbrev pub tags_in : Item → ℕ
tags_in (start_tag name attrs) = 1
tags_in (empty_tag name attrs) = 2
tags_in (end_tag name) = 1
tags_in _ = 0

-- what is put in at the next tag
abbrev pub at_next : List (List Piece) → List Piece
at_next puts = get_or puts 0 []

-- XML 1.0, 3.1: an empty-element tag as it is; or, where something is put in, as a start tag without its `/`, and an end
-- tag
abbrev pub opened : List ℕ → List Attr → Piece → List Piece → List Piece
opened name attrs tag [] = tag ∷ []
opened name attrs tag (first ∷ rest) =
    piece (take (length tag.characters - 2) tag.characters ++ codes ">") (start_tag name attrs)
    ∷ ((first ∷ rest) ++ end_piece name ∷ [])

-- a piece with what is put in at its tags: behind a start tag, before an end tag, within an empty-element tag
abbrev pub at_piece : Item → Piece → List (List Piece) → List Piece
at_piece (start_tag name attrs) p puts = p ∷ at_next puts
at_piece (empty_tag name attrs) p puts = opened name attrs p (at_next puts ++ at_next (drop 1 puts))
at_piece (end_tag name) p puts = at_next puts ++ p ∷ []
at_piece _ p puts = p ∷ []

-- the pieces, in their order, with what is put in at their tags
abbrev pub woven : List Piece → List (List Piece) → List Piece
woven [] puts = []
woven (p ∷ pieces) puts = at_piece p.item p puts ++ woven pieces (drop (tags_in p.item) puts)

-- What a text bakes to, with the insertions of a tree. That the text is one of that tree is not asked here, but by the laws.
pub record IsBaked (text : List ℕ) (document : Forest Annotated) (output : List ℕ) : Type 0 where
  pub pieces : List Piece
  pub made_of : IsMadeOf (without_mark text) pieces
  pub output_is : output ≡ mark_of text ++ characters_of (woven pieces (at_tags document))
