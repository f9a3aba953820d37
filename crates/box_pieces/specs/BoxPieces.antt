-- The pieces of an element's boxes, where one of them has a url (our own, over CSS Generated Content 3, 2.6).
use Rattle.std.specs.Prelude.{Bool, true, false, ◌||◌, List, Option, Some, None, if◌then◌else◌, is_some, option_map}
use Rattle.std.specs.List.{list_any}
use Rattle.std.specs.Option.{option_map_or}
use Rattle.content_eval.specs.Targets.{reference}
use Rattle.content_eval.specs.declared.generated.Piece.{Piece}
use Rattle.content_eval.specs.declared.generated.Piece.TheVariants as piece
use Rattle.box_eval.specs.declared.element_record.ElementRecord.{ElementRecord}
use Rattle.box_eval.specs.declared.made.Made.{Made}
use Rattle.box_pieces.specs.declared.box_pieces.BoxPieces.{BoxPieces}

-- Boxes that refer to other elements.

-- some piece refers to an id, whether an element has it or not
abbrev pub some_refers : List Piece → Bool
some_refers pieces = list_any (λ piece. is_some (reference piece)) pieces

abbrev pub refers_in : Option Made → Bool
refers_in made = option_map_or (λ (box : Made). some_refers box.pieces) made false

-- a box of an element refers to one
abbrev pub refers : ElementRecord → Bool
refers element = refers_in element.marker || (refers_in element.before || refers_in element.after)

-- Boxes with urls.

-- 2.6: a piece has a url if a target function gives it, whatever the url names; characters have none
abbrev pub has_url : Piece → Bool
has_url (piece.Chars text) = false
has_url (piece.TargetCounter url name style) = true
has_url (piece.TargetCounters url name between style) = true
has_url (piece.TargetText url part) = true

abbrev pub some_has_url : List Piece → Bool
some_has_url pieces = list_any has_url pieces

abbrev pub has_url_in : Option Made → Bool
has_url_in made = option_map_or (λ (box : Made). some_has_url box.pieces) made false

-- a piece of a box of an element has one
abbrev pub has_urls : ElementRecord → Bool
has_urls element = has_url_in element.marker || (has_url_in element.before || has_url_in element.after)

-- Pieces.

-- the pieces of a box
abbrev pub pieces_in : Made → List Piece
pieces_in made = made.pieces

-- those of the boxes of an element
abbrev pub pieces_of : ElementRecord → BoxPieces
pieces_of element =
    record { marker = option_map pieces_in element.marker; before = option_map pieces_in element.before; after = option_map pieces_in element.after }

-- those of an element with a url
abbrev pub pieces_with_urls : ElementRecord → Option BoxPieces
pieces_with_urls element = if has_urls element then Some (pieces_of element) else None
