-- The pieces of a box, as they are kept.
use Rattle.std.specs.Prelude.{List, Option, Some, None, cond}
use Rattle.std.specs.Option.{option_and_then}
use Rattle.plain_types.specs.declared.box_kind.BoxKind.{BoxKind}
use Rattle.plain_types.specs.declared.box_kind.BoxKind.TheVariants.{Element, Marker, Before, After}
use Rattle.content_eval.specs.declared.generated.Piece.{Piece}
use Rattle.box_pieces.specs.BoxPieces.{some_has_url}
use Rattle.box_pieces.specs.declared.box_pieces.BoxPieces.{BoxPieces}
use Rattle.kept_elements.specs.declared.kept.Kept.{Kept}

-- those of this box, of all that are kept of an element
abbrev pub kept_box : BoxPieces → BoxKind → Option (List Piece)
kept_box boxes Element = None
kept_box boxes Marker = boxes.marker
kept_box boxes Before = boxes.before
kept_box boxes After = boxes.after

-- pieces, where one of them has a url
abbrev pub where_url : List Piece → Option (List Piece)
where_url pieces = cond (some_has_url pieces) (Some pieces) None

-- the pieces of this box of an element of which this is kept, where one of them has a url
abbrev pub kept_pieces : Kept → BoxKind → Option (List Piece)
kept_pieces kept kind = option_and_then (λ (boxes : BoxPieces). option_and_then where_url (kept_box boxes kind)) kept.pieces
