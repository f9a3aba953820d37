-- The pieces of a document's boxes that can show what other elements have (our own, over CSS Generated Content 3, 2.6).
use Rattle.std.specs.Prelude.{ℕ, List, Option, Some, None, cond}
use Rattle.std.specs.Option.{option_and_then}
use Rattle.plain_types.specs.declared.box_kind.BoxKind.{BoxKind}
use Rattle.plain_types.specs.declared.box_kind.BoxKind.TheVariants.{Element, Marker, Before, After}
use Rattle.content_eval.specs.declared.generated.Piece.{Piece}
use Rattle.box_eval.specs.declared.element_record.ElementRecord.{ElementRecord}
use Rattle.box_eval.specs.declared.made.Made.{Made}
use Rattle.box_pieces.specs.BoxPieces.{some_has_url}
use Rattle.generated_texts.specs.Documents.{document_evaluation}
use Rattle.generated_texts.specs.References.{kept_at}
use Rattle.generated_texts.specs.StyleElements.{author_sheet}
use Rattle.dirty_walk.specs.Books.{StyledDocument}

-- the marker, before or after box of an element; its own box has no pieces
abbrev pub box_with_pieces : ElementRecord → BoxKind → Option Made
box_with_pieces element Element = None
box_with_pieces element Marker = element.marker
box_with_pieces element Before = element.before
box_with_pieces element After = element.after

-- the pieces of a box, where one of them has a url, whatever the url names; else they are characters alone
abbrev pub pieces_to_refer : Made → Option (List Piece)
pieces_to_refer made = cond (some_has_url made.pieces) (Some made.pieces) None

-- these of a box of the element of this key, by a fresh evaluation
abbrev pub fresh_pieces : StyledDocument → ℕ → BoxKind → Option (List Piece)
fresh_pieces styled key kind =
    option_and_then (λ (element : ElementRecord). option_and_then pieces_to_refer (box_with_pieces element kind))
    (kept_at (document_evaluation (author_sheet styled.sheet styled.tree) styled.tree) key)
