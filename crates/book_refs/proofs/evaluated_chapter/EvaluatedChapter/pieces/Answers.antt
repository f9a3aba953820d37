use Rattle.std.proofs.Common.{◌∙◌, ap}
use Rattle.std.specs.Option.{option_and_then}
use Rattle.book_definitions.specs.Chapters.{Chapter}
use Rattle.dirty_walk.specs.Books.{StyledDocument}
use Rattle.dirty_walk.specs.FreshPieces.{fresh_pieces, pieces_to_refer}
use Rattle.book_refs.specs.Machinery.VolumeBoxes.{box_at}
use Rattle.book_refs.proofs.BoxTexts.{refers_at}
use Rattle.book_refs.proofs.evaluated_chapter.EvaluatedChapter.pieces.Goals as goal

pub returns-clause-pieces : goal.returns-clause-pieces
returns-clause-pieces g c =
    c.pieces.ensures.pieces
    ∙ ap (λ (styled : StyledDocument). fresh_pieces styled c.args.key c.args.kind) c.book.ensures.book
    ∙ refers_at c.self.inside.name c.self.inside.engine c.args.key c.args.kind
    ∙ ap (λ (chapter : Chapter). option_and_then pieces_to_refer (box_at chapter c.args.key c.args.kind)) c.self.view_is
