use Rattle.book_definitions.proofs.PieceLemmas.{one_target, without_target, without_urls}
use Rattle.book_definitions.proofs.laws.texts_are_told_piece_by_piece.Goals as goal

pub returns : goal.returns
returns c = record { boxes = without_urls; pieces = one_target; empty = without_target }
