use Rattle.std.proofs.Common.{◌≡◌, ◌≤◌, ◌+◌, ◌*◌, take}
use Rattle.std.specs.List.{sum_by}
use Rattle.book_definitions.specs.Texts.{full_in_volume}
use Rattle.book_refs.specs.ShowWork.{piece_work}
use Rattle.book_refs.proofs.full_texts.full_text.Given as goal

abbrev pub invariant-loop-piece : goal.invariant-loop-piece
invariant-loop-piece g l = record {
  written : l.text ≡ full_in_volume l.volume l.own (take l.piece-index l.pieces);
  spent : l.steps ≤ l.fn.steps + 4 * sum_by (piece_work l.volume l.own) (take l.piece-index l.pieces);
}
