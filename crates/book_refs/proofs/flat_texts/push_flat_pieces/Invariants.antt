use Rattle.std.proofs.Common.{◌≡◌, ◌≤◌, ◌+◌, ◌++◌, take}
use Rattle.std.specs.List.{count_by}
use Rattle.book_definitions.specs.Texts.{flat_in_volume}
use Rattle.box_pieces.specs.BoxPieces.{has_url}
use Rattle.book_refs.proofs.flat_texts.push_flat_pieces.Given as goal

abbrev pub invariant-loop-piece : goal.invariant-loop-piece
invariant-loop-piece g l = record {
  written : l.out ≡ l.fn.out ++ flat_in_volume l.volume l.own (take l.piece-index l.pieces);
  spent : l.steps ≤ l.fn.steps + count_by has_url (take l.piece-index l.pieces);
}
