use Rattle.std.proofs.Common.{◌≡◌, ◌++◌, flat_map, take}
use Rattle.dirty_walk.specs.Machinery.ReferenceLists.{piece_references}
use Rattle.dirty_walk.proofs.reference_exchange.put_pieces.Given as goal

abbrev pub invariant-loop-piece : goal.invariant-loop-piece
invariant-loop-piece l = l.references ≡ l.fn.references ++ flat_map (piece_references l.key) (take l.piece-index l.pieces)
