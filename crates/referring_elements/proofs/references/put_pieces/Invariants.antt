use Rattle.std.proofs.Common.{◌≡◌, ◌++◌, flat_map, take}
use Rattle.referring_elements.specs.References.{piece_changes}
use Rattle.referring_elements.proofs.references.put_pieces.Given as goal

abbrev pub invariant-loop-piece : goal.invariant-loop-piece
invariant-loop-piece l = l.changes ≡ l.fn.changes ++ flat_map (piece_changes l.key) (take l.piece-index l.pieces)
