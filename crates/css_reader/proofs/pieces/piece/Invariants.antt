use Rattle.std.proofs.Common.{◌≤◌, length, reverse}
use Rattle.css_reader.proofs.Cutting.{Cuts}
use Rattle.css_reader.proofs.pieces.piece.Given as goal

abbrev pub invariant-tokens : goal.invariant-tokens
invariant-tokens g l = record { cuts : Cuts g.E.PieceEnd.ends l.tokens (reverse l.waiting.items) l.rest; within : length l.rest ≤ length l.tokens }

abbrev pub decreases-tokens : goal.decreases-tokens
decreases-tokens g l = length l.rest
