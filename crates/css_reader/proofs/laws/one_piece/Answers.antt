use Rattle.css_reader.proofs.Cutting.{past_piece_is}
use Rattle.css_reader.proofs.laws.one_piece.Goals as goal

pub returns : goal.returns
returns c = record { law = past_piece_is }
