use Rattle.baked_text.proofs.TakenOut.{taken_again}
use Rattle.baked_text.proofs.laws.taken_out_again.Goals as goal

pub returns : goal.returns
returns c = λ document none. taken_again document none
