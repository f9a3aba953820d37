use Rattle.baked_text.proofs.ShownLaws.{counts_add_up}
use Rattle.baked_text.proofs.laws.none_lost.Goals as goal

pub returns : goal.returns
returns c = λ document. counts_add_up document
