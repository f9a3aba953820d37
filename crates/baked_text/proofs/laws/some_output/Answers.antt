use Rattle.baked_text.proofs.SomeBaked.{some_baked}
use Rattle.baked_text.proofs.laws.some_output.Goals as goal

pub returns : goal.returns
returns c = λ text document is. some_baked text document is
