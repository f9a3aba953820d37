use Rattle.baked_text.proofs.BakedLaws.{one_baked}
use Rattle.baked_text.proofs.laws.one_output.Goals as goal

pub returns : goal.returns
returns c = λ text output other document first second. one_baked text output other document first second
