use Rattle.evaluation_rows.proofs.NewBoxes.{first_new}
use Rattle.evaluation_rows.proofs.evaluation.first_are_new.Goals as goal

pub returns : goal.returns
returns c = λ yes. first_new c.args.inputs.now.key c.args.style.now c.args.inputs.now (c.are_new.ensures yes)
