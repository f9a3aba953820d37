use Rattle.edit_script.proofs.OneLaws.{one_action}
use Rattle.edit_script.proofs.laws.one_action.Goals as goal

pub returns : goal.returns
returns c = λ kind line action other is too. one_action kind line action other is too
