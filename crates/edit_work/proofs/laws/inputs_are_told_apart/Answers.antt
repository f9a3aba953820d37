use Rattle.edit_work.proofs.LawLemmas.{test_tells_inputs}
use Rattle.edit_work.proofs.laws.inputs_are_told_apart.Goals as goal

pub returns : goal.returns
returns c = record { test = test_tells_inputs }
