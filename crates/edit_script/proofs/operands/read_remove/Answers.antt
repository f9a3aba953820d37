use Rattle.std.specs.Str.{chars}
use Rattle.edit_script.proofs.OperandLaws.{remove_is}
use Rattle.edit_script.proofs.operands.read_remove.Goals as goal

pub returns-clause-found : goal.returns-clause-found
returns-clause-found c = remove_is (chars c.args.operands.now) c.in_ok-path.path c.in_ok-path.ensures.found
