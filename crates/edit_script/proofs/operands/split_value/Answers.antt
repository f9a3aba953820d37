use Rattle.std.proofs.Common.{refl}
use Rattle.std.specs.Str.{chars}
use Rattle.std.proofs.lemmas.Str.{chars-nil}
use Rattle.edit_script.specs.Machinery.Words.{with_value, without_value}
use Rattle.edit_script.proofs.WordLaws.{lacks_all, split_is}
use Rattle.edit_script.proofs.operands.split_value.Goals as goal

pub returns-in-Some-clause-found : goal.returns-in-Some-clause-found
returns-in-Some-clause-found c = with_value (split_is (chars c.args.text.now) (chars c.in-Some.parts.0.now, chars c.in-Some.parts.1.now) c.in-Some.ensures.reads)

pub returns-in-None-clause-found : goal.returns-in-None-clause-found
returns-in-None-clause-found c = without_value (lacks_all 32 (chars c.args.text.now) c.in-None.ensures.reads) refl chars-nil
