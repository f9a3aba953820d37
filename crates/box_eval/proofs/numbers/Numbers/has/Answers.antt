use Rattle.std.proofs.Common.{◌∙◌, ap, is_some}
use Rattle.std.specs.Str.{chars}
use Rattle.box_eval.proofs.PlaceLemmas.{number_any}
use Rattle.box_eval.proofs.numbers.Numbers.has.Goals as goal

pub returns : goal.returns
returns c = record { test = c.is_some.ensures ∙ ap is_some c.get.ensures.number ∙ number_any (chars c.args.name.now) c.args.self.now }
