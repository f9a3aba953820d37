use Rattle.std.proofs.Common.{ap, ◌∙◌, refl}
use Rattle.std.specs.Str.{chars}
use Rattle.plain_types.proofs.text.Text.new.Goals as goal

pub returns : goal.returns
unfolding chars
returns c = record { empty = ap chars c.new.ensures.bytes ∙ refl }
