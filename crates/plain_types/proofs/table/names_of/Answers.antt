use Rattle.std.proofs.Common.{ap, ◌∙◌}
use Rattle.std.specs.Str.{chars}
use Rattle.std.specs.String.{string_bytes}
use Rattle.std.proofs.lemmas.Str.{IsUtf8-string_bytes}
use Rattle.plain_types.proofs.NameLemmas.{names_more}
use Rattle.plain_types.proofs.table.names_of.Goals as goal

pub loop-style-preserved : goal.loop-style-preserved
loop-style-preserved c =
    rw c.in_ok-insert.ensures.keys
    (names_more string_bytes IsUtf8-string_bytes c.args.styles.now c.loop-style.style-index c.style-item.result c.loop-style.names.keys c.in_ok-from_str.field-0 c.requires.distinct c.loop-style-test.true c.style-item.is c.loop-style.invariant
    (ap chars c.in_ok-from_str.ensures.ok ∙ c.as_str.ensures.characters))
