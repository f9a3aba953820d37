use Rattle.std.proofs.Common.{ap, ◌∙◌}
use Rattle.std.specs.Str.{bytes_eq, chars}
use Rattle.plain_types.proofs.TextLemmas.{bytes_eq-chars}
use Rattle.counter_index.proofs.values.is_same.Goals as goal

pub returns : goal.returns
returns c = record {
  test = c.eq.ensures ∙ bytes_eq-chars _ _ c.as_str.utf8 c.utf8.other ∙ ap (λ text. bytes_eq text (chars c.args.other.now)) c.as_str.ensures.characters;
}
