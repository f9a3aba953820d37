use Rattle.std.proofs.Common.{ap, ◌∙◌}
use Rattle.std.specs.Str.{bytes_eq, chars}
use Rattle.plain_types.proofs.TextLemmas.{bytes_eq-chars}
use Rattle.evaluation_rows.proofs.listed.has_id.Goals as goal

pub returns : goal.returns
returns c = record {
  test = c.eq.ensures ∙ bytes_eq-chars _ _ c.utf8.id c.as_str.utf8 ∙ ap (bytes_eq (chars c.args.id.now)) c.as_str.ensures.characters;
}
