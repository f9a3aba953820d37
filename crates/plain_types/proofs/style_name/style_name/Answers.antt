use Rattle.std.proofs.Common.{refl, ◌∙◌, ap, unwrap_or}
use Rattle.std.specs.Str.{chars}
use Rattle.plain_types.specs.StyleNames.{predefined_names}
use Rattle.plain_types.proofs.StyleNameLemmas.{named, now_unwrap_or}
use Rattle.plain_types.proofs.style_name.style_name.Goals as goal

pub returns : goal.returns
returns c = record {
  name =
      ap chars (ap (λ r. r.now) c.unwrap_or.ensures ∙ now_unwrap_or c.first_equal.result c.args.name ∙ ap (λ found. unwrap_or found c.args.name.now) c.first_equal.ensures.first)
      ∙ named predefined_names c.args.name.now c.utf8.name refl;
}
