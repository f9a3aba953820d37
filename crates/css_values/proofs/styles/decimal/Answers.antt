use Rattle.std.proofs.Common.{refl, ap, ◌∙◌}
use Rattle.std.specs.Str.{chars}
use Rattle.plain_types.specs.declared.style_ref.StyleRef.TheVariants as style_ref
use Rattle.css_values.proofs.styles.decimal.Goals as goal

pub returns : goal.returns
unfolding chars
returns c = ap style_ref.Name (c.in_ok-from_str.ensures.characters ∙ refl)
