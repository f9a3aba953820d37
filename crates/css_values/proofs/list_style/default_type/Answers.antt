use Rattle.std.proofs.Common.{◌≡◌, ℕ, ap, List, arith}
use Rattle.std.specs.Str.{chars}
use Rattle.plain_types.specs.declared.style.ListType.TheVariants as list_type
use Rattle.plain_types.specs.declared.style_ref.StyleRef.TheVariants as style_ref
use Rattle.css_values.proofs.list_style.default_type.Goals as goal

pub returns : goal.returns
unfolding chars
returns c =
    let zero : c.args.nones ≡ 0 = omega arith in
    rw zero (ap (λ (name : List ℕ). list_type.Style (style_ref.Name name)) c.in_ok-disc.ensures.characters)
