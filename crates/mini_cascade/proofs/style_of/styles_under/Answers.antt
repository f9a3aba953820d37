use Rattle.std.proofs.Common.{◌≡◌, Option, Some, None, option_copied, unwrap_or, refl, ap, ◌∙◌}
use Rattle.std.specs.Borrow.{Bor}
use Rattle.plain_types.specs.declared.style.Style.{Style}
use Rattle.mini_cascade.specs.Properties.{initial_values}
use Rattle.mini_cascade.specs.Styles.{style_under, with_pseudo_styles}
use Rattle.mini_cascade.proofs.style_of.styles_under.Goals as goal

now-unwrap_or : (parent : Option (Bor Style)) (initial : Bor Style) → (unwrap_or parent initial).now ≡ unwrap_or (option_copied parent) initial.now
now-unwrap_or None initial = refl
now-unwrap_or (Some parent) initial = refl

pub returns : goal.returns
returns c =
    let lists = c.args.lists.now in
    let above : c.unwrap_or-above.result.now ≡ unwrap_or (option_copied c.args.parent) initial_values =
    ap (λ (shown : Bor Style). shown.now) c.unwrap_or-above.ensures
    ∙ now-unwrap_or c.args.parent _
    ∙ ap (λ (initial : Style). unwrap_or (option_copied c.args.parent) initial) c.in_ok-initial.ensures in
    let own = c.in_ok-own.ensures ∙ ap (style_under lists.own) above in
    rw (c.in_ok-marker.ensures, c.in_ok-before.ensures, c.in_ok-after.ensures) (ap (with_pseudo_styles lists.own lists.marker lists.before lists.after) own)
