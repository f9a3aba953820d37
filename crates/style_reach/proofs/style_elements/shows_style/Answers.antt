use Rattle.std.proofs.Common.{subst, ◌∙◌}
use Rattle.plain_types.specs.View.{Shows}
use Rattle.style_reach.proofs.StyleLookups.{is_style_shown}
use Rattle.style_reach.proofs.style_elements.shows_style.Goals as goal

pub returns-in-Element : goal.returns-in-Element
returns-in-Element c = λ node shows. c.eq.ensures ∙ is_style_shown node c.in-Element.name c.in-Element.attrs (subst (Shows node) c.in-Element.is shows)
