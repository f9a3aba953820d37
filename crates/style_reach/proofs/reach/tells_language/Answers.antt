use Rattle.std.proofs.Common.{◌&&◌, sym, ap, ◌∙◌}
use Rattle.std.specs.Prelude.{codes}
use Rattle.std.specs.Str.{bytes_eq}
use Rattle.style_reach.specs.TouchedSheets.{is_style_of, passes}
use Rattle.style_reach.proofs.StyleLookups.{is-type}
use Rattle.style_reach.proofs.reach.tells_language.Goals as goal

pub returns-then-is_style : goal.returns-then-is_style
returns-then-is_style c =
    let test = is_style_of c.args.arena.now.tree in
    let name = c.args.name.now in
    c.eq.ensures
    ∙ is-type c.as_str.result.now name (record { read = c.as_str.ensures.characters; written = c.as_str.ensures.bytes })
    ∙ ap (λ b. b && bytes_eq name (codes "type")) (sym (ap (passes test) (sym c.in-Some.ensures.link) ∙ sym c.is_style.ensures ∙ c.if-is_style.true))

pub returns-else-is_style : goal.returns-else-is_style
returns-else-is_style c =
    let test = is_style_of c.args.arena.now.tree in
    c.if-is_style.false ∙ ap (λ b. b && bytes_eq c.args.name.now (codes "type")) (sym (ap (passes test) (sym c.in-Some.ensures.link) ∙ sym c.is_style.ensures ∙ c.if-is_style.false))
