use Rattle.std.proofs.Common.{◌∙◌, ◌&&◌, true, ap, refl, sym}
use Rattle.std.specs.Prelude.{codes}
use Rattle.std.specs.Option.{option_map_or}
use Rattle.forest.specs.Spots.{label_of}
use Rattle.node_arena.specs.Nodes.{attr_of}
use Rattle.generated_texts.specs.StyleElements.{is_css}
use Rattle.dirty_walk.proofs.StyleElementLemmas.{has_sheet_by}
use Rattle.dirty_walk.proofs.style_elements.has_sheet.Goals as goal

pub returns-then-eq : goal.returns-then-eq
returns-then-eq c =
    ap (λ named. named && c.has_type_of_css.result) (sym c.if-eq.true)
    ∙ has_sheet_by (label_of c.args.arena.now.tree c.args.key) c.name.result _ c.eq.result c.has_type_of_css.result c.name.ensures.characters c.name.ensures.bytes refl
    c.eq.ensures c.has_type_of_css.ensures

pub returns-else-eq : goal.returns-else-eq
returns-else-eq c =
    let css = option_map_or is_css (attr_of c.args.arena.now.tree c.args.key (codes "type")) true in
    c.if-eq.false
    ∙ ap (λ named. named && css) (sym c.if-eq.false)
    ∙ has_sheet_by (label_of c.args.arena.now.tree c.args.key) c.name.result _ c.eq.result css c.name.ensures.characters c.name.ensures.bytes refl c.eq.ensures refl
