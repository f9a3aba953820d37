use Rattle.std.proofs.Common.{◌∙◌, None, true, ap}
use Rattle.plain_types.specs.declared.style.ElementStyle.{ElementStyle}
use Rattle.surroundings.specs.Surroundings.{handed_by}
use Rattle.document_walk.specs.Walking.{opened_in}
use Rattle.document_walk.proofs.element.open.Goals as goal

pub returns-clause-opened : goal.returns-clause-opened
returns-clause-opened g c =
    c.with_style.ensures
    ∙ c.in_ok-made.ensures.opened
    ∙ ap (λ (style : ElementStyle). opened_in c.args.sources.now.table.now (λ _ _. style) (g.T.Starts.starts c.args.sources.now.starts.now) c.args.sources.now.arena.now.tree true c.args.key None (handed_by c.args.around.now)) c.in_ok-style.ensures.style
