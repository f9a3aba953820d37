use Rattle.std.proofs.Common.{◌∙◌, None, sym, refl}
use Rattle.surroundings.specs.Surroundings.{handed_by}
use Rattle.document_walk.specs.Walking.{opened_by}
use Rattle.document_walk.proofs.OpeningLemmas.{with_box}
use Rattle.document_walk.proofs.element.open_styled.Goals as goal

pub returns-clause-opened : goal.returns-clause-opened
returns-clause-opened g c =
    let style = c.args.style.now in
    with_box c.args.sources.now.table.now (λ _ _. style) (g.T.Starts.starts c.args.sources.now.starts.now) c.args.sources.now.arena.now.tree c.args.key None (handed_by c.args.around.now)
    style refl (opened_by style c.in_ok-open_box.field-0) (sym c.generates_box.ensures.test ∙ c.if-not-generates_box.false) c.in_ok-open_box.ensures.opened
