use Rattle.std.proofs.Common.{◌≡◌, Option, subst, sym, true}
use Rattle.std.specs.Prelude.{IfOk}
use Rattle.plain_types.specs.declared.style.Style.{Style}
use Rattle.surroundings.specs.declared.surroundings.Surroundings.{Surroundings}
use Rattle.surroundings.specs.Surroundings.{handed_by}
use Rattle.document_walk.specs.declared.opened.Opened.{Opened}
use Rattle.document_walk.specs.Catching.{frames_of, opened_at, reading}
use Rattle.document_walk.specs.Walking.{opened_in}
use Rattle.document_walk.proofs.catching.Catching.open_next.Goals as goal

pub returns-in-Some-clause-opened : goal.returns-in-Some-clause-opened
returns-in-Some-clause-opened g c =
    let from = reading g.T.Starts.starts c.args.sources.now in
    subst (λ (around : Option Surroundings). IfOk c.open.result (λ (opened : Option Opened). opened ≡ opened_at from (frames_of c.args.self.now) c.args.key around)) (sym c.in-Some.is)
    (subst (λ (parent : Option Style). IfOk c.open.result (λ (opened : Option Opened). opened ≡ opened_in from.table from.style from.start from.tree true c.args.key parent (handed_by c.in-Some.around)))
    c.style_above.ensures.style c.open.ensures.opened)
