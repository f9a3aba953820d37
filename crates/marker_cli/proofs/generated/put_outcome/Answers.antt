use Rattle.std.proofs.Common.{[], ◌∷◌, ap, arith, refl}
use Rattle.document_walk.specs.Elements.{element_count}
use Rattle.dirty_walk.specs.Books.{keyed_source}
use Rattle.forest.specs.Keys.{without_keys}
use Rattle.marker_cli.proofs.EndsLemmas.{at_start, ends_no_memory, ends_stopped}
use Rattle.marker_cli.proofs.PlayedLemmas.{with_call}
use Rattle.marker_cli.proofs.generated.put_outcome.Goals as goal

pub returns-clause-steps : goal.returns-clause-steps
returns-clause-steps g c =
    let source = ap (λ outcome. element_count outcome.source.tree) c.in_ok-tally.ensures.tally in
    omega (arith, source, c.in_ok-tally.ensures.steps, c.census.ensures.steps)

pub returns-clause-takes : goal.returns-clause-takes
returns-clause-takes g c =
    let count = element_count (without_keys c.apply_all.new.engine.tree) in
    let all = c.in_ok-tally.ensures.takes.on (count ∷ []) (omega arith, refl) in
    (all.0, all.1, omega (arith, all.2, with_call count [], c.census.ensures.steps))

pub returns-in_err-put_numbers-clause-takes : goal.returns-in_err-put_numbers-clause-takes
returns-in_err-put_numbers-clause-takes g c =
    let count = element_count (without_keys c.apply_all.new.engine.tree) in
    let all = c.in_ok-tally.ensures.takes.on (count ∷ []) (omega arith, refl) in
    (all.0, all.1, omega (arith, all.2, with_call count [], c.census.ensures.steps))

pub returns-in_err-tally-clause-told : goal.returns-in_err-tally-clause-told
returns-in_err-tally-clause-told g c = ends_stopped c.from_residual.result c.from_residual.ensures (ends_no_memory (at_start _ _) refl)

pub returns-in_err-tally-clause-takes : goal.returns-in_err-tally-clause-takes
returns-in_err-tally-clause-takes g c = c.in_err-tally.ensures.takes.ends
