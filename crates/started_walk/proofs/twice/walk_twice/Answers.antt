use Rattle.std.proofs.Common.{arith, inl, inr, subst, sym}
use Rattle.box_eval.specs.Starts.{no_starts}
use Rattle.document_walk.specs.Catching.{reading}
use Rattle.start_reach.specs.Laws.{AreTurned}
use Rattle.touched_starts.specs.Laws.{IsIndexOf}
use Rattle.counter_index.specs.declared.index.CounterIndex.{CounterIndex}
use Rattle.started_walk.specs.Exchanges.{TakesBack}
use Rattle.started_walk.specs.Walks.{CanWalkAgain}
use Rattle.started_walk.proofs.TwiceLemmas.{again, both-most, walked, walked-once, with_index}
use Rattle.started_walk.proofs.UnaskedLemmas.{unasked}
use Rattle.started_walk.proofs.twice.walk_twice.Goals as goal

pub first_walk-requires : goal.first_walk-requires
first_walk-requires g c = record { stands = c.requires.stands }

pub returns-in_err-from-clause-most : goal.returns-in_err-from-clause-most
returns-in_err-from-clause-most g c = λ stands. inl (omega arith)

pub returns-in_err-told-clause-most : goal.returns-in_err-told-clause-most
returns-in_err-told-clause-most g c = λ stands. inl (c.first_walk.ensures.most stands)

pub walk_again-requires : goal.walk_again-requires
walk_again-requires g c =
    let from = reading (λ _. no_starts) c.args.document.now in
    let kept = g.B.Snapshots.kept c.args.board.now in
    let takes = c.args.takes.now in
    let stops = c.args.stops.now in
    let stands = c.requires.stands in
    let index = c.first_walk.new.counting.index in
    record {
      stands =
          subst (λ keys. CanWalkAgain (with_index from index) kept keys stops) (sym c.as_slice.ensures.items)
          (again from c.args.counting.now kept takes stops stands index (c.in_ok-told.ensures.index stands) c.in_ok-told.field-0.turned (c.in_ok-told.ensures.turned stands));
    }

pub take_back-requires : goal.take_back-requires
take_back-requires g c = record {
  back = (
    c.args.counting.now.index,
    subst (λ (now : CounterIndex). TakesBack c.in_ok-told.field-0.back now c.args.counting.now.index) (sym c.walk_again.ensures.index) c.in_ok-told.ensures.back,
  );
}

pub returns-then-not-asks-clause-walked : goal.returns-then-not-asks-clause-walked
returns-then-not-asks-clause-walked g c =
    let from = reading (λ _. no_starts) c.args.document.now in
    let kept = g.B.Snapshots.kept c.args.board.now in
    let takes = c.args.takes.now in
    let stops = c.args.stops.now in
    let index = c.first_walk.new.counting.index in
    λ stands.
    walked-once from c.args.counting.now kept takes stops stands index (c.in_ok-told.ensures.index stands)
    (unasked c.args.counting.now.index c.asks-asked.result c.asks-asked.ensures.test c.if-not-asked.true) (unasked index c.asks.result c.asks.ensures.test c.if-not-asks.true)
    c.in_ok-told.field-0.turned (c.in_ok-told.ensures.turned stands) c.in_ok-told.ensures.asking c.in_ok-from.from.items c.in_ok-from.ensures.items
    c.in_ok-told.field-0.told (c.in_ok-told.ensures.finds stands) c.args.steps.now c.first_walk.new.steps c.in_ok-told.ensures.few

pub returns-then-not-asks-clause-most : goal.returns-then-not-asks-clause-most
returns-then-not-asks-clause-most g c = λ stands. inl (c.first_walk.ensures.most stands)

pub returns-in-Ok-clause-index : goal.returns-in-Ok-clause-index
returns-in-Ok-clause-index g c = λ stands. subst (IsIndexOf stands.place.after) (sym c.walk_again.ensures.index) (c.in_ok-told.ensures.index stands)

pub returns-in-Ok-clause-tells : goal.returns-in-Ok-clause-tells
returns-in-Ok-clause-tells g c = λ stands asks. (c.in_ok-told.field-0.told, (c.in_ok-told.ensures.finds stands, c.in-Ok.ensures.walked))

pub returns-in-Ok-clause-walked : goal.returns-in-Ok-clause-walked
returns-in-Ok-clause-walked g c =
    let from = reading (λ _. no_starts) c.args.document.now in
    let kept = g.B.Snapshots.kept c.args.board.now in
    let takes = c.args.takes.now in
    let stops = c.args.stops.now in
    let index = c.first_walk.new.counting.index in
    λ stands.
    walked from c.args.counting.now kept takes stops stands index (c.in_ok-told.ensures.index stands) c.as_slice.result.now
    (subst (AreTurned stands.place.edit stands.place.before stands.place.after) (sym c.as_slice.ensures.items) (c.in_ok-told.ensures.turned stands))
    c.args.steps.now c.first_walk.new.steps c.walk_again.new.steps c.first_walk.ensures.most
    c.in-Ok.field-0.stops.items c.in-Ok.field-0.told c.in-Ok.ensures.stops c.in-Ok.ensures.finds c.in-Ok.ensures.few

pub returns-in-Ok-clause-most : goal.returns-in-Ok-clause-most
returns-in-Ok-clause-most g c =
    let from = reading (λ _. no_starts) c.args.document.now in
    let kept = g.B.Snapshots.kept c.args.board.now in
    let takes = c.args.takes.now in
    let stops = c.args.stops.now in
    let index = c.first_walk.new.counting.index in
    λ stands.
    inr (both-most from c.args.counting.now kept takes stops stands index (c.in_ok-told.ensures.index stands) c.as_slice.result.now
    (subst (AreTurned stands.place.edit stands.place.before stands.place.after) (sym c.as_slice.ensures.items) (c.in_ok-told.ensures.turned stands))
    c.args.steps.now c.first_walk.new.steps c.walk_again.new.steps c.first_walk.ensures.most c.walk_again.ensures.most)

pub returns-clause-most : goal.returns-clause-most
returns-clause-most g c =
    let from = reading (λ _. no_starts) c.args.document.now in
    let kept = g.B.Snapshots.kept c.args.board.now in
    let takes = c.args.takes.now in
    let stops = c.args.stops.now in
    let index = c.first_walk.new.counting.index in
    λ stands.
    inr (both-most from c.args.counting.now kept takes stops stands index (c.in_ok-told.ensures.index stands) c.as_slice.result.now
    (subst (AreTurned stands.place.edit stands.place.before stands.place.after) (sym c.as_slice.ensures.items) (c.in_ok-told.ensures.turned stands))
    c.args.steps.now c.first_walk.new.steps c.walk_again.new.steps c.first_walk.ensures.most c.walk_again.ensures.most)
