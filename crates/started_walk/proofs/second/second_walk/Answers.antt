use Rattle.std.proofs.Common.{◌+◌, ◌∙◌, List, length, subst, sym}
use Rattle.merged_walk.specs.declared.stop.Stop.{Stop}
use Rattle.document_walk.specs.Catching.{reading}
use Rattle.reference_reach.specs.ToldLaws.{told_with}
use Rattle.started_walk.specs.Walks.{Finds, IsWithinTurned, StandsTurned}
use Rattle.started_walk.proofs.EditLemmas.{links-again, live-again, walk-again}
use Rattle.started_walk.proofs.second.second_walk.Goals as goal

pub with_ways-requires-clause-live : goal.with_ways-requires-clause-live
with_ways-requires-clause-live g c =
    let from = reading g.T.Starts.starts c.args.sources.now in
    let kept = g.B.Snapshots.kept c.args.board.now in
    live-again from kept c.args.turned.now c.args.stops.now c.requires.stands

pub with_ways-requires-clause-links : goal.with_ways-requires-clause-links
with_ways-requires-clause-links g c =
    let from = reading g.T.Starts.starts c.args.sources.now in
    let kept = g.B.Snapshots.kept c.args.board.now in
    links-again from kept c.args.turned.now c.args.stops.now c.requires.stands

pub turned_walk-requires : goal.turned_walk-requires
turned_walk-requires g c =
    let from = reading g.T.Starts.starts c.args.sources.now in
    let kept = g.B.Snapshots.kept c.args.board.now in
    record {
      stands =
          subst (λ (those : List Stop). StandsTurned from kept those) (sym (c.as_slice.ensures.value ∙ c.in_ok-ways.ensures.stops))
          (walk-again from kept c.args.turned.now c.args.stops.now c.requires.stands);
    }

pub returns-in_err-told-clause-most : goal.returns-in_err-told-clause-most
returns-in_err-told-clause-most g c =
    let from = reading g.T.Starts.starts c.args.sources.now in
    let kept = g.B.Snapshots.kept c.args.board.now in
    λ walk.
    (subst (λ (those : List Stop). IsWithinTurned from kept those c.args.steps.now c.turned_walk.new.steps) (c.as_slice.ensures.value ∙ c.in_ok-ways.ensures.stops) c.turned_walk.ensures.most)
    (walk-again from kept c.args.turned.now c.args.stops.now walk)

pub returns-clause-finds : goal.returns-clause-finds
returns-clause-finds g c =
    let from = reading g.T.Starts.starts c.args.sources.now in
    let kept = g.B.Snapshots.kept c.args.board.now in
    λ walk.
    (subst (λ (those : List Stop). (walk : StandsTurned from kept those) → Finds (told_with walk.before walk.was_start) (told_with walk.after walk.start) c.in_ok-told.told)
    (c.as_slice.ensures.value ∙ c.in_ok-ways.ensures.stops) c.in_ok-told.ensures.finds)
    (walk-again from kept c.args.turned.now c.args.stops.now walk)

pub returns-clause-few : goal.returns-clause-few
returns-clause-few g c =
    let from = reading g.T.Starts.starts c.args.sources.now in
    let kept = g.B.Snapshots.kept c.args.board.now in
    λ walk.
    (subst (λ (those : List Stop). IsWithinTurned from kept those c.args.steps.now (c.turned_walk.new.steps + length c.in_ok-told.told)) (c.as_slice.ensures.value ∙ c.in_ok-ways.ensures.stops)
    c.in_ok-told.ensures.few)
    (walk-again from kept c.args.turned.now c.args.stops.now walk)

pub returns-clause-most : goal.returns-clause-most
returns-clause-most g c =
    let from = reading g.T.Starts.starts c.args.sources.now in
    let kept = g.B.Snapshots.kept c.args.board.now in
    λ walk.
    (subst (λ (those : List Stop). IsWithinTurned from kept those c.args.steps.now c.turned_walk.new.steps) (c.as_slice.ensures.value ∙ c.in_ok-ways.ensures.stops) c.turned_walk.ensures.most)
    (walk-again from kept c.args.turned.now c.args.stops.now walk)
