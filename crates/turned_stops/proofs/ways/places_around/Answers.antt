use Rattle.std.proofs.Common.{sym, ◌∙◌}
use Rattle.start_reach.specs.TurnedElements.{is_earlier}
use Rattle.turned_stops.proofs.StopLemmas.{begins-behind, begins-there}
use Rattle.turned_stops.proofs.ways.places_around.Goals as goal

pub returns-then-is_stop_into-clause-after : goal.returns-then-is_stop_into-clause-after
returns-then-is_stop_into-clause-after c =
    begins-behind (is_earlier c.args.arena.now.tree) c.args.depth c.args.key c.args.stops.now c.loop-place.place _ c.loop-place-test.true c.loop-place.invariant
    (sym c.is_stop_before.ensures.before ∙ c.if-not-is_stop_before.true) (sym (c.is_stop_into.ensures.into (is_earlier c.args.arena.now.tree)) ∙ c.if-is_stop_into.true)

pub returns-then-not-is_stop_before-clause-after :
    goal.returns-then-not-is_stop_before-clause-after
returns-then-not-is_stop_before-clause-after c =
    begins-there (is_earlier c.args.arena.now.tree) c.args.depth c.args.key c.args.stops.now c.loop-place.place _ c.loop-place-test.true c.loop-place.invariant
    (sym c.is_stop_before.ensures.before ∙ c.if-not-is_stop_before.true) (sym (c.is_stop_into.ensures.into (is_earlier c.args.arena.now.tree)) ∙ c.if-is_stop_into.false)
