use Rattle.std.proofs.Common.{◌≡◌, None, pos, get_or, drop, refl, rules, to_z, of_z, w64}
use Rattle.reversed_start.specs.declared.event.Event.{Event}
use Rattle.reversed_start.specs.Starts.{start, start_after}
use Rattle.reversed_start.proofs.StartLemmas.{goes_on, stops}
use Rattle.reversed_start.proofs.start_of.Goals as goal

abbrev no_event : Event
no_event = record { by = pos 0; assigned = None }

pub loop-event-init : goal.loop-event-init
unfolding start
loop-event-init c = refl

pub returns-in-Some : goal.returns-in-Some
returns-in-Some c =
    let event = get_or c.args.events.now c.loop-event.event-index no_event in
    let step : to_z w64 (of_z w64 c.negate_count-step.result) ≡ c.negate_count-step.result = search rules in
    let latest : to_z w64 (of_z w64 c.later_step-latest.result) ≡ c.later_step-latest.result = search rules in
    let total : to_z w64 (of_z w64 c.add_counts.result) ≡ c.add_counts.result = search rules in
    let result : to_z w64 (of_z w64 c.add_counts-in-Some.result) ≡ c.add_counts-in-Some.result = search rules in
    let number : to_z w64 (of_z w64 c.in-Some.number) ≡ c.in-Some.number = search rules in
    let by : to_z w64 (of_z w64 event.by) ≡ event.by = search rules in
    let turn = stops c.args.events.now c.loop-event.event-index no_event (to_z w64 c.loop-event.total-bits) (to_z w64 c.loop-event.latest-bits) c.loop-event-test.true c.in-Some.number c.in-Some.is in
    let so_far : start_after (to_z w64 c.loop-event.total-bits) (to_z w64 c.loop-event.latest-bits) (drop c.loop-event.event-index c.args.events.now) ≡ start c.args.events.now = c.loop-event.invariant in
    record { start = cc }

pub loop-event-preserved : goal.loop-event-preserved
loop-event-preserved c =
    let event = get_or c.args.events.now c.loop-event.event-index no_event in
    let step : to_z w64 (of_z w64 c.negate_count-step.result) ≡ c.negate_count-step.result = search rules in
    let latest : to_z w64 (of_z w64 c.later_step-latest.result) ≡ c.later_step-latest.result = search rules in
    let total : to_z w64 (of_z w64 c.add_counts-total.result) ≡ c.add_counts-total.result = search rules in
    let by : to_z w64 (of_z w64 event.by) ≡ event.by = search rules in
    let turn = goes_on c.args.events.now c.loop-event.event-index no_event (to_z w64 c.loop-event.total-bits) (to_z w64 c.loop-event.latest-bits) c.loop-event-test.true c.in-None.is in
    let so_far : start_after (to_z w64 c.loop-event.total-bits) (to_z w64 c.loop-event.latest-bits) (drop c.loop-event.event-index c.args.events.now) ≡ start c.args.events.now = c.loop-event.invariant in
    cc
