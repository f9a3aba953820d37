use Rattle.std.proofs.Common.{get_or, slice_get}
use Rattle.std.specs.List.{filter_map}
use Rattle.std.specs.Option.{option_to_list}
use Rattle.std.proofs.lemmas.List.{get_or_default}
use Rattle.mini_cascade.proofs.Appending.{appended}
use Rattle.mini_cascade.proofs.Places.{cons_part}
use Rattle.mini_cascade.proofs.rule_table.rules_at.Goals as goal

pub loop-place-preserved : goal.loop-place-preserved
loop-place-preserved c =
    let rules = c.args.rules.now in
    let places = c.args.places.now in
    let at = c.loop-place.place-index in
    appended (λ place. option_to_list (slice_get rules place)) (filter_map (slice_get rules)) (λ first rest. cons_part (slice_get rules first) (filter_map (slice_get rules) rest))
    places at (get_or places at 0) _ _ _ c.loop-place-test.true (get_or_default places at 0 (get_or places at 0) c.loop-place-test.true) c.in_ok-add_rule_at.ensures.ok c.loop-place.invariant
