use Rattle.std.proofs.Common.{◌≡◌, ◌∙◌, IfOk, List, ap, map, subst, sym}
use Rattle.std.specs.List.{fold}
use Rattle.plain_types.specs.declared.box_id.BoxId.{BoxId}
use Rattle.plain_types.specs.declared.counter.Counter.{Counter}
use Rattle.counter_sets.specs.Indexes.{HaveOwnNames}
use Rattle.counter_sets.specs.Sets.{AreDistinct, instantiated, is_missing_in}
use Rattle.box_eval.specs.declared.inputs.Start.{Start}
use Rattle.box_eval.specs.Lookups.{created}
use Rattle.box_eval.specs.Properties.{last_resets, reset_by}
use Rattle.box_eval.proofs.ResetLemmas.{LacksAll, all_at_once, all_distinct, lacks_at_first, own_names}
use Rattle.box_eval.proofs.counting_many.reset_many.Goals as goal

pub instantiate_all-requires : goal.instantiate_all-requires
instantiate_all-requires c =
    let box = c.args.place.now.creator in
    let starts = c.args.starts.now in
    let resets = c.args.resets.now in
    let test = is_missing_in c.args.place.now.parent in
    let set : List Counter = c.in_ok-set.set in
    let counters : c.in_ok-counters.counters.items ≡ map (created starts box) (last_resets resets) =
    c.in_ok-counters.ensures.counters ∙ ap (λ (own : List Start × BoxId). map (created own.0 own.1) (last_resets resets)) c.in_ok-starts.ensures.own in
    let lacks = subst (LacksAll box starts resets) (sym c.in_ok-set.ensures.same) (lacks_at_first box starts resets c.args.place.now.set c.requires.new) in
    record {
      names = subst HaveOwnNames (sym counters) (own_names box starts resets);
      distinct =
          subst (λ (counters : List Counter). AreDistinct (fold (instantiated test) set counters)) (sym counters)
          (subst AreDistinct (sym (all_at_once box starts test (last_resets resets) set)) (all_distinct box starts test resets set lacks c.as_slice-counters.ensures.distinct));
    }

pub returns : goal.returns
returns c =
    let box = c.args.place.now.creator in
    let starts = c.args.starts.now in
    let resets = c.args.resets.now in
    let test = is_missing_in c.args.place.now.parent in
    let set : List Counter = c.in_ok-set.set in
    let counters : c.in_ok-counters.counters.items ≡ map (created starts box) (last_resets resets) =
    c.in_ok-counters.ensures.counters ∙ ap (λ (own : List Start × BoxId). map (created own.0 own.1) (last_resets resets)) c.in_ok-starts.ensures.own in
    let all =
    ap (fold (instantiated test) set) counters
    ∙ all_at_once box starts test (last_resets resets) set
    ∙ ap (λ (before : List Counter). fold (reset_by test box starts) before (last_resets resets)) c.in_ok-set.ensures.same in
    record { set = subst (λ (counters : List Counter). IfOk c.instantiate_all.result (λ set. set ≡ counters)) all c.instantiate_all.ensures.set }
