-- The counter properties of a box, by its peers and by its parent's set.
use Rattle.std.proofs.Common.{◌≡◌, List, Bool, ap, ◌∙◌}
use Rattle.plain_types.specs.Counts.{count_sum}
use Rattle.plain_types.specs.declared.box_id.BoxId.{BoxId}
use Rattle.plain_types.specs.declared.counter.Counter.{Counter}
use Rattle.plain_types.specs.declared.style.CounterOp.{CounterOp}
use Rattle.plain_types.specs.declared.style.ResetOp.{ResetOp}
use Rattle.plain_types.specs.declared.style.Style.{Style}
use Rattle.counter_sets.specs.Sets.{assigned, incremented, is_by_peer, is_missing_in, with_innermost}
use Rattle.box_eval.specs.declared.inputs.Start.{Start}
use Rattle.box_eval.specs.declared.counting.Counted.{Counted}
use Rattle.box_eval.specs.Properties.{after_resets, assigned_all, changes_of, counted, counted_from, first_value, incremented_all, increments_of, last_assigns, last_resets, reset_by}
use Rattle.box_eval.proofs.Agreement.{Agrees, AllAgree, instantiated_same, steady, with_counter_same}
use Rattle.box_eval.proofs.KeptLemmas.{assigned_good, incremented_good, reset_good}
use Rattle.box_eval.proofs.ListLemmas.{fold_same}

module _ (peers : List BoxId) (parent : List Counter) (box : BoxId) (mine : (counter : Counter) → counter.creator ≡ box → Agrees peers parent counter) where
  -- Both at once: the results are the same, and their counters agree.

  all_resets : (starts : List Start) (ops : List ResetOp) (set : List Counter) → AllAgree peers parent set →
      (after_resets (is_by_peer peers) box starts ops set ≡ after_resets (is_missing_in parent) box starts ops set)
      × AllAgree peers parent (after_resets (is_missing_in parent) box starts ops set)
  all_resets starts ops set h =
      let new : ResetOp → Counter = λ (reset : ResetOp). record { name = reset.name; creator = box; reversed = reset.reversed; value = first_value starts box reset } in
      fold_same (AllAgree peers parent) (reset_by (is_by_peer peers) box starts) (reset_by (is_missing_in parent) box starts)
      (λ before reset good. instantiated_same peers parent before (new reset) good)
      (reset_good (Agrees peers parent) (steady peers parent) (is_missing_in parent) box mine starts)
      (last_resets ops) set h

  increments : (ops : List CounterOp) (set : List Counter) → AllAgree peers parent set →
      (incremented_all (is_by_peer peers) box ops set ≡ incremented_all (is_missing_in parent) box ops set)
      × AllAgree peers parent (incremented_all (is_missing_in parent) box ops set)
  increments ops set h =
      fold_same (AllAgree peers parent)
      (λ before (op : CounterOp). incremented (is_by_peer peers) box before op.name op.value)
      (λ before (op : CounterOp). incremented (is_missing_in parent) box before op.name op.value)
      (λ before op good. ap (λ all. with_innermost (λ value. count_sum value op.value) all op.name) (with_counter_same peers parent box before op.name good))
      (λ before op good. incremented_good (Agrees peers parent) (steady peers parent) (is_missing_in parent) box mine before op.name op.value good)
      ops set h

  assigns : (ops : List CounterOp) (set : List Counter) → AllAgree peers parent set →
      (assigned_all (is_by_peer peers) box ops set ≡ assigned_all (is_missing_in parent) box ops set)
      × AllAgree peers parent (assigned_all (is_missing_in parent) box ops set)
  assigns ops set h =
      fold_same (AllAgree peers parent)
      (λ before (op : CounterOp). assigned (is_by_peer peers) box before op.name op.value)
      (λ before (op : CounterOp). assigned (is_missing_in parent) box before op.name op.value)
      (λ before op good. ap (λ all. with_innermost (λ _. op.value) all op.name) (with_counter_same peers parent box before op.name good))
      (λ before op good. assigned_good (Agrees peers parent) (steady peers parent) (is_missing_in parent) box mine before op.name op.value good)
      ops set h

  from_same : (starts : List Start) (ops sets : List CounterOp) (set : List Counter) → AllAgree peers parent set →
      counted_from (is_by_peer peers) box starts ops sets set ≡ counted_from (is_missing_in parent) box starts ops sets set
  from_same starts ops sets set h =
      let more = increments ops set h in
      let end = assigns sets (incremented_all (is_missing_in parent) box ops set) more.1 in
      let result : List Counter → Counted = λ counters. record { set = counters; changes = changes_of box ops sets counters } in
      ap (λ before. result (assigned_all (is_by_peer peers) box sets before)) more.0 ∙ ap result end.0

  pub counted_same : (starts : List Start) (is_item : Bool) (style : Style) (set : List Counter) → AllAgree peers parent set →
      counted (is_by_peer peers) box starts is_item style set ≡ counted (is_missing_in parent) box starts is_item style set
  counted_same starts is_item style set h =
      let start = all_resets starts style.resets set h in
      let reset = after_resets (is_missing_in parent) box starts style.resets set in
      let next : List Counter → Counted = λ before. counted_from (is_by_peer peers) box starts (increments_of is_item style.increments before) (last_assigns style.assigns) before in
      ap next start.0 ∙ from_same starts (increments_of is_item style.increments reset) (last_assigns style.assigns) reset start.1
