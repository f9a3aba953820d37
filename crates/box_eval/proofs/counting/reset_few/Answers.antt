use Rattle.std.proofs.Common.{◌≡◌, ◌∙◌, List, Bool, sym, ap, subst, false, true}
use Rattle.std.specs.List.{fold, list_any}
use Rattle.std.specs.Str.{bytes_eq}
use Rattle.plain_types.specs.declared.counter.Counter.{Counter}
use Rattle.plain_types.specs.declared.style.ResetOp.{ResetOp}
use Rattle.counter_sets.specs.Sets.{AreDistinct, is_missing_in}
use Rattle.box_eval.specs.Properties.{last_resets, reset_by}
use Rattle.box_eval.proofs.OpLemmas.{last_here, last_later}
use Rattle.box_eval.proofs.ResetLemmas.{LacksAll, lacks_at_first, later_lack, later_lacked, reset_distinct}
use Rattle.box_eval.proofs.counting.reset_few.Goals as goal

pub loop-op-init : goal.loop-op-init
loop-op-init c =
    let creator = c.args.place.now.creator in
    record {
      same = ap (λ set. fold (reset_by (is_missing_in c.args.place.now.parent) creator c.args.starts.now) set (last_resets c.args.resets.now)) c.in_ok-set.ensures.same;
      lacks = subst (LacksAll creator c.args.starts.now c.args.resets.now) (sym c.in_ok-set.ensures.same) (lacks_at_first creator c.args.starts.now c.args.resets.now c.args.place.now.set c.requires.new);
      distinct = c.as_slice-counters.ensures.distinct;
    }

pub reset-requires : goal.reset-requires
reset-requires c =
    let op : ResetOp = c.in-Some.op.now in
    let later = c.in-Some.later.now in
    let none : list_any (λ (other : ResetOp). bytes_eq other.name op.name) later ≡ false =
    sym (ap (λ name. list_any (λ (other : ResetOp). bytes_eq other.name name) later) c.as_str.ensures.characters) ∙ sym c.is_reset_in.ensures.test ∙ c.if-not-is_reset_in.true in
    record {
      distinct =
          reset_distinct c.args.place.now.creator c.args.starts.now (is_missing_in c.args.place.now.parent) c.loop-op.rest.now later op c.in-Some.ensures.cases.0 c.loop-op.set none c.loop-op.invariant.lacks
          c.loop-op.invariant.distinct;
    }

pub loop-op-preserved-in_ok-set-2 : goal.loop-op-preserved-in_ok-set-2
loop-op-preserved-in_ok-set-2 c =
    let op : ResetOp = c.in-Some.op.now in
    let later = c.in-Some.later.now in
    let creator = c.args.place.now.creator in
    let test : Counter → Bool = is_missing_in c.args.place.now.parent in
    let f : List Counter → ResetOp → List Counter = reset_by test creator c.args.starts.now in
    let none : list_any (λ (other : ResetOp). bytes_eq other.name op.name) later ≡ false =
    sym (ap (λ name. list_any (λ (other : ResetOp). bytes_eq other.name name) later) c.as_str.ensures.characters) ∙ sym c.is_reset_in.ensures.test ∙ c.if-not-is_reset_in.true in
    let step = last_here (λ (op : ResetOp). op.name) c.loop-op.rest.now later op c.in-Some.ensures.cases.0 none in
    record {
      same = ap (λ set. fold f set (last_resets later)) c.in_ok-set-2.ensures.set ∙ sym (ap (fold f c.loop-op.set) step) ∙ c.loop-op.invariant.same;
      lacks =
          subst (LacksAll creator c.args.starts.now later) (sym c.in_ok-set-2.ensures.set)
          (later_lack creator c.args.starts.now test c.loop-op.rest.now later op c.in-Some.ensures.cases.0 c.loop-op.set none c.loop-op.invariant.lacks);
      distinct =
          subst AreDistinct (sym c.in_ok-set-2.ensures.set)
          (reset_distinct creator c.args.starts.now test c.loop-op.rest.now later op c.in-Some.ensures.cases.0 c.loop-op.set none c.loop-op.invariant.lacks c.loop-op.invariant.distinct);
    }

pub loop-op-preserved : goal.loop-op-preserved
loop-op-preserved c =
    let op : ResetOp = c.in-Some.op.now in
    let later = c.in-Some.later.now in
    let creator = c.args.place.now.creator in
    let test : Counter → Bool = is_missing_in c.args.place.now.parent in
    let f : List Counter → ResetOp → List Counter = reset_by test creator c.args.starts.now in
    let some : list_any (λ (other : ResetOp). bytes_eq other.name op.name) later ≡ true =
    sym (ap (λ name. list_any (λ (other : ResetOp). bytes_eq other.name name) later) c.as_str.ensures.characters) ∙ sym c.is_reset_in.ensures.test ∙ c.if-not-is_reset_in.false in
    let step = last_later (λ (op : ResetOp). op.name) c.loop-op.rest.now later op c.in-Some.ensures.cases.0 some in
    record {
      same = sym (ap (fold f c.loop-op.set) step) ∙ c.loop-op.invariant.same;
      lacks = later_lacked creator c.args.starts.now test c.loop-op.rest.now later op c.in-Some.ensures.cases.0 c.loop-op.set some c.loop-op.invariant.lacks;
      distinct = c.loop-op.invariant.distinct;
    }
