use Rattle.std.proofs.Common.{◌∙◌, sym, arith}
use Rattle.std.specs.Str.{chars}
use Rattle.counter_sets.specs.Sets.{is_named}
use Rattle.counter_sets.proofs.SetLemmas.{last_place_here, last_place_before}
use Rattle.counter_sets.proofs.counters.last_place.Goals as goal

pub returns-then-is_named-clause-place : goal.returns-then-is_named-clause-place
returns-then-is_named-clause-place c =
    last_place_here (is_named (chars c.args.name.now)) c.args.counters.now c.loop-last.front.now c.in-Some.before.now c.in-Some.last.now
    c.loop-last.invariant.same c.in-Some.ensures.cases.0 (sym c.is_named.ensures.test ∙ c.if-is_named.true)

pub returns-then-is_named-clause-within : goal.returns-then-is_named-clause-within
returns-then-is_named-clause-within c = omega (arith, c.in-Some.ensures.cases.1, c.loop-last.invariant.front)

pub loop-last-preserved : goal.loop-last-preserved
loop-last-preserved c = record {
  same =
      last_place_before (is_named (chars c.args.name.now)) c.args.counters.now c.loop-last.front.now c.in-Some.before.now c.in-Some.last.now
      c.loop-last.invariant.same c.in-Some.ensures.cases.0 (sym c.is_named.ensures.test ∙ c.if-is_named.false);
  front = omega (arith, c.in-Some.ensures.cases.1, c.loop-last.invariant.front);
}
