use Rattle.std.proofs.Common.{arith, rules, ◌+◌}
use Rattle.std.proofs.lemmas.List.{take-append-drop}
use Rattle.ports.proofs.GrownLemmas.{front_so_far, on_err}
use Rattle.ports.proofs.PutLemmas.{written_more}
use Rattle.ports.proofs.sink.put_all.Goals as goal

pub returns-in_err-count-clause-failed : goal.returns-in_err-count-clause-failed
returns-in_err-count-clause-failed g c =
    on_err _ (front_so_far _ _ _ _ _ _ c.loop-start.invariant.written c.in_err-count.ensures.failed (take-append-drop c.loop-start.start c.args.bytes.now))

pub returns-then-count-eq0-clause-failed : goal.returns-then-count-eq0-clause-failed
returns-then-count-eq0-clause-failed g c =
    record {
      front = _;
      rest = _;
      parts = take-append-drop (c.loop-start.start + c.in_ok-count.count) c.args.bytes.now;
      went_out = written_more _ _ _ _ _ _ c.loop-start.invariant.within c.loop-start.invariant.written c.in_ok-count.ensures.ok;
    }

pub loop-start-preserved : goal.loop-start-preserved
loop-start-preserved g c =
    record {
      within = search rules;
      written = written_more _ _ _ _ _ _ c.loop-start.invariant.within c.loop-start.invariant.written c.in_ok-count.ensures.ok;
      later = omega (arith, c.in_ok-count.ensures.cause.later, c.loop-start.invariant.later);
    }
