use Rattle.std.proofs.Common.{rules, tests}
use Rattle.std.proofs.lemmas.Iterator.{YieldsList-from_slice, YieldsList-from_zip, same_from_all}
use Rattle.counter_sets.proofs.counters.are_equal.Goals as goal

pub returns-then-first-second : goal.returns-then-first-second
returns-then-first-second c = record {
  test = same_from_all c.all.new.self _ _ _ _ c.all.ensures.ran (YieldsList-from_zip (YieldsList-from_slice c.args.first.now cc) (YieldsList-from_slice c.args.second.now cc)) (search rules) (λ x q k. search (rules, tests)) (λ x q k. search (rules, tests));
}
