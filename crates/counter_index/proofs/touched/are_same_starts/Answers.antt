use Rattle.std.proofs.Common.{rules, tests, ◌∙◌}
use Rattle.std.proofs.lemmas.Iterator.{YieldsList-from_slice, YieldsList-from_zip}
use Rattle.std.proofs.lemmas.Iterator.Search.{all_from_yields_List}
use Rattle.counter_index.proofs.TouchedLemmas.{is_same_pair, other-lengths, pairs-same}
use Rattle.counter_index.proofs.touched.are_same_starts.Goals as goal

pub returns-then-starts-others : goal.returns-then-starts-others
returns-then-starts-others c =
    let all =
    all_from_yields_List is_same_pair c.all.new.self _ c.all.result c.all.ensures.ran (YieldsList-from_zip (YieldsList-from_slice c.args.starts.now cc) (YieldsList-from_slice c.args.others.now cc))
    (λ x b q k. search (rules, tests)) in
    record { test = all ∙ pairs-same c.args.starts.now c.args.others.now c.if-starts-others.true }

pub returns-else-starts-others : goal.returns-else-starts-others
returns-else-starts-others c = record { test = other-lengths c.args.starts.now c.args.others.now c.if-starts-others.false }
