use Rattle.counter_style_table.proofs.SettledLemmas.{AreFinishedBefore}
use Rattle.counter_style_table.proofs.finish.finish_others.Given as goal

abbrev pub invariant-loop-start : goal.invariant-loop-start
invariant-loop-start l = AreFinishedBefore l.rules l.styles l.begun l.start
