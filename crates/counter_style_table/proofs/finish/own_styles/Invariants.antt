use Rattle.counter_style_table.proofs.SettledLemmas.{AreFirst}
use Rattle.counter_style_table.proofs.finish.own_styles.Given as goal

abbrev pub invariant-loop-place : goal.invariant-loop-place
invariant-loop-place l = AreFirst l.rules l.place l.styles.items
