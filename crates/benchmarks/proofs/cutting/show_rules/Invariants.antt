use Rattle.std.proofs.Common.{length}
use Rattle.benchmarks.proofs.cutting.show_rules.Given as goal

abbrev pub decreases-rules : goal.decreases-rules
decreases-rules l = length l.rest
