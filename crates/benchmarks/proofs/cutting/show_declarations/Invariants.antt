use Rattle.std.proofs.Common.{length}
use Rattle.benchmarks.proofs.cutting.show_declarations.Given as goal

abbrev pub decreases-parts : goal.decreases-parts
decreases-parts l = length l.rest
