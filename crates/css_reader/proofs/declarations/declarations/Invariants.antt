use Rattle.std.proofs.Common.{[], length}
use Rattle.css_reader.specs.Declarations.{declaration}
use Rattle.css_reader.specs.Rules.{part_at}
use Rattle.css_reader.proofs.Gathering.{Gathers}
use Rattle.css_reader.proofs.declarations.declarations.Given as goal

abbrev pub invariant-parts : goal.invariant-parts
invariant-parts l = Gathers part_at declaration [] l.content l.found l.rest

abbrev pub decreases-parts : goal.decreases-parts
decreases-parts l = length l.rest
