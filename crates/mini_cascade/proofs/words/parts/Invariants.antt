use Rattle.std.proofs.Common.{◌≡◌, ◌++◌, length, map}
use Rattle.std.specs.Map.Iter.{deref}
use Rattle.selector_match.specs.Attributes.{parts}
use Rattle.mini_cascade.proofs.words.parts.Given as goal

abbrev pub invariant-parts : goal.invariant-parts
invariant-parts l = map deref l.found.items ++ parts l.rest ≡ parts l.text

abbrev pub decreases-parts : goal.decreases-parts
decreases-parts l = length l.rest
