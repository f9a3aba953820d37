use Rattle.std.proofs.Common.{◌≡◌, drop}
use Rattle.selector_match.specs.Attributes.{contains, in_case}
use Rattle.selector_match.proofs.attributes.contains.Given as goal

abbrev pub invariant-loop-start : goal.invariant-loop-start
invariant-loop-start l = contains (in_case l.fold (drop l.start l.text)) (in_case l.fold l.value) ≡ contains (in_case l.fold l.text) (in_case l.fold l.value)
