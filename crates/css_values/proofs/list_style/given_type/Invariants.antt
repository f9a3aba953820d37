use Rattle.std.proofs.Common.{◌≡◌, drop}
use Rattle.css_values.specs.Lists.{given_type}
use Rattle.css_values.proofs.list_style.given_type.Given as goal

abbrev pub invariant-loop-part : goal.invariant-loop-part
invariant-loop-part l = given_type l.parts ≡ given_type (drop l.part-index l.parts)
