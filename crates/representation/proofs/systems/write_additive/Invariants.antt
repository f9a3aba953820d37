use Rattle.std.proofs.Common.{◌≡◌, drop}
use Rattle.css_definitions.specs.Representation.{additive_parts, additive_rest}
use Rattle.representation.specs.Draft.{extended}
use Rattle.representation.proofs.systems.write_additive.Given as goal

abbrev pub invariant-loop-tuple : goal.invariant-loop-tuple
invariant-loop-tuple l = record {
  text : extended l.draft (additive_parts (drop l.tuple-index l.tuples) l.rest) ≡ extended l.fn.draft (additive_parts l.tuples l.number);
  rest : additive_rest (drop l.tuple-index l.tuples) l.rest ≡ additive_rest l.tuples l.number;
}
