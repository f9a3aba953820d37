use Rattle.std.proofs.Common.{◌≡◌, drop, map}
use Rattle.css_reader.specs.Features.{any_true, simple_depends, compound_depends}
use Rattle.css_reader.proofs.features.+depending.Given as goal

abbrev pub invariant-some_simple_depends-loop-simple : goal.invariant-some_simple_depends-loop-simple
invariant-some_simple_depends-loop-simple l = any_true (map (simple_depends l.aspect) (drop l.simple-index l.simples)) ≡ any_true (map (simple_depends l.aspect) l.simples)

abbrev pub invariant-some_compound_depends-loop-compound : goal.invariant-some_compound_depends-loop-compound
invariant-some_compound_depends-loop-compound l = any_true (map (compound_depends l.aspect) (drop l.compound-index l.compounds)) ≡ any_true (map (compound_depends l.aspect) l.compounds)
