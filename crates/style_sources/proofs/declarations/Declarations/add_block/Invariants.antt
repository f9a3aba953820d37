use Rattle.std.proofs.Common.{◌≡◌, ◌++◌, drop}
use Rattle.style_sources.specs.Sources.{declared_with}
use Rattle.style_sources.proofs.declarations.Declarations.add_block.Given as goal

abbrev pub invariant-loop-declared : goal.invariant-loop-declared
invariant-loop-declared l = l.self ++ declared_with l.place (drop l.declared-index l.block) l.specificity ≡ l.initial.self ++ declared_with l.place l.block l.specificity
