use Rattle.std.proofs.Common.{◌≡◌, ◌++◌, drop}
use Rattle.style_sources.specs.Sources.{hinted}
use Rattle.style_sources.proofs.declarations.Declarations.add_hints.Given as goal

abbrev pub invariant-loop-hint : goal.invariant-loop-hint
invariant-loop-hint l = l.self ++ hinted (drop l.hint-index l.hints) ≡ l.initial.self ++ hinted l.hints
