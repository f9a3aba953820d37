use Rattle.std.proofs.Common.{◌≡◌, filter, option_map, is_some, drop}
use Rattle.mini_cascade.proofs.Candidates.{applied_of, applied_in}
use Rattle.mini_cascade.specs.Greatest.{greater, greatest}
use Rattle.mini_cascade.specs.Declarations.{Applied}
use Rattle.mini_cascade.specs.Styles.{gives_way}
use Rattle.mini_cascade.proofs.candidate.winner.Given as goal

abbrev pub invariant-loop-candidate : goal.invariant-loop-candidate
invariant-loop-candidate g l =
    greater gives_way (option_map applied_of l.best) (greatest gives_way (filter (λ (a : Applied). is_some (g.P.Property.definition.said_by a.what)) (applied_in (drop l.candidate-index l.candidates))))
    ≡ greatest gives_way (filter (λ (a : Applied). is_some (g.P.Property.definition.said_by a.what)) (applied_in l.candidates))
