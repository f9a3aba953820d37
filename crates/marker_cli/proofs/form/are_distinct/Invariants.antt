use Rattle.std.proofs.Common.{◌≢◌, ℕ, List, take}
use Rattle.std.specs.List.{AllPairs}
use Rattle.marker_cli.proofs.form.are_distinct.Given as goal

abbrev pub invariant-loop-place : goal.invariant-loop-place
invariant-loop-place l = AllPairs (λ (name other : List ℕ). name ≢ other) (take l.place l.names)
