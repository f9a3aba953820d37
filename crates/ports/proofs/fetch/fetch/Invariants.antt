use Rattle.std.proofs.Common.{◌≡◌, ◌≤◌, IfSome, ◌-◌, length}
use Rattle.std.specs.Str.{chars}
use Rattle.ports.specs.Causes.{Raises}
use Rattle.ports.proofs.FetchLemmas.{HasFront}
use Rattle.ports.proofs.fetch.fetch.Given as goal

abbrev pub invariant-loop-bytes : goal.invariant-loop-bytes
invariant-loop-bytes g l = record {
  front : IfSome (g.S.Shelf.held l.initial.shelf) (λ files. HasFront (files (chars l.name)) l.bytes);
  short : length l.bytes ≤ 16777216;
  held : g.S.Shelf.held l.shelf ≡ g.S.Shelf.held l.initial.shelf;
  honest : g.S.Shelf.honest l.shelf ≡ g.S.Shelf.honest l.initial.shelf;
  faults : g.S.Shelf.faults l.initial.shelf ≤ g.S.Shelf.faults l.shelf;
  taken : Raises (g.S.Shelf.taken l.initial.shelf) (g.S.Shelf.taken l.shelf) (length l.bytes);
}

abbrev pub decreases-loop-bytes : goal.decreases-loop-bytes
decreases-loop-bytes g l = 16777216 - length l.bytes
