use Rattle.std.proofs.Common.{◌≡◌, ◌≤◌, ℕ, List, ◌++◌}
use Rattle.ports.specs.Grown.{grown}
use Rattle.table_text.specs.Rows.{rows, values_between}
use Rattle.table_text.proofs.put_rows.put_rows.Given as goal

abbrev pub invariant-loop-value : goal.invariant-loop-value
invariant-loop-value g l = record {
  done : List ℕ;
  written : g.O.Sink.out l.out ≡ grown (g.O.Sink.out l.initial.out) done;
  parts : done ++ rows l.table l.style (values_between l.value l.to) ≡ rows l.table l.style (values_between l.initial.value l.to);
  later : g.O.Sink.faults l.initial.out ≤ g.O.Sink.faults l.out;
}
