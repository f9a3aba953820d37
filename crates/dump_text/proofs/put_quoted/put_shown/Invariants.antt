use Rattle.std.proofs.Common.{◌≡◌, ◌++◌, ◌-◌, ◌≤◌, take, drop}
use Rattle.std.specs.List.{flat_map}
use Rattle.ports.specs.Grown.{grown}
use Rattle.dump_definitions.specs.Dump.{shown}
use Rattle.dump_text.proofs.put_quoted.put_shown.Given as goal

abbrev pub invariant-loop-place : goal.invariant-loop-place
invariant-loop-place g l = record {
  within : l.start ≤ l.place;
  written : g.O.Sink.out l.out ≡ grown (g.O.Sink.out l.initial.out) (flat_map shown (take l.start l.bytes));
  plain : flat_map shown (take l.place l.bytes) ≡ flat_map shown (take l.start l.bytes) ++ take (l.place - l.start) (drop l.start l.bytes);
  later : g.O.Sink.faults l.initial.out ≤ g.O.Sink.faults l.out;
}
