use Rattle.std.proofs.Common.{◌≡◌, ◌≤◌, take, encode_utf8_all}
use Rattle.std.specs.List.{flat_map}
use Rattle.ports.specs.Grown.{grown}
use Rattle.why_report.specs.Accounts.{counter_line}
use Rattle.why_report.proofs.counters.put_counters.Given as goal

abbrev pub invariant-loop-counter : goal.invariant-loop-counter
invariant-loop-counter g l = record {
  written : g.O.Sink.out l.out ≡ grown (g.O.Sink.out l.initial.out) (flat_map (λ counter. encode_utf8_all (counter_line l.arena.tree counter)) (take l.counter-index l.counters));
  later : g.O.Sink.faults l.initial.out ≤ g.O.Sink.faults l.out;
}
