use Rattle.std.proofs.Common.{◌≡◌, ◌≤◌, take, encode_utf8_all}
use Rattle.std.specs.List.{flat_map}
use Rattle.ports.specs.Grown.{grown}
use Rattle.style_sources.specs.Sources.{value_source_of}
use Rattle.why_report.specs.Accounts.{source_line}
use Rattle.why_report.proofs.sources.put_sources.Given as goal

abbrev pub invariant-loop-property : goal.invariant-loop-property
invariant-loop-property g l = record {
  written : g.O.Sink.out l.out ≡ grown (g.O.Sink.out l.initial.out) (flat_map (λ property. encode_utf8_all (source_line property (value_source_of l.is_root property l.declarations))) (take l.property-index l.property-items));
  later : g.O.Sink.faults l.initial.out ≤ g.O.Sink.faults l.out;
}
