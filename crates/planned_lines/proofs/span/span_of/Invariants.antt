use Rattle.std.proofs.Common.{take}
use Rattle.std.specs.Prelude.{IfNone, IfSome}
use Rattle.planned_lines.specs.Spans.{AreWithin, HasEnds, ShowNoOthers}
use Rattle.planned_lines.proofs.span.span_of.Given as goal

abbrev pub invariant-loop-key : goal.invariant-loop-key
invariant-loop-key l = record {
  ends : IfSome l.span (HasEnds l.arena.tree);
  puts : IfSome l.span (λ span. AreWithin l.arena.tree span (take l.key-index l.puts));
  none : IfNone l.span (ShowNoOthers (take l.key-index l.puts));
}
