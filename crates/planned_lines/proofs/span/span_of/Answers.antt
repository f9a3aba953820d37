use Rattle.std.proofs.Common.{◌+◌, Option, subst, sym, take}
use Rattle.std.specs.Prelude.{IfNone, IfSome}
use Rattle.planned_lines.specs.declared.span.Span.{Span}
use Rattle.planned_lines.specs.Spans.{AreWithin, HasEnds, ShowNoOthers}
use Rattle.planned_lines.proofs.PutLemmas.{none_still, put_live, within_more, within_still}
use Rattle.planned_lines.proofs.span.span_of.Goals as goal
use Rattle.planned_lines.proofs.span.span_of.Goals.{then-change, else-change}

pub wider-requires : goal.wider-requires
wider-requires c = record {
  live = put_live c.args.arena.now.tree c.args.puts.now c.loop-key.key-index c.loop-key-item.result c.requires.elements c.loop-key-test.true c.loop-key-item.is;
  ends = c.loop-key.invariant.ends;
}

pub loop-key-preserved : goal.loop-key-preserved
loop-key-preserved c =
    let tree = c.args.arena.now.tree in
    let puts = c.args.puts.now in
    let place = c.loop-key.key-index in
    let put = c.loop-key-item.result in
    elim c.if-change.branch [
      | then-change w ↦ record {
        ends = subst (λ (span : Option Span). IfSome span (HasEnds tree)) (sym w.span-is) w.wider.ensures.ends;
        puts = subst (λ (span : Option Span). IfSome span (λ one. AreWithin tree one (take (place + 1) puts))) (sym w.span-is)
            (within_more puts place put c.loop-key-test.true c.loop-key-item.is tree c.loop-key.span w.wider.result
            c.loop-key.invariant.puts c.loop-key.invariant.none w.wider.ensures.node w.wider.ensures.nodes);
        none = subst (λ (span : Option Span). IfNone span (ShowNoOthers (take (place + 1) puts))) (sym w.span-is) tt;
      }
      | else-change w ↦ record {
        ends = subst (λ (span : Option Span). IfSome span (HasEnds tree)) (sym w.span-is) c.loop-key.invariant.ends;
        puts = subst (λ (span : Option Span). IfSome span (λ one. AreWithin tree one (take (place + 1) puts))) (sym w.span-is)
            (within_still puts place put c.loop-key-test.true c.loop-key-item.is tree c.loop-key.span w.if-change.false c.loop-key.invariant.puts);
        none = subst (λ (span : Option Span). IfNone span (ShowNoOthers (take (place + 1) puts))) (sym w.span-is)
            (none_still puts place put c.loop-key-test.true c.loop-key-item.is c.loop-key.span w.if-change.false c.loop-key.invariant.none);
      }
    ]
