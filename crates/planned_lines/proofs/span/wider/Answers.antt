use Rattle.std.proofs.Common.{arith}
use Rattle.planned_lines.proofs.SpanLemmas.{for_some}
use Rattle.planned_lines.proofs.span.wider.Goals as goal

pub returns-in-Some-clause-nodes : goal.returns-in-Some-clause-nodes
returns-in-Some-clause-nodes c =
    for_some c.args.span c.in-Some.span _ c.in-Some.is (λ other within. record {
      first = omega (arith, c.earlier-first.ensures.one, within.first);
      last = omega (arith, c.later-last.ensures.one, within.last);
    })
