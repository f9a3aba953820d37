use Rattle.std.proofs.Common.{◌∙◌, ap, encode_utf8_all}
use Rattle.ports.specs.Grown.{grown}
use Rattle.ports.proofs.GrownLemmas.{front_same, on_err}
use Rattle.ports.proofs.PieceLemmas.{pieces_end, pieces_front}
use Rattle.dump_text.proofs.EncodedLemmas.{encodes-flat_map}
use Rattle.why_report.specs.Accounts.{counter_line}
use Rattle.why_report.proofs.counters.put_counters.Goals as goal

pub returns-in_err-put_counter-clause-failed : goal.returns-in_err-put_counter-clause-failed
returns-in_err-put_counter-clause-failed g c =
    on_err _ (front_same (encodes-flat_map (counter_line c.args.arena.now.tree) c.args.counters.now)
    (pieces_front (λ counter. encode_utf8_all (counter_line c.args.arena.now.tree counter)) c.args.counters.now c.loop-counter.counter-index c.counter-item.result _ _ _
    c.loop-counter-test.true c.counter-item.is c.loop-counter.invariant.written c.in_err-put_counter.ensures.failed))

pub returns-clause-ok : goal.returns-clause-ok
returns-clause-ok g c =
    pieces_end (λ counter. encode_utf8_all (counter_line c.args.arena.now.tree counter)) c.args.counters.now c.loop-counter.counter-index _ _ c.loop-counter-test.false c.loop-counter.invariant.written
    ∙ ap (grown (g.O.Sink.out c.args.out.now)) (encodes-flat_map (counter_line c.args.arena.now.tree) c.args.counters.now)
