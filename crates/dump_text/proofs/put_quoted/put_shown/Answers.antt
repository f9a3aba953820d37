use Rattle.std.proofs.Common.{get_or, [], ◌++◌, ◌-◌, ◌+◌, take, drop, rules, arith, ◌∙◌, sym, ap}
use Rattle.std.specs.List.{flat_map}
use Rattle.ports.specs.Grown.{grown}
use Rattle.dump_definitions.specs.Dump.{shown, escape}
use Rattle.std.proofs.lemmas.Result.{on_err_weaker}
use Rattle.ports.proofs.GrownLemmas.{front_after, on_err, grown-grown}
use Rattle.ports.proofs.PieceLemmas.{pieces-parts}
use Rattle.dump_text.proofs.RunLemmas.{escape_more, plain_more, run_none, run_last}
use Rattle.dump_text.proofs.put_quoted.put_shown.Goals as goal
use Rattle.dump_text.proofs.put_quoted.put_shown.Goals.{then-is_escaped+in_ok-put_all+in_ok-put_escape, else-is_escaped}

pub returns-in_err-put_all-clause-failed : goal.returns-in_err-put_all-clause-failed
returns-in_err-put_all-clause-failed g c =
    on_err _ (front_after _ _ _ _ _ _ _ c.loop-place.invariant.written c.in_err-put_all.ensures.failed
    (ap (λ bs. bs ++ flat_map shown (drop c.loop-place.place c.args.bytes.now)) (sym c.loop-place.invariant.plain) ∙ pieces-parts shown c.args.bytes.now c.loop-place.place))

pub returns-in_err-put_escape-clause-failed : goal.returns-in_err-put_escape-clause-failed
returns-in_err-put_escape-clause-failed g c =
    let written = c.in_ok-put_all.ensures.ok ∙ ap (λ o. grown o (take (c.loop-place.place - c.loop-place.start) (drop c.loop-place.start c.args.bytes.now))) c.loop-place.invariant.written
    ∙ grown-grown _ _ _ ∙ ap (λ bs. grown (g.O.Sink.out c.args.out.now) bs) (sym c.loop-place.invariant.plain) in
    on_err _ (front_after _ _ _ _ _ _ _ written c.in_err-put_escape.ensures.failed
    (ap (λ bs. bs ++ flat_map shown (drop (c.loop-place.place + 1) c.args.bytes.now)) (sym (escape_more c.args.bytes.now c.loop-place.place c.loop-place-test.true (sym c.is_escaped.ensures.escaped ∙ c.if-is_escaped.true)))
    ∙ pieces-parts shown c.args.bytes.now (c.loop-place.place + 1)))

pub loop-place-preserved : goal.loop-place-preserved
loop-place-preserved g c =
    elim c.if-is_escaped.branch [
      | then-is_escaped+in_ok-put_all+in_ok-put_escape w ↦
          let written = w.in_ok-put_all.ensures.ok ∙ ap (λ o. grown o (take (c.loop-place.place - c.loop-place.start) (drop c.loop-place.start c.args.bytes.now))) c.loop-place.invariant.written
          ∙ grown-grown _ _ _ ∙ ap (λ bs. grown (g.O.Sink.out c.args.out.now) bs) (sym c.loop-place.invariant.plain) in
          let more = escape_more c.args.bytes.now c.loop-place.place c.loop-place-test.true (sym c.is_escaped.ensures.escaped ∙ w.if-is_escaped.true) in
          rw (w.start-is, w.out-is) record {
            within = search rules;
            written = w.in_ok-put_escape.ensures.ok ∙ ap (λ o. grown o (escape (get_or c.args.bytes.now c.loop-place.place 0))) written ∙ grown-grown _ _ _ ∙ ap (λ bs. grown (g.O.Sink.out c.args.out.now) bs) (sym more);
            plain = run_none c.args.bytes.now (c.loop-place.place + 1);
            later = omega (arith, w.in_ok-put_all.ensures.cause.later, w.in_ok-put_escape.ensures.cause.later);
          }
      | else-is_escaped w ↦
          rw (w.start-is, w.out-is) record {
            within = omega arith;
            written = c.loop-place.invariant.written;
            plain = plain_more _ _ _ c.loop-place.invariant.within c.loop-place-test.true (sym c.is_escaped.ensures.escaped ∙ w.if-is_escaped.false) c.loop-place.invariant.plain;
            later = c.loop-place.invariant.later;
          }
    ]

pub returns-clause-failed : goal.returns-clause-failed
returns-clause-failed g c =
    on_err_weaker c.put_all-2.result (λ h. front_after _ _ _ _ _ [] _ c.loop-place.invariant.written h (run_last c.args.bytes.now c.loop-place.start c.loop-place.place c.loop-place-test.false c.loop-place.auto.place-end c.loop-place.invariant.plain)) c.put_all-2.ensures.failed
