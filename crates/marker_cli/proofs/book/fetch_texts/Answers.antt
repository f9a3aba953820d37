use Rattle.std.proofs.Common.{◌∙◌, ap, arith, length, refl}
use Rattle.std.proofs.lemmas.List.{take_all}
use Rattle.ports.proofs.CauseLemmas.{raises_none}
use Rattle.marker_cli.proofs.EndsLemmas.{at_same, at_start, at_text, ends_no_memory, ends_no_text, reads_after}
use Rattle.marker_cli.proofs.PartLemmas.{each_more, have_all, have_more, sizes_all, sizes_more, texts_end, texts_next}
use Rattle.marker_cli.proofs.PlayLemmas.{goes_stopped}
use Rattle.marker_cli.proofs.book.fetch_texts.Goals as goal

pub loop-place-init : goal.loop-place-init
loop-place-init g c = record {
  told = λ files before next told. at_start _ _;
  texts = λ files told. rw c.new-texts.ensures.empty tt;
  each = rw c.new-texts.ensures.empty refl;
  held = refl;
  honest = refl;
  faults = omega arith;
  taken = omega arith;
  came = λ files told. raises_none _ _ refl;
}

pub loop-place-preserved : goal.loop-place-preserved
loop-place-preserved g c =
    let now = c.loop-place.invariant in
    record {
      told = λ files before next told.
          at_text files _ _ _ (at_same (texts_next files _ _ c.index-names-place.result next c.loop-place-test.true c.index-names-place.is) (now.told files before next told))
          (rw c.as_str.ensures.characters at (c.in_ok-text.ensures.told files (now.held ∙ told)));
      texts = λ files told. rw c.in_ok-push.ensures.ok (have_more files _ _ _ c.index-names-place.result _ c.loop-place-test.true c.index-names-place.is (now.texts files told)
          (rw c.as_str.ensures.characters at (c.in_ok-text.ensures.told files (now.held ∙ told))));
      each = each_more _ _ _ _ c.index-names-place.result _ c.loop-place-test.true c.index-names-place.is now.each c.in_ok-push.ensures.ok;
      held = c.in_ok-text.ensures.held ∙ now.held;
      honest = c.in_ok-text.ensures.honest ∙ now.honest;
      faults = omega (arith, now.faults, c.in_ok-text.ensures.faults);
      taken = omega (arith, now.taken, c.in_ok-text.ensures.taken);
      came = λ files told. sizes_more files _ _ c.index-names-place.result _ _ _ c.loop-place-test.true c.index-names-place.is (now.came files told)
          (rw c.as_str.ensures.characters at (c.in_ok-text.ensures.came files (now.held ∙ told)));
    }

pub returns-in_err-text-clause-told : goal.returns-in_err-text-clause-told
returns-in_err-text-clause-told g c files before next told =
    let now = c.loop-place.invariant in
    goes_stopped c.from_residual.result c.from_residual.ensures
    (ends_no_text files _ _ _ (at_same (texts_next files _ _ c.index-names-place.result next c.loop-place-test.true c.index-names-place.is) (now.told files before next told))
    (rw c.as_str.ensures.characters at (c.in_err-text.ensures.told files (now.held ∙ told)))
    (λ failed. reads_after now.honest now.faults failed))

pub returns-in_err-push-clause-told : goal.returns-in_err-push-clause-told
returns-in_err-push-clause-told g c files before next told =
    goes_stopped c.from_residual-in_err-push.result c.from_residual-in_err-push.ensures (ends_no_memory (c.loop-place.invariant.told files before next told) refl)

pub returns-clause-told : goal.returns-clause-told
returns-clause-told g c files before next told =
    record { on = at_same (texts_end files _ _ next c.loop-place-test.false) (c.loop-place.invariant.told files before next told); stops = tt }

pub returns-clause-texts : goal.returns-clause-texts
returns-clause-texts g c files told = have_all files _ _ _ c.loop-place-test.false (c.loop-place.invariant.texts files told)

pub returns-clause-each : goal.returns-clause-each
returns-clause-each g c = c.loop-place.invariant.each ∙ ap length (take_all c.loop-place.place c.args.names.now c.loop-place-test.false)

pub returns-clause-came : goal.returns-clause-came
returns-clause-came g c files told = sizes_all files _ _ _ _ c.loop-place-test.false (c.loop-place.invariant.came files told)
