use Rattle.std.proofs.Common.{◌∙◌, ◌+◌, ap, arith, drop, sym}
use Rattle.marker_engine.specs.Engines.{source_of}
use Rattle.marker_cli.specs.Generated.{after_edits, edits_steps}
use Rattle.marker_cli.specs.Machinery.Tallies.{tallied}
use Rattle.marker_cli.proofs.GeneratedLemmas.{edits_next}
use Rattle.marker_cli.proofs.StepLemmas.{edits_steps_next}
use Rattle.marker_cli.proofs.PlayedLemmas.{edits_ended, edits_taken_next, takes_ended}
use Rattle.marker_cli.proofs.generated.apply_all.Goals as goal

pub loop-edit-preserved : goal.loop-edit-preserved
loop-edit-preserved g c =
    let rest = drop (c.loop-edit.edit-index + 1) c.args.edits.now in
    record {
      now = ap (after_edits rest) c.in_ok-tally.ensures.counted
          ∙ sym (edits_next c.args.edits.now _ c.edit-item.result _ c.loop-edit-test.true c.edit-item.is) ∙ c.loop-edit.invariant.now;
      sum = omega (arith, c.loop-edit.invariant.sum, c.in_ok-tally.ensures.sum);
      steps =
          let next = edits_steps_next c.args.edits.now _ c.edit-item.result (tallied (source_of c.loop-edit.engine) c.loop-edit.tally) c.loop-edit-test.true c.edit-item.is in
          let counted = ap (edits_steps rest) c.in_ok-tally.ensures.counted in
          omega (arith, next, counted, c.loop-edit.invariant.steps, c.in_ok-tally.ensures.steps);
      takes = λ left follows.
          let here = (c.in_ok-tally.ensures.takes rest).on left follows in
          let behind = c.loop-edit.invariant.takes here.0 (edits_taken_next c.args.edits.now _ c.edit-item.result _ here.0 c.loop-edit-test.true c.edit-item.is here.1) in
          (behind.0, behind.1, omega (arith, here.2, behind.2));
    }

pub returns-in_err-tally-clause-steps : goal.returns-in_err-tally-clause-steps
returns-in_err-tally-clause-steps g c =
    let next = edits_steps_next c.args.edits.now _ c.edit-item.result (tallied (source_of c.loop-edit.engine) c.loop-edit.tally) c.loop-edit-test.true c.edit-item.is in
    omega (arith, next, c.loop-edit.invariant.steps, c.in_err-tally.ensures.steps)

pub returns-in_err-tally-clause-takes : goal.returns-in_err-tally-clause-takes
returns-in_err-tally-clause-takes g c =
    let here = (c.in_err-tally.ensures.takes (drop (c.loop-edit.edit-index + 1) c.args.edits.now)).ends in
    let behind = c.loop-edit.invariant.takes here.0 (edits_taken_next c.args.edits.now _ c.edit-item.result _ here.0 c.loop-edit-test.true c.edit-item.is here.1) in
    takes_ended c.from_residual.result _ _ _ _ behind.0 c.from_residual.ensures.0 behind.1 (omega (arith, here.2, behind.2))

pub returns-clause-takes : goal.returns-clause-takes
returns-clause-takes g c =
    record { on = λ rest follows. c.loop-edit.invariant.takes rest (edits_ended c.args.edits.now _ _ rest (let end = c.loop-edit-test.false in omega arith) follows); ends = tt }
