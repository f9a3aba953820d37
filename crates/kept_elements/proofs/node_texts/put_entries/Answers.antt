use Rattle.std.proofs.Common.{◌∙◌, ap, sym, arith}
use Rattle.std.specs.FinMap.{insert}
use Rattle.kept_elements.specs.declared.kept.Kept.{Kept}
use Rattle.kept_elements.specs.Evaluations.{kept_of}
use Rattle.kept_elements.proofs.ChangeLemmas.{put_more}
use Rattle.kept_elements.proofs.StoppedLemmas.{stopped_at}
use Rattle.kept_elements.proofs.node_texts.put_entries.Goals as goal

pub loop-key-preserved : goal.loop-key-preserved
loop-key-preserved g c =
    let known = g.T.Targets.known c.args.targets.now in
    let told = c.loop-key-item.result in
    let made : Kept = kept_of c.args.table.now known told.1 in
    record {
      held = c.put.ensures.held
          ∙ ap (λ (kept : Kept). insert c.loop-key.board.held told.0 kept) c.in_ok-kept.ensures.kept
          ∙ ap (λ held. insert held told.0 made) c.loop-key.invariant.held
          ∙ sym (put_more (kept_of c.args.table.now known) c.args.records.now c.loop-key.key-index told c.loop-key-test.true c.loop-key-item.is c.args.board.now.held);
      room = c.put.ensures.room ∙ c.loop-key.invariant.room;
      steps = omega arith;
    }

pub returns-in_err-kept-clause-err : goal.returns-in_err-kept-clause-err
returns-in_err-kept-clause-err g c = stopped_at c.from_residual.result _ c.loop-key.key-index c.loop-key.invariant.held
