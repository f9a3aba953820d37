use Rattle.std.proofs.Common.{◌∙◌, ap, sym, get_or, take_all}
use Rattle.std.specs.FinMap.{remove}
use Rattle.snapshot_board.specs.Records as records
use Rattle.zero_walks.proofs.SlotLoops.{take_next}
use Rattle.zero_walks.proofs.zero_walks.ZeroWalks.take_all.Goals as goal

pub loop-key-preserved : goal.loop-key-preserved
loop-key-preserved c =
    let keys = c.args.keys.now in
    let place = c.loop-key.key-index in
    record {
      held = c.take.ensures.held ∙ ap (λ held. remove held (get_or keys place 0)) c.loop-key.invariant.held ∙ sym (take_next keys place c.args.self.now.held c.loop-key-test.true);
      room = c.take.ensures.room ∙ c.loop-key.invariant.room;
    }

pub returns : goal.returns
returns c = record {
  held = c.loop-key.invariant.held ∙ ap (λ ks. records.take_all ks c.args.self.now.held) (take_all c.loop-key.key-index c.args.keys.now c.loop-key-test.false);
  room = c.loop-key.invariant.room;
}
