use Rattle.std.proofs.Common.{◌≡◌, ◌+◌, ◌∙◌, ◌∷◌, [], ap, sym, arith, get_or, take, take_all}
use Rattle.std.proofs.lemmas.List.{take_more}
use Rattle.std.specs.FinMap.{remove}
use Rattle.snapshot_board.specs.Records as records
use Rattle.kept_elements.proofs.ChangeLemmas.{take_all-append}
use Rattle.dirty_walk.proofs.board.take_entries.Goals as goal

pub loop-key-preserved : goal.loop-key-preserved
loop-key-preserved g c =
    let keys = c.args.keys.now in
    let place = c.loop-key.key-index in
    let before = c.args.board.now.held in
    let more : records.take_all (take (place + 1) keys) before ≡ remove (records.take_all (take place keys) before) (get_or keys place 0) =
    ap (λ ks. records.take_all ks before) (take_more keys place 0 c.loop-key-test.true) ∙ take_all-append (take place keys) (get_or keys place 0 ∷ []) before in
    record {
      held = c.take.ensures.held ∙ ap (λ held. remove held (get_or keys place 0)) c.loop-key.invariant.held ∙ sym more;
      room = c.take.ensures.room ∙ c.loop-key.invariant.room;
      steps = omega arith;
    }

pub returns : goal.returns
returns g c = record {
  held = c.loop-key.invariant.held ∙ ap (λ ks. records.take_all ks c.args.board.now.held) (take_all c.loop-key.key-index c.args.keys.now c.loop-key-test.false);
  room = c.loop-key.invariant.room;
  steps = omega arith;
}
