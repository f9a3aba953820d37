use Rattle.std.proofs.Common.{[], arith}
use Rattle.book_definitions.specs.BoxLaws.{full_piece}
use Rattle.book_refs.specs.ShowWork.{piece_work}
use Rattle.book_refs.proofs.PieceLoops.{sum_more, text_more}
use Rattle.book_refs.proofs.full_texts.full_text.Goals as goal

pub loop-piece-preserved : goal.loop-piece-preserved
loop-piece-preserved g c =
    let more = sum_more c.args.pieces.now c.loop-piece.piece-index c.piece-item.result c.loop-piece-test.true c.piece-item.is (piece_work c.args.volume.now c.args.own.now) in
    record {
      written =
          text_more c.args.pieces.now c.loop-piece.piece-index c.piece-item.result c.loop-piece-test.true c.piece-item.is (full_piece c.args.volume.now c.args.own.now)
          [] c.loop-piece.text c.push_full_piece.new.out c.loop-piece.invariant.written c.in_ok-push_full_piece.ensures.ok;
      spent = omega (arith, more, c.push_full_piece.ensures.steps, c.loop-piece.invariant.spent);
    }
