use Rattle.std.proofs.Common.{append-nil, ap, arith, cond, count_by, sym, ◌∙◌, ◌++◌}
use Rattle.std.proofs.lemmas.List.{take_all}
use Rattle.book_definitions.specs.BoxLaws.{flat_piece}
use Rattle.book_definitions.specs.Texts.{flat_in_volume}
use Rattle.box_pieces.specs.BoxPieces.{has_url}
use Rattle.content_eval.specs.declared.generated.Piece.{Piece}
use Rattle.book_refs.proofs.PieceLoops.{sum_more, sum_within, text_more}
use Rattle.book_refs.proofs.flat_texts.push_flat_pieces.Goals as goal

pub loop-piece-init : goal.loop-piece-init
loop-piece-init g c = record { written = sym (append-nil c.args.out.now); spent = omega arith }

pub returns-in_err-push_flat_piece-clause-steps : goal.returns-in_err-push_flat_piece-clause-steps
returns-in_err-push_flat_piece-clause-steps g c =
    let within = sum_within c.args.pieces.now c.loop-piece.piece-index c.piece-item.result c.loop-piece-test.true c.piece-item.is (λ (refers : Piece). cond (has_url refers) 1 0) in
    omega (arith, within, c.push_flat_piece.ensures.steps, c.loop-piece.invariant.spent)

pub loop-piece-preserved : goal.loop-piece-preserved
loop-piece-preserved g c =
    let more = sum_more c.args.pieces.now c.loop-piece.piece-index c.piece-item.result c.loop-piece-test.true c.piece-item.is (λ (refers : Piece). cond (has_url refers) 1 0) in
    record {
      written =
          text_more c.args.pieces.now c.loop-piece.piece-index c.piece-item.result c.loop-piece-test.true c.piece-item.is (flat_piece c.args.volume.now c.args.own.now)
          c.args.out.now c.loop-piece.out c.push_flat_piece.new.out c.loop-piece.invariant.written c.in_ok-push_flat_piece.ensures.ok;
      spent = omega (arith, more, c.push_flat_piece.ensures.steps, c.loop-piece.invariant.spent);
    }

pub returns-clause-ok : goal.returns-clause-ok
returns-clause-ok g c =
    c.loop-piece.invariant.written
    ∙ ap (λ pieces. c.args.out.now ++ flat_in_volume c.args.volume.now c.args.own.now pieces) (take_all c.loop-piece.piece-index c.args.pieces.now c.loop-piece-test.false)

pub returns-clause-steps : goal.returns-clause-steps
returns-clause-steps g c =
    let all = ap (count_by has_url) (take_all c.loop-piece.piece-index c.args.pieces.now c.loop-piece-test.false) in
    omega (arith, all, c.loop-piece.invariant.spent)
