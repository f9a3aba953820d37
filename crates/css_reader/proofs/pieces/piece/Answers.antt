use Rattle.std.proofs.Common.{◌≡◌, ◌∙◌, arith}
use Rattle.std.proofs.lemmas.List.{nil_from_length}
use Rattle.css_reader.specs.Blocks.{past_piece}
use Rattle.css_reader.proofs.Cutting.{Cuts-start, Cuts-more, Cuts-nothing, Cuts-stop, Cuts-drop}
use Rattle.css_reader.proofs.Waiting.{waiting_after-is, ends_where_none_waits}
use Rattle.css_reader.proofs.pieces.piece.Goals as goal
use Rattle.css_reader.proofs.pieces.piece.Goals.{in-Some+then-ends_here, in_default}

pub tokens-init : goal.tokens-init
tokens-init g c = record { cuts = rw c.new-waiting.ensures.items (Cuts-start g.E.PieceEnd.ends c.args.tokens.now); within = omega arith }

pub tokens-preserved : goal.tokens-preserved
tokens-preserved g c = record {
  cuts = rw (c.in_ok-step.ensures.ok, waiting_after-is _ _) (Cuts-more g.E.PieceEnd.ends _ _ _ c.in-Some.token.now _ c.tokens.invariant.cuts c.in-Some.ensures.cases.0 (ends_where_none_waits c.tokens.waiting.items c.tokens.waiting.len _ _ _ c.tokens.waiting.ok.0 c.ends_here.ensures c.if-ends_here.false));
  within = omega (arith, c.in-Some.ensures.cases.1);
}

pub returns-clause-piece : goal.returns-clause-piece
returns-clause-piece g c =
    let past : past_piece g.E.PieceEnd.ends c.args.tokens.now ≡ c.tokens.rest.now =
    elim c.match-split_first.branch [
      | in-Some+then-ends_here w ↦ Cuts-stop g.E.PieceEnd.ends _ _ _ w.in-Some.token.now _ c.tokens.invariant.cuts w.in-Some.ensures.cases.0 (ends_where_none_waits c.tokens.waiting.items c.tokens.waiting.len _ _ _ c.tokens.waiting.ok.0 w.ends_here.ensures w.if-ends_here.true)
      | in_default w ↦ Cuts-nothing g.E.PieceEnd.ends _ _ _ c.tokens.invariant.cuts (nil_from_length c.tokens.rest.now w.in_default.ensures.cases)
    ] in
    rw past c.split_at.ensures.front

pub returns-clause-rest : goal.returns-clause-rest
returns-clause-rest g c =
    let past : past_piece g.E.PieceEnd.ends c.args.tokens.now ≡ c.tokens.rest.now =
    elim c.match-split_first.branch [
      | in-Some+then-ends_here w ↦ Cuts-stop g.E.PieceEnd.ends _ _ _ w.in-Some.token.now _ c.tokens.invariant.cuts w.in-Some.ensures.cases.0 (ends_where_none_waits c.tokens.waiting.items c.tokens.waiting.len _ _ _ c.tokens.waiting.ok.0 w.ends_here.ensures w.if-ends_here.true)
      | in_default w ↦ Cuts-nothing g.E.PieceEnd.ends _ _ _ c.tokens.invariant.cuts (nil_from_length c.tokens.rest.now w.in_default.ensures.cases)
    ] in
    rw past (c.split_at.ensures.back ∙ Cuts-drop g.E.PieceEnd.ends _ _ _ c.tokens.invariant.cuts)
