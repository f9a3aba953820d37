use Rattle.std.proofs.Common.{◌∷◌, ◌∙◌, ap, sym, encode_utf8_all, rules, arith}
use Rattle.std.proofs.lemmas.List.{get_or_default}
use Rattle.std.specs.Fmt.{decimal}
use Rattle.ports.specs.Grown.{grown}
use Rattle.ports.proofs.GrownLemmas.{front_same, grown-nil, on_err}
use Rattle.ports.proofs.PieceLemmas.{pieces_end, pieces_front, pieces_went_out}
use Rattle.dump_text.proofs.LineLemmas.{path_bytes}
use Rattle.dump_text.proofs.put_line.put_path.Goals as goal

pub loop-position-init : goal.loop-position-init
loop-position-init g c = record { written = grown-nil _; later = search rules }

pub returns-in_err-put_position-clause-failed : goal.returns-in_err-put_position-clause-failed
returns-in_err-put_position-clause-failed g c =
    on_err _ (front_same (path_bytes c.args.path.now (sym c.is_empty.ensures ∙ c.if-is_empty.false))
    (pieces_front (λ position. encode_utf8_all (47 ∷ decimal position)) c.args.path.now c.loop-position.position-index _ _ _ _ c.loop-position-test.true (search (rules, get_or_default))
    c.loop-position.invariant.written c.in_err-put_position.ensures.failed))

pub loop-position-preserved : goal.loop-position-preserved
loop-position-preserved g c = record {
  written = pieces_went_out (λ position. encode_utf8_all (47 ∷ decimal position)) c.args.path.now c.loop-position.position-index _ _ _ _ c.loop-position-test.true (search (rules, get_or_default)) c.loop-position.invariant.written c.in_ok-put_position.ensures.ok;
  later = omega (arith, c.in_ok-put_position.ensures.cause.later, c.loop-position.invariant.later);
}

pub returns-clause-ok : goal.returns-clause-ok
returns-clause-ok g c =
    pieces_end (λ position. encode_utf8_all (47 ∷ decimal position)) c.args.path.now c.loop-position.position-index _ _ c.loop-position-test.false c.loop-position.invariant.written
    ∙ ap (λ bs. grown (g.O.Sink.out c.args.out.now) bs) (path_bytes c.args.path.now (sym c.is_empty.ensures ∙ c.if-is_empty.false))
