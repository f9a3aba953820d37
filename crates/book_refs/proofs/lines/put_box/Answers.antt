use Rattle.std.proofs.Common.{ap, encode_utf8_all, ◌∙◌}
use Rattle.dump_definitions.specs.Dump.{dump, line_text}
use Rattle.generated_texts.specs.Lines.{lines_of}
use Rattle.ports.specs.Grown.{grown}
use Rattle.ports.proofs.GrownLemmas.{front_none, on_err}
use Rattle.book_refs.specs.Machinery.VolumeBoxes.{text_in}
use Rattle.book_refs.proofs.PutCauses.{front_told, write_caused}
use Rattle.book_refs.proofs.ShownBoxes.{kept_line, told_line}
use Rattle.book_refs.proofs.lines.put_box.Goals as goal

pub returns-in_err-fill_path-clause-failed : goal.returns-in_err-fill_path-clause-failed
returns-in_err-fill_path-clause-failed g c = on_err _ (front_none _ _)

pub returns-in_err-full-clause-failed : goal.returns-in_err-full-clause-failed
returns-in_err-full-clause-failed g c = on_err _ (front_none _ _)

-- a box that has pieces with urls

pub returns-in_err-put_line-clause-failed : goal.returns-in_err-put_line-clause-failed
returns-in_err-put_line-clause-failed g c =
    front_told c.from_residual-in_err-put_line.result (g.O.Sink.out c.args.out.now) (g.O.Sink.out c.put_line.new.out)
    (encode_utf8_all (line_text (record { path = c.as_slice.result.now; kind = c.args.kind; text = c.in_ok-full.full })))
    (dump (lines_of c.args.own.now.document c.args.key c.args.kind (text_in c.args.own.now c.args.key c.args.volume.now c.args.kind)))
    (told_line c.args.volume.now c.args.own.now c.args.key c.args.kind c.as_slice.result.now c.in_ok-full.full c.arena.result.now.tree c.in-Some-pieces.pieces.now
    (c.as_slice.ensures.value ∙ c.in_ok-fill_path.ensures.path) c.arena.ensures.tree c.in-Some-pieces.ensures.pieces c.in_ok-full.ensures.text)
    c.in_err-put_line.ensures.failed

pub returns-in_err-put_line-clause-cause : goal.returns-in_err-put_line-clause-cause
returns-in_err-put_line-clause-cause g c =
    write_caused (g.O.Sink.faults c.args.out.now) (g.O.Sink.faults c.put_line.new.out) c.from_residual-in_err-put_line.result c.from_residual-in_err-put_line.ensures
    c.in_err-put_line.ensures.cause.later c.in_err-put_line.ensures.cause.failed

-- one that has none

pub returns-in_err-put_line-2-clause-failed : goal.returns-in_err-put_line-2-clause-failed
returns-in_err-put_line-2-clause-failed g c =
    front_told c.from_residual-in_err-put_line-2.result (g.O.Sink.out c.args.out.now) (g.O.Sink.out c.put_line-2.new.out)
    (encode_utf8_all (line_text (record { path = c.as_slice-2.result.now; kind = c.args.kind; text = c.in-Some.text.full })))
    (dump (lines_of c.args.own.now.document c.args.key c.args.kind (text_in c.args.own.now c.args.key c.args.volume.now c.args.kind)))
    (kept_line c.args.volume.now c.args.own.now c.args.key c.args.kind c.texts_are_told_piece_by_piece.ensures.boxes c.as_slice-2.result.now c.arena.result.now.tree c.args.text.now c.in-Some.text
    (c.as_slice-2.ensures.value ∙ c.in_ok-fill_path.ensures.path) c.arena.ensures.tree c.in_default-pieces.ensures.pieces c.requires.text c.in-Some.is)
    c.in_err-put_line-2.ensures.failed

pub returns-clause-ok : goal.returns-clause-ok
returns-clause-ok g c =
    c.in_ok-put_line-2.ensures.ok
    ∙ ap (grown (g.O.Sink.out c.args.out.now))
    (kept_line c.args.volume.now c.args.own.now c.args.key c.args.kind c.texts_are_told_piece_by_piece.ensures.boxes c.as_slice-2.result.now c.arena.result.now.tree c.args.text.now c.in-Some.text
    (c.as_slice-2.ensures.value ∙ c.in_ok-fill_path.ensures.path) c.arena.ensures.tree c.in_default-pieces.ensures.pieces c.requires.text c.in-Some.is)
