use Rattle.std.proofs.Common.{◌++◌}
use Rattle.ports.proofs.GrownLemmas.{on_err}
use Rattle.text_view.specs.Views.{box_pieces, break_where}
use Rattle.text_view.proofs.PieceLaws.{err_then, ok_then, stops_first, then_stops, then_written}
use Rattle.text_view.proofs.open_element.put_first.Goals as goal

pub returns-in_err-put_break-clause-failed : goal.returns-in_err-put_break-clause-failed
returns-in_err-put_break-clause-failed g c =
    on_err _ (stops_first c.args.writer.now (break_where c.args.breaks) (box_pieces c.args.entry.now.marker ++ box_pieces c.args.entry.now.before) (g.O.Sink.out c.args.out.now) (g.O.Sink.out c.put_break.new.out) c.in_err-put_break.ensures.failed)

pub returns-in_err-put_box-clause-failed : goal.returns-in_err-put_box-clause-failed
returns-in_err-put_box-clause-failed g c =
    on_err _ (then_stops c.args.writer.now c.put_break.new.writer (break_where c.args.breaks) (box_pieces c.args.entry.now.marker ++ box_pieces c.args.entry.now.before)
    (g.O.Sink.out c.args.out.now) (g.O.Sink.out c.put_break.new.out) (g.O.Sink.out c.put_box.new.out) c.in_ok-put_break.ensures.ok c.in_ok-put_break.ensures.state
    (stops_first c.put_break.new.writer (box_pieces c.args.entry.now.marker) (box_pieces c.args.entry.now.before) (g.O.Sink.out c.put_break.new.out) (g.O.Sink.out c.put_box.new.out) c.in_err-put_box.ensures.failed))

pub returns-clause-ok : goal.returns-clause-ok
returns-clause-ok g c =
    ok_then c.put_box-2.result (λ more.
    then_written c.args.writer.now c.put_break.new.writer (break_where c.args.breaks) (box_pieces c.args.entry.now.marker ++ box_pieces c.args.entry.now.before)
    (g.O.Sink.out c.args.out.now) (g.O.Sink.out c.put_break.new.out) (g.O.Sink.out c.put_box-2.new.out) c.in_ok-put_break.ensures.ok c.in_ok-put_break.ensures.state
    (then_written c.put_break.new.writer c.put_box.new.writer (box_pieces c.args.entry.now.marker) (box_pieces c.args.entry.now.before) (g.O.Sink.out c.put_break.new.out) (g.O.Sink.out c.put_box.new.out) (g.O.Sink.out c.put_box-2.new.out) c.in_ok-put_box.ensures.ok c.in_ok-put_box.ensures.state more))
    c.put_box-2.ensures.ok

pub returns-clause-failed : goal.returns-clause-failed
returns-clause-failed g c =
    err_then c.put_box-2.result (λ grows.
    then_stops c.args.writer.now c.put_break.new.writer (break_where c.args.breaks) (box_pieces c.args.entry.now.marker ++ box_pieces c.args.entry.now.before)
    (g.O.Sink.out c.args.out.now) (g.O.Sink.out c.put_break.new.out) (g.O.Sink.out c.put_box-2.new.out) c.in_ok-put_break.ensures.ok c.in_ok-put_break.ensures.state
    (then_stops c.put_break.new.writer c.put_box.new.writer (box_pieces c.args.entry.now.marker) (box_pieces c.args.entry.now.before) (g.O.Sink.out c.put_break.new.out) (g.O.Sink.out c.put_box.new.out) (g.O.Sink.out c.put_box-2.new.out) c.in_ok-put_box.ensures.ok c.in_ok-put_box.ensures.state grows))
    c.put_box-2.ensures.failed
