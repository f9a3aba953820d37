use Rattle.std.proofs.Common.{◌∙◌, ap, option_copied, refl}
use Rattle.ports.specs.Grown.{grown}
use Rattle.ports.proofs.GrownLemmas.{front_more, front_same, front_step, grown_after, on_err}
use Rattle.marker_engine.proofs.Turns.{first_bytes}
use Rattle.marker_engine.proofs.lines.put_first.Goals as goal

pub returns-in_err-put_box-clause-failed : goal.returns-in_err-put_box-clause-failed
returns-in_err-put_box-clause-failed g c =
    on_err _ (front_same (first_bytes c.args.arena.now.tree _ c.args.key c.in-Some.entry.now (ap option_copied c.in-Some.is)) (front_more _ c.in_err-put_box.ensures.failed))

pub returns-in_err-put_box-2-clause-failed : goal.returns-in_err-put_box-2-clause-failed
returns-in_err-put_box-2-clause-failed g c =
    on_err _ (front_same (first_bytes c.args.arena.now.tree _ c.args.key c.in-Some.entry.now (ap option_copied c.in-Some.is))
    (front_step c.in_ok-put_box.ensures.ok refl c.in_err-put_box-2.ensures.failed))

pub returns-in_ok-put_box-2-clause-ok : goal.returns-in_ok-put_box-2-clause-ok
returns-in_ok-put_box-2-clause-ok g c =
    grown_after _ _ _ _ _ c.in_ok-put_box.ensures.ok c.in_ok-put_box-2.ensures.ok
    ∙ ap (grown (g.O.Sink.out c.args.out.now)) (first_bytes c.args.arena.now.tree _ c.args.key c.in-Some.entry.now (ap option_copied c.in-Some.is))
