use Rattle.std.proofs.Common.{◌≡◌, OnOk, OnErr, subst}
use Rattle.ports.specs.Grown.{grown, GrowsByFront}
use Rattle.text_view.proofs.PieceLaws.{box_behind, box_shown}
use Rattle.text_view.proofs.open_element.put_box.Goals as goal

pub returns-in-Some-clause-ok : goal.returns-in-Some-clause-ok
returns-in-Some-clause-ok g c =
    subst (λ bytes. OnOk c.put_text.result (g.O.Sink.out c.put_text.new.out ≡ grown (g.O.Sink.out c.args.out.now) bytes))
    (box_shown c.args.writer.now c.args.text.now c.in-Some.text c.as_str.result.now c.in-Some.is c.as_str.ensures.bytes) c.put_text.ensures.ok

pub returns-in-Some-clause-state : goal.returns-in-Some-clause-state
returns-in-Some-clause-state g c =
    subst (λ state. OnOk c.put_text.result (c.put_text.new.self ≡ state))
    (box_behind c.args.writer.now c.args.text.now c.in-Some.text c.as_str.result.now c.in-Some.is c.as_str.ensures.bytes) c.put_text.ensures.state

pub returns-in-Some-clause-failed : goal.returns-in-Some-clause-failed
returns-in-Some-clause-failed g c =
    subst (λ bytes. OnErr c.put_text.result (GrowsByFront (g.O.Sink.out c.args.out.now) (g.O.Sink.out c.put_text.new.out) bytes))
    (box_shown c.args.writer.now c.args.text.now c.in-Some.text c.as_str.result.now c.in-Some.is c.as_str.ensures.bytes) c.put_text.ensures.failed
