use Rattle.std.proofs.Common.{◌≡◌, OnOk, OnErr, subst}
use Rattle.node_arena.specs.Nodes.{characters_of}
use Rattle.ports.specs.Grown.{grown, GrowsByFront}
use Rattle.text_view.proofs.EnterLaws.{characters_behind, characters_shown}
use Rattle.text_view.proofs.view.put_characters.Goals as goal

pub returns-in-Some-clause-ok : goal.returns-in-Some-clause-ok
returns-in-Some-clause-ok g c =
    subst (λ bytes. OnOk c.put_text.result (g.O.Sink.out c.put_text.new.out ≡ grown (g.O.Sink.out c.args.out.now) bytes))
    (characters_shown c.args.writer.now c.in-Some.text.now (characters_of c.args.arena.now.tree c.args.key) c.in-Some.ensures.bytes) c.put_text.ensures.ok

pub returns-in-Some-clause-state : goal.returns-in-Some-clause-state
returns-in-Some-clause-state g c =
    subst (λ state. OnOk c.put_text.result (c.put_text.new.self ≡ state))
    (characters_behind c.args.writer.now c.in-Some.text.now (characters_of c.args.arena.now.tree c.args.key) c.in-Some.ensures.bytes) c.put_text.ensures.state

pub returns-in-Some-clause-failed : goal.returns-in-Some-clause-failed
returns-in-Some-clause-failed g c =
    subst (λ bytes. OnErr c.put_text.result (GrowsByFront (g.O.Sink.out c.args.out.now) (g.O.Sink.out c.put_text.new.out) bytes))
    (characters_shown c.args.writer.now c.in-Some.text.now (characters_of c.args.arena.now.tree c.args.key) c.in-Some.ensures.bytes) c.put_text.ensures.failed
