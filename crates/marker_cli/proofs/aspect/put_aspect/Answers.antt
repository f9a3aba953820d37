use Rattle.std.proofs.Common.{◌≡◌, List, ℕ, ap, arith, inl, refl, subst, sym}
use Rattle.std.specs.Prelude.{OnErr, OnOk}
use Rattle.document_walk.specs.Elements.{element_count}
use Rattle.node_arena.specs.Document.{HasElementRoot}
use Rattle.ports.specs.Grown.{grown, GrowsByFront}
use Rattle.ports.specs.declared.put_fault.PutFault.TheVariants.{Memory}
use Rattle.ports.proofs.GrownLemmas.{front_none, on_err}
use Rattle.marker_cli.specs.Aspects.{aspect_bytes}
use Rattle.marker_cli.proofs.FaultLemmas.{not_put}
use Rattle.marker_cli.proofs.aspect.put_aspect.Goals as goal

pub put_shown-requires : goal.put_shown-requires
put_shown-requires g c = record { element = subst HasElementRoot (sym c.in_ok-engine.ensures.tree) c.requires.element }

pub returns-in_err-engine-clause-failed : goal.returns-in_err-engine-clause-failed
returns-in_err-engine-clause-failed g c = on_err _ (front_none _ _)

pub returns-in_err-engine-clause-cause : goal.returns-in_err-engine-clause-cause
returns-in_err-engine-clause-cause g c = not_put _ Memory c.from_residual.result c.from_residual.ensures (inl refl)

pub returns-in_err-engine-clause-steps : goal.returns-in_err-engine-clause-steps
returns-in_err-engine-clause-steps g c = omega (arith, c.in_err-engine.ensures.steps)

pub returns-clause-ok : goal.returns-clause-ok
returns-clause-ok g c =
    subst (λ (bytes : List ℕ). OnOk c.put_shown.result (g.O.Sink.out c.put_shown.new.out ≡ grown (g.O.Sink.out c.args.out.now) bytes))
    (λ i. aspect_bytes c.args.aspect.now (c.in_ok-engine.ensures.sheet i) (c.in_ok-engine.ensures.tree i)) c.put_shown.ensures.ok

pub returns-clause-failed : goal.returns-clause-failed
returns-clause-failed g c =
    subst (λ (bytes : List ℕ). OnErr c.put_shown.result (GrowsByFront (g.O.Sink.out c.args.out.now) (g.O.Sink.out c.put_shown.new.out) bytes))
    (λ i. aspect_bytes c.args.aspect.now (c.in_ok-engine.ensures.sheet i) (c.in_ok-engine.ensures.tree i)) c.put_shown.ensures.failed

pub returns-clause-steps : goal.returns-clause-steps
returns-clause-steps g c =
    let count = ap element_count c.in_ok-engine.ensures.tree in
    omega (arith, count, c.in_ok-engine.ensures.steps, c.put_shown.ensures.steps)
