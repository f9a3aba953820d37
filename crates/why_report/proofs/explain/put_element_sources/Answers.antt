use Rattle.std.proofs.Common.{◌∙◌, ap}
use Rattle.ports.specs.Grown.{grown}
use Rattle.ports.proofs.GrownLemmas.{front_none, front_same, on_err}
use Rattle.why_report.proofs.ExplainLaws.{sources_told}
use Rattle.why_report.proofs.explain.put_element_sources.Goals as goal

pub returns-in_err-agent-clause-failed : goal.returns-in_err-agent-clause-failed
returns-in_err-agent-clause-failed g c = on_err _ (front_none _ _)

pub returns-in_err-hints-clause-failed : goal.returns-in_err-hints-clause-failed
returns-in_err-hints-clause-failed g c = on_err _ (front_none _ _)

pub returns-in_err-inline-clause-failed : goal.returns-in_err-inline-clause-failed
returns-in_err-inline-clause-failed g c = on_err _ (front_none _ _)

pub returns-in_err-declarations-clause-failed : goal.returns-in_err-declarations-clause-failed
returns-in_err-declarations-clause-failed g c = on_err _ (front_none _ _)

pub returns-in_err-put_sources-clause-failed : goal.returns-in_err-put_sources-clause-failed
returns-in_err-put_sources-clause-failed g c =
    on_err _ (front_same (sources_told c.args.arena.now.tree c.new-siblings.result c.in_ok-agent.agent c.args.author.now c.args.key c.is_none.result c.parent.result c.in_ok-declarations.declarations c.new-siblings.ensures.tree c.in_ok-agent.ensures.sheet c.is_none.ensures c.parent.ensures.link c.in_ok-declarations.ensures.declarations) c.in_err-put_sources.ensures.failed)

pub returns-clause-ok : goal.returns-clause-ok
returns-clause-ok g c =
    c.in_ok-put_sources.ensures.ok
    ∙ ap (grown (g.O.Sink.out c.args.out.now)) (sources_told c.args.arena.now.tree c.new-siblings.result c.in_ok-agent.agent c.args.author.now c.args.key c.is_none.result c.parent.result c.in_ok-declarations.declarations c.new-siblings.ensures.tree c.in_ok-agent.ensures.sheet c.is_none.ensures c.parent.ensures.link c.in_ok-declarations.ensures.declarations)
