use Rattle.std.proofs.Common.{◌∙◌, ap, refl}
use Rattle.std.proofs.lemmas.Result.{on_err_weaker, on_ok_weaker}
use Rattle.ports.specs.Grown.{grown}
use Rattle.ports.proofs.GrownLemmas.{front_more, front_same, front_step, grown_after, on_err}
use Rattle.why_report.proofs.ExplainLaws.{counters_live, sources_first, then_counters}
use Rattle.why_report.proofs.explain.put_account.Goals as goal

pub returns-in_err-put_element_sources-clause-failed : goal.returns-in_err-put_element_sources-clause-failed
returns-in_err-put_element_sources-clause-failed g c =
    on_err _ (front_same (sources_first c.args.book.now c.arena-arena.result.now.tree c.author.result.now c.args.key c.arena-arena.ensures.tree c.author.ensures.sheet)
    (front_more _ c.in_err-put_element_sources.ensures.failed))

pub put_counters-requires : goal.put_counters-requires
put_counters-requires g c =
    record {
      live =
          counters_live c.keys_do_not_matter.ensures.entries c.args.book.now c.arena-arena.result.now.tree c.args.key c.entry-entry.result.now c.as_slice.result.now
          c.arena-arena.ensures.tree c.requires.element c.entry-entry.ensures.entry c.as_slice.ensures.counters;
    }

pub returns-clause-ok : goal.returns-clause-ok
returns-clause-ok g c =
    on_ok_weaker c.put_counters.result
    (λ grew. grown_after _ _ _ _ _ c.in_ok-put_element_sources.ensures.ok grew
    ∙ ap (grown (g.O.Sink.out c.args.out.now)) (then_counters c.args.book.now c.arena-arena.result.now.tree c.author.result.now c.args.key c.entry-entry.result.now c.as_slice.result.now c.arena-arena.ensures.tree c.author.ensures.sheet c.entry-entry.ensures.entry c.as_slice.ensures.counters))
    c.put_counters.ensures.ok

pub returns-clause-failed : goal.returns-clause-failed
returns-clause-failed g c =
    on_err_weaker c.put_counters.result
    (λ front. front_same (then_counters c.args.book.now c.arena-arena.result.now.tree c.author.result.now c.args.key c.entry-entry.result.now c.as_slice.result.now c.arena-arena.ensures.tree c.author.ensures.sheet c.entry-entry.ensures.entry c.as_slice.ensures.counters)
    (front_step c.in_ok-put_element_sources.ensures.ok refl front))
    c.put_counters.ensures.failed
