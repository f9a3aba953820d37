use Rattle.std.proofs.Common.{◌++◌, ◌∙◌, ap, refl, sym}
use Rattle.ports.specs.Grown.{grown}
use Rattle.ports.proofs.GrownLemmas.{front_more, front_same, front_step, grown_after, grown-nil, on_err}
use Rattle.text_view.proofs.WritingLaws.{no_word, word_parts}
use Rattle.text_view.proofs.line_writer.put_word.Goals as goal

pub returns-then-is_empty-clause-ok : goal.returns-then-is_empty-clause-ok
returns-then-is_empty-clause-ok g c = grown-nil _ ∙ ap (grown (g.O.Sink.out c.args.out.now)) (sym (no_word c.args.state c.args.word.now (sym c.is_empty.ensures ∙ c.if-is_empty.true)).0)

pub returns-then-is_empty-clause-state : goal.returns-then-is_empty-clause-state
returns-then-is_empty-clause-state g c = (no_word c.args.state c.args.word.now (sym c.is_empty.ensures ∙ c.if-is_empty.true)).1

pub returns-in_err-put_all-clause-failed : goal.returns-in_err-put_all-clause-failed
returns-in_err-put_all-clause-failed g c =
    on_err _ (front_same
    (ap (λ first. first ++ c.args.word.now) c.space_before.ensures ∙ (word_parts c.args.state c.args.word.now (sym c.is_empty.ensures ∙ c.if-is_empty.false) c.requires.word).0)
    (front_more c.args.word.now c.in_err-put_all.ensures.failed))

pub returns-in_err-put_all-2-clause-failed : goal.returns-in_err-put_all-2-clause-failed
returns-in_err-put_all-2-clause-failed g c =
    on_err _ (front_same
    (ap (λ first. first ++ c.args.word.now) c.space_before.ensures ∙ (word_parts c.args.state c.args.word.now (sym c.is_empty.ensures ∙ c.if-is_empty.false) c.requires.word).0)
    (front_step c.in_ok-put_all.ensures.ok refl c.in_err-put_all-2.ensures.failed))

pub returns-clause-ok : goal.returns-clause-ok
returns-clause-ok g c =
    grown_after _ _ _ _ _ c.in_ok-put_all.ensures.ok c.in_ok-put_all-2.ensures.ok
    ∙ ap (grown (g.O.Sink.out c.args.out.now))
    (ap (λ first. first ++ c.args.word.now) c.space_before.ensures ∙ (word_parts c.args.state c.args.word.now (sym c.is_empty.ensures ∙ c.if-is_empty.false) c.requires.word).0)

pub returns-clause-state : goal.returns-clause-state
returns-clause-state g c = (word_parts c.args.state c.args.word.now (sym c.is_empty.ensures ∙ c.if-is_empty.false) c.requires.word).1
