use Rattle.std.proofs.Common.{◌++◌, ◌∙◌, [], refl, sym, arith, rules}
use Rattle.ports.proofs.GrownLemmas.{grown-nil, on_err}
use Rattle.text_view.proofs.TurnLaws.{front_turn, gap_parts, gap_smaller, gap_state, gap_turn, last_state, last_turn}
use Rattle.text_view.proofs.WritingLaws.{gap}
use Rattle.text_view.proofs.line_writer.put_words.Goals as goal

pub words-init : goal.words-init
words-init g c = record { front = []; parts = refl; state = refl; went_out = grown-nil _; later = search rules }

pub returns-in_err-reached-clause-failed : goal.returns-in_err-reached-clause-failed
returns-in_err-reached-clause-failed g c =
    on_err _ (front_turn c.args.before c.words.state c.args.text.now c.words.invariant.front c.words.rest.now c.split_word.result.0.now c.split_word.result.1.now
    (g.O.Sink.out c.args.out.now) (g.O.Sink.out c.words.out) (g.O.Sink.out c.put_word.new.out) c.words.invariant.parts c.split_word.ensures.bytes c.words.invariant.state c.words.invariant.went_out c.in_err-reached.ensures.failed)

pub returns-then-is_empty-clause-ok : goal.returns-then-is_empty-clause-ok
returns-then-is_empty-clause-ok g c =
    last_turn c.args.before c.words.state c.args.text.now c.words.invariant.front c.words.rest.now c.split_word.result.0.now c.split_word.result.1.now
    (g.O.Sink.out c.args.out.now) (g.O.Sink.out c.words.out) (g.O.Sink.out c.put_word.new.out) c.words.invariant.parts c.split_word.ensures.bytes c.words.invariant.state c.words.invariant.went_out c.in_ok-reached.ensures.ok
    (sym c.is_empty.ensures ∙ c.if-is_empty.true)

pub returns-then-is_empty-clause-state : goal.returns-then-is_empty-clause-state
returns-then-is_empty-clause-state g c =
    last_state c.args.before c.words.state c.args.text.now c.words.invariant.front c.words.rest.now c.split_word.result.0.now c.split_word.result.1.now
    (g.O.Sink.out c.args.out.now) (g.O.Sink.out c.words.out) (g.O.Sink.out c.put_word.new.out) c.words.invariant.parts c.split_word.ensures.bytes c.words.invariant.state c.words.invariant.went_out
    c.in_ok-reached.reached c.in_ok-reached.ensures.state (sym c.is_empty.ensures ∙ c.if-is_empty.true)

pub words-smaller : goal.words-smaller
words-smaller g c =
    gap_smaller c.args.before c.words.state c.args.text.now c.words.invariant.front c.words.rest.now c.split_word.result.0.now c.split_word.result.1.now
    (g.O.Sink.out c.args.out.now) (g.O.Sink.out c.words.out) (g.O.Sink.out c.put_word.new.out) c.words.invariant.parts c.split_word.ensures.bytes c.words.invariant.state c.words.invariant.went_out
    c.split_blanks.result.1.now (gap c.split_word.result.1.now c.split_blanks.result.0.now c.split_blanks.result.1.now (sym c.is_empty.ensures ∙ c.if-is_empty.false) c.split_word.ensures.stop c.split_blanks.ensures.bytes c.split_blanks.ensures.blank)

pub words-preserved : goal.words-preserved
words-preserved g c =
    let between = (gap c.split_word.result.1.now c.split_blanks.result.0.now c.split_blanks.result.1.now (sym c.is_empty.ensures ∙ c.if-is_empty.false) c.split_word.ensures.stop c.split_blanks.ensures.bytes c.split_blanks.ensures.blank) in
    record {
      front = (c.words.invariant.front ++ c.split_word.result.0.now) ++ between.blanks;
      parts =
          gap_parts c.args.before c.words.state c.args.text.now c.words.invariant.front c.words.rest.now c.split_word.result.0.now c.split_word.result.1.now
          (g.O.Sink.out c.args.out.now) (g.O.Sink.out c.words.out) (g.O.Sink.out c.put_word.new.out) c.words.invariant.parts c.split_word.ensures.bytes c.words.invariant.state c.words.invariant.went_out
          c.split_blanks.result.1.now between;
      state =
          gap_state c.args.before c.words.state c.args.text.now c.words.invariant.front c.words.rest.now c.split_word.result.0.now c.split_word.result.1.now
          (g.O.Sink.out c.args.out.now) (g.O.Sink.out c.words.out) (g.O.Sink.out c.put_word.new.out) c.words.invariant.parts c.split_word.ensures.bytes c.words.invariant.state c.words.invariant.went_out
          c.split_blanks.result.1.now between c.in_ok-reached.reached c.behind_blank-state.result c.in_ok-reached.ensures.state c.behind_blank-state.ensures;
      went_out =
          gap_turn c.args.before c.words.state c.args.text.now c.words.invariant.front c.words.rest.now c.split_word.result.0.now c.split_word.result.1.now
          (g.O.Sink.out c.args.out.now) (g.O.Sink.out c.words.out) (g.O.Sink.out c.put_word.new.out) c.words.invariant.parts c.split_word.ensures.bytes c.words.invariant.state c.words.invariant.went_out
          c.split_blanks.result.1.now between c.in_ok-reached.ensures.ok;
      later = omega (arith, c.in_ok-reached.ensures.cause.later, c.words.invariant.later);
    }
