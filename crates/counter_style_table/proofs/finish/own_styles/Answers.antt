use Rattle.std.proofs.Common.{Some, sym, subst, ap, ◌∙◌, arith, ◌≡◌, length}
use Rattle.counter_style_table.proofs.SettledLemmas.{AreFirst, first_more, first_some, first_none, settled_first}
use Rattle.counter_style_table.proofs.finish.own_styles.Goals.{in-Some, in-None+in_ok-own-in-None}
use Rattle.counter_style_table.proofs.finish.own_styles.Goals as goal

pub loop-place-preserved : goal.loop-place-preserved
loop-place-preserved c =
    first_more c.args.rules.now c.loop-place.place c.loop-place.styles.items c.push.new.self.items c.match-base.style c.in_ok-push.ensures.items
    (elim c.match-base.branch [
      | in-Some w ↦ w.style-is ∙ sym (first_some c.args.rules.now c.loop-place.place _ (sym c.base.ensures.base ∙ w.in-Some.is))
      | in-None+in_ok-own-in-None w ↦ w.style-is ∙ ap Some w.in_ok-own-in-None.ensures.style ∙ sym (first_none c.args.rules.now c.loop-place.place (sym c.base.ensures.base ∙ w.in-None.is))
    ])
    c.loop-place.invariant

pub returns : goal.returns
returns c = record {
  settled =
      settled_first c.args.rules.now c.loop-place.styles.items
      (let all : c.loop-place.place ≡ length c.args.rules.now = omega (arith, c.loop-place-test.false, c.loop-place.auto.place-end, c.len-place-end.ensures.length) in subst (λ n. AreFirst c.args.rules.now n c.loop-place.styles.items) all c.loop-place.invariant);
}
