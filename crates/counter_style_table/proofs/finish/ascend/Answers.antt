use Rattle.std.proofs.Common.{Some, sym, subst, ◌∙◌, reverse, set}
use Rattle.std.proofs.lemmas.Bool.{eq-eqb, ne_eqb}
use Rattle.counter_style_table.proofs.AscentLemmas.{Ascends, goes_up_plain, goes_up_head, goes_up_cycle, over_by, popped_first}
use Rattle.counter_style_table.proofs.finish.ascend.Goals as goal

pub up-preserved-then-head-place : goal.up-preserved-then-head-place
up-preserved-then-head-place c =
    goes_up_head c.args.rules.now c.args.styles.now (reverse c.args.descent.path.items) c.up.styles c.up.cycle c.up.from (reverse c.up.path.items) (reverse c.pop.new.self.items) c.in-Some.place c.in_ok-style.style
    (popped_first _ _ _ c.in-Some.ensures.items)
    (over_by c.args.rules.now c.in-Some.place c.rule.result.now c.in_ok-style.style c.in_ok-extended.extended _ c.rule.ensures.rule c.in_ok-style.ensures.style (c.in_ok-extended.ensures.same ∙ c.style_from.ensures.style))
    c.up.invariant c.in-Some-cycle.head c.in-Some-cycle.is (eq-eqb _ _ c.if-head-place.true)

pub up-preserved-else-head-place : goal.up-preserved-else-head-place
up-preserved-else-head-place c =
    subst (λ cycle. Ascends c.args.rules.now c.args.styles.now (reverse c.args.descent.path.items) (set c.up.styles c.in-Some.place (Some c.in_ok-style.style)) cycle c.up.from (reverse c.pop.new.self.items)) c.in-Some-cycle.is
    (goes_up_cycle c.args.rules.now c.args.styles.now (reverse c.args.descent.path.items) c.up.styles c.up.cycle c.up.from (reverse c.up.path.items) (reverse c.pop.new.self.items) c.in-Some.place c.in_ok-style.style
    (popped_first _ _ _ c.in-Some.ensures.items)
    (over_by c.args.rules.now c.in-Some.place c.rule.result.now c.in_ok-style.style c.in_ok-extended.extended _ c.rule.ensures.rule c.in_ok-style.ensures.style (c.in_ok-extended.ensures.same ∙ c.style_from.ensures.style))
    c.up.invariant c.in-Some-cycle.head c.in-Some-cycle.is (ne_eqb _ _ c.if-head-place.false))

pub up-preserved : goal.up-preserved
up-preserved c =
    subst (λ cycle. Ascends c.args.rules.now c.args.styles.now (reverse c.args.descent.path.items) (set c.up.styles c.in-Some.place (Some c.in_ok-style.style)) cycle (Some c.in-Some.place) (reverse c.pop.new.self.items)) (sym c.in-None.is)
    (goes_up_plain c.args.rules.now c.args.styles.now (reverse c.args.descent.path.items) c.up.styles c.up.cycle c.up.from (reverse c.up.path.items) (reverse c.pop.new.self.items) c.in-Some.place c.in_ok-style.style
    (popped_first _ _ _ c.in-Some.ensures.items)
    (over_by c.args.rules.now c.in-Some.place c.rule.result.now c.in_ok-style.style c.in_ok-extended.extended _ c.rule.ensures.rule c.in_ok-style.ensures.style (c.in_ok-extended.ensures.same ∙ c.style_from.ensures.style))
    c.up.invariant c.in-None.is)
