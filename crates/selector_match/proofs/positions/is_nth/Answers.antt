use Rattle.std.proofs.Common.{◌+◌, ◌-◌, pos, w32, to_z, of_z, ◌<◌, ◌≤◌, nat_eq, subst, sym, ap, ◌∙◌}
use Rattle.std.specs.Prelude.{unsigned_abs}
use Rattle.std.proofs.lemmas.Int.{to_z-of_z}
use Rattle.selector_match.proofs.PositionLaws.{lt-yes, lt-no, le-yes, le-no, makes-same, nth-same, low-rising, low-falling, far-falling, far-rising, near-falling, near-rising}
use Rattle.selector_match.proofs.positions.is_nth.Goals as goal

pub returns-then-a-ge0 : goal.returns-then-a-ge0
returns-then-a-ge0 c =
    let a = to_z w32 (of_z w32 c.args.a) in
    let b = to_z w32 (of_z w32 c.args.b) in
    let p = c.args.before + 1 in
    let same = nth-same c.args.a c.args.b a b p (to_z-of_z w32 c.args.a c.ranges.a) (to_z-of_z w32 c.args.b c.ranges.b) in
    let offset = c.from-offset.ensures ∙ c.unsigned_abs.ensures.value in
    let step = c.unsigned_abs-step.ensures.value in
    low-rising a b p c.is_multiple.result (lt-yes b (pos 0) c.if-b-lt0.true) (le-yes (pos 0) a c.if-a-ge0.true)
    (λ e. makes-same c.unsigned_abs-step.result (unsigned_abs a) (p + c.from-offset.result) (p + unsigned_abs b) step (ap (λ x. p + x) offset) (c.is_multiple.ensures.0 e))
    (λ made. c.is_multiple.ensures.1 (makes-same (unsigned_abs a) c.unsigned_abs-step.result (p + unsigned_abs b) (p + c.from-offset.result) (sym step) (sym (ap (λ x. p + x) offset)) made))
    ∙ same

pub returns-else-a-ge0 : goal.returns-else-a-ge0
returns-else-a-ge0 c =
    let a = to_z w32 (of_z w32 c.args.a) in
    let b = to_z w32 (of_z w32 c.args.b) in
    let p = c.args.before + 1 in
    let same = nth-same c.args.a c.args.b a b p (to_z-of_z w32 c.args.a c.ranges.a) (to_z-of_z w32 c.args.b c.ranges.b) in
    let offset = c.from-offset.ensures ∙ c.unsigned_abs.ensures.value in
    let step = c.unsigned_abs-step.ensures.value in
    c.if-a-ge0.false ∙ low-falling a b p (lt-yes b (pos 0) c.if-b-lt0.true) (le-no (pos 0) a c.if-a-ge0.false) ∙ same

pub returns-then-a-lt0 : goal.returns-then-a-lt0
returns-then-a-lt0 c =
    let a = to_z w32 (of_z w32 c.args.a) in
    let b = to_z w32 (of_z w32 c.args.b) in
    let p = c.args.before + 1 in
    let same = nth-same c.args.a c.args.b a b p (to_z-of_z w32 c.args.a c.ranges.a) (to_z-of_z w32 c.args.b c.ranges.b) in
    let offset = c.from-offset.ensures ∙ c.unsigned_abs.ensures.value in
    let step = c.unsigned_abs-step.ensures.value in
    far-falling a b p c.is_multiple-then-a-lt0.result (lt-no b (pos 0) c.if-b-lt0.false) (lt-yes a (pos 0) c.if-a-lt0.true) (subst (λ x. p < x) offset c.if-offset-position.true)
    (λ e. makes-same c.unsigned_abs-step.result (unsigned_abs a) (c.from-offset.result - p) (unsigned_abs b - p) step (ap (λ x. x - p) offset) (c.is_multiple-then-a-lt0.ensures.0 e))
    (λ made. c.is_multiple-then-a-lt0.ensures.1 (makes-same (unsigned_abs a) c.unsigned_abs-step.result (unsigned_abs b - p) (c.from-offset.result - p) (sym step) (sym (ap (λ x. x - p) offset)) made))
    ∙ same

pub returns-else-a-lt0 : goal.returns-else-a-lt0
returns-else-a-lt0 c =
    let a = to_z w32 (of_z w32 c.args.a) in
    let b = to_z w32 (of_z w32 c.args.b) in
    let p = c.args.before + 1 in
    let same = nth-same c.args.a c.args.b a b p (to_z-of_z w32 c.args.a c.ranges.a) (to_z-of_z w32 c.args.b c.ranges.b) in
    let offset = c.from-offset.ensures ∙ c.unsigned_abs.ensures.value in
    let step = c.unsigned_abs-step.ensures.value in
    c.if-a-lt0.false ∙ far-rising a b p (lt-no b (pos 0) c.if-b-lt0.false) (lt-no a (pos 0) c.if-a-lt0.false) (subst (λ x. p < x) offset c.if-offset-position.true) ∙ same

pub returns-then-a-lt0-2 : goal.returns-then-a-lt0-2
returns-then-a-lt0-2 c =
    let a = to_z w32 (of_z w32 c.args.a) in
    let b = to_z w32 (of_z w32 c.args.b) in
    let p = c.args.before + 1 in
    let same = nth-same c.args.a c.args.b a b p (to_z-of_z w32 c.args.a c.ranges.a) (to_z-of_z w32 c.args.b c.ranges.b) in
    let offset = c.from-offset.ensures ∙ c.unsigned_abs.ensures.value in
    let step = c.unsigned_abs-step.ensures.value in
    ap (λ x. nat_eq p x) offset ∙ near-falling a b p (lt-no b (pos 0) c.if-b-lt0.false) (lt-yes a (pos 0) c.if-a-lt0-2.true) (subst (λ x. x ≤ p) offset c.if-offset-position.false) ∙ same

pub returns-else-a-lt0-2 : goal.returns-else-a-lt0-2
returns-else-a-lt0-2 c =
    let a = to_z w32 (of_z w32 c.args.a) in
    let b = to_z w32 (of_z w32 c.args.b) in
    let p = c.args.before + 1 in
    let same = nth-same c.args.a c.args.b a b p (to_z-of_z w32 c.args.a c.ranges.a) (to_z-of_z w32 c.args.b c.ranges.b) in
    let offset = c.from-offset.ensures ∙ c.unsigned_abs.ensures.value in
    let step = c.unsigned_abs-step.ensures.value in
    near-rising a b p c.is_multiple-else-a-lt0-2.result (lt-no b (pos 0) c.if-b-lt0.false) (lt-no a (pos 0) c.if-a-lt0-2.false) (subst (λ x. x ≤ p) offset c.if-offset-position.false)
    (λ e. makes-same c.unsigned_abs-step.result (unsigned_abs a) (p - c.from-offset.result) (p - unsigned_abs b) step (ap (λ x. p - x) offset) (c.is_multiple-else-a-lt0-2.ensures.0 e))
    (λ made. c.is_multiple-else-a-lt0-2.ensures.1 (makes-same (unsigned_abs a) c.unsigned_abs-step.result (p - unsigned_abs b) (p - c.from-offset.result) (sym step) (sym (ap (λ x. p - x) offset)) made))
    ∙ same
