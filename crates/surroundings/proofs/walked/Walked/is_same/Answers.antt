use Rattle.std.proofs.Common.{◌≡◌, ◌&&◌, Bool, true, false, Decides, refl, sym, subst, ◌∙◌}
use Rattle.std.specs.Option.{option_eq}
use Rattle.surroundings.specs.declared.walked.Walked.{Walked}
use Rattle.surroundings.specs.Surroundings.{is_same}
use Rattle.surroundings.proofs.SameLaws.{walked-same}
use Rattle.surroundings.proofs.walked.Walked.is_same.Goals as goal

when : (one other : Walked) (handed behind : Bool) (b : Bool) → handed ≡ b → Decides (handed && behind) (one ≡ other) → Decides (b && behind) (one ≡ other)
when one other handed behind b is h = subst (λ t. Decides (t && behind) (one ≡ other)) is h

pub returns-then-is_handed_the_same : goal.returns-then-is_handed_the_same
returns-then-is_handed_the_same c =
    let one = c.args.self.now in
    let other = c.args.other.now in
    let handed = c.is_handed_the_same.ensures.test ∙ (λ i. option_eq is_same (c.as_ref.ensures.value i) (c.as_ref-2.ensures.value i)) in
    let behind = c.is_handed_the_same-then-is_handed_the_same.ensures.test
    ∙ (λ i. option_eq is_same (c.as_ref-then-is_handed_the_same.ensures.value i) (c.as_ref-then-is_handed_the_same-2.ensures.value i)) in
    record { test = when one other _ _ true c.if-is_handed_the_same.true (walked-same one other _ _ handed behind) }

pub returns-else-is_handed_the_same : goal.returns-else-is_handed_the_same
returns-else-is_handed_the_same c =
    let one = c.args.self.now in
    let other = c.args.other.now in
    let handed = c.is_handed_the_same.ensures.test ∙ (λ i. option_eq is_same (c.as_ref.ensures.value i) (c.as_ref-2.ensures.value i)) in
    let none = when one other _ (option_eq is_same one.behind other.behind) false c.if-is_handed_the_same.false (walked-same one other _ _ handed refl) in
    record { test = subst (λ t. Decides t (one ≡ other)) (sym c.if-is_handed_the_same.false) none }
