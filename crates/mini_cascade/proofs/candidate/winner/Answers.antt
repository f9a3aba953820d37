use Rattle.std.proofs.Common.{◌≡◌, Option, Some, None, is_some, option_copied, filter, List, Bool, refl, sym, ap, ◌∙◌}
use Rattle.std.specs.Borrow.{Bor}
use Rattle.mini_cascade.proofs.Candidates.{applied_of, applied_in}
use Rattle.mini_cascade.specs.Declarations.{Applied}
use Rattle.mini_cascade.specs.Styles.{gives_way}
use Rattle.mini_cascade.specs.declared.candidate.Candidate.{Candidate}
use Rattle.mini_cascade.proofs.Ordering.{declaration_order}
use Rattle.mini_cascade.proofs.Winning.{picked, passed}
use Rattle.mini_cascade.proofs.candidate.winner.Goals as goal
use Rattle.mini_cascade.proofs.candidate.winner.Goals.{then-is_some, else-is_some}

is_some-copied : {X : Type 0} (said : Option (Bor X)) → is_some (option_copied said) ≡ is_some said
is_some-copied None = refl
is_some-copied (Some said) = refl

pub loop-candidate-preserved : goal.loop-candidate-preserved
loop-candidate-preserved g c =
    let says : Applied → Bool = λ a. is_some (g.P.Property.definition.said_by a.what) in
    let test : Candidate → Bool = λ candidate. says (applied_of candidate) in
    let chosen : List Candidate → List Applied = λ candidates. filter says (applied_in candidates) in
    let tested : test c.candidate-item.result ≡ c.is_some.result = ap is_some (sym c.said.ensures) ∙ is_some-copied c.said.result ∙ sym c.is_some.ensures in
    elim c.if-is_some.branch [
      | then-is_some w ↦
          rw w.best-is (picked gives_way declaration_order test applied_of chosen (λ first rest. refl)
          c.args.candidates.now c.loop-candidate.candidate-index c.candidate-item.result _ _ c.loop-candidate-test.true c.candidate-item.is
          (tested ∙ w.if-is_some.true) w.greater.ensures c.loop-candidate.invariant)
      | else-is_some w ↦
          rw w.best-is (passed gives_way declaration_order test applied_of chosen (λ first rest. refl)
          c.args.candidates.now c.loop-candidate.candidate-index c.candidate-item.result _ c.loop-candidate-test.true c.candidate-item.is
          (tested ∙ w.if-is_some.false) c.loop-candidate.invariant)
    ]
