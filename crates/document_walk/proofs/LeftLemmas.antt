-- An element behind whose children nothing is handed on.
use Rattle.std.proofs.Common.{◌≡◌, ℕ, Option, Some, None, refl, sym, ap, ◌∙◌}
use Rattle.std.specs.Prelude.{IfOk, Result, Ok, Err}
use Rattle.box_eval.specs.Evaluation.{without_box}
use Rattle.surroundings.specs.declared.surroundings.Surroundings.{Surroundings}
use Rattle.document_walk.specs.declared.opened.Opened.{Opened}
use Rattle.document_walk.specs.Catching.{Reading, past_by, said_by}

pub if_ok : {T E : Type 0} (r : Result T E) (P Q : T → Type 0) → IfOk r P → ((x : T) → P x → Q x) → IfOk r Q
if_ok (Ok x) P Q h f = f x h
if_ok (Err x) P Q h f = h

module _ (from : Reading) (key : ℕ) where
  said_none : (opened : Option Opened) → without_box ≡ said_by from key opened None
  said_none None = refl
  said_none (Some opened) = refl

  pub nothing_said : (opened : Option Opened) (behind : Option Surroundings) → behind ≡ None → without_box ≡ said_by from key opened behind
  nothing_said opened behind is = said_none opened ∙ sym (ap (said_by from key opened) is)

  past_none : (opened : Option Opened) (handed : Option Surroundings) → handed ≡ past_by from key opened handed None
  past_none None handed = refl
  past_none (Some opened) handed = refl

  pub no_past : (opened : Option Opened) (handed behind : Option Surroundings) → behind ≡ None → handed ≡ past_by from key opened handed behind
  no_past opened handed behind is = past_none opened handed ∙ sym (ap (past_by from key opened handed) is)
