-- What a part of a line that has no form says of the whole.
use Rattle.std.proofs.Common.{◌≡◌, sym, subst}
use Rattle.std.specs.Prelude.{Result, Ok, Err, IfErr}
use Rattle.std.specs.Result.{IsErr, IsErrAnd}
use Rattle.edit_script.specs.Machinery.LineFaults.{IsLineFault}
use Rattle.edit_script.specs.declared.line_fault.LineFault.{LineFault}
use Rattle.edit_script.specs.declared.line_fault.LineFault.TheVariants.{NoForm, Memory}

-- where the whole has a form, the part has one
pub fault_of_whole : {X Y : Type 0} (part : X → Type 0) (whole : Y → Type 0) (fault : LineFault) → ((y : Y) → whole y → (x : X) × part x)
    → IsLineFault part fault → IsLineFault whole fault
fault_of_whole part whole NoForm needs none = λ y is. let x = needs y is in none x.0 x.1
fault_of_whole part whole Memory needs none = tt

-- the exit of a `?` at the part
pub stopped : {X Y T : Type 0} (part : X → Type 0) (whole : Y → Type 0) (result : Result T LineFault) (fault : LineFault)
    → IsErr result × IsErrAnd result (λ error. error ≡ fault) → IsLineFault part fault → ((y : Y) → whole y → (x : X) × part x) → IfErr result (IsLineFault whole)
stopped part whole (Ok x) fault is none needs = absurd is.1
stopped part whole (Err error) fault is none needs = subst (λ e. IsLineFault whole e) (sym is.1) (fault_of_whole part whole fault needs none)
