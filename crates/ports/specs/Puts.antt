-- Why putting to a sink may end early where it takes memory too (our own).
use Rattle.std.specs.Prelude.{◌≡◌, ◌⊎◌, ◌≤◌, ℕ, Result, IfErr}
use Rattle.ports.specs.Causes.{Rose}
use Rattle.ports.specs.declared.put_fault.PutFault.{PutFault}
use Rattle.ports.specs.declared.put_fault.PutFault.TheVariants.{Memory, WriteFault}

-- the count of failed calls never falls; memory was wanting, or a call failed
pub record HasPutCause {T : Type 0} (before now : ℕ) (result : Result T PutFault) : Type 0 where
  pub later : before ≤ now
  pub cause : IfErr result (λ error. (error ≡ Memory) ⊎ ((error ≡ WriteFault) × Rose before now))
