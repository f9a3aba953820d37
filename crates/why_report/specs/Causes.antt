-- Why an account may end early (our own).
use Rattle.std.specs.Prelude.{◌≡◌, ◌⊎◌, ◌≤◌, ℕ, Result, IfErr}
use Rattle.ports.specs.Causes.{Rose}
use Rattle.why_report.specs.declared.why_fault.WhyFault.{WhyFault}
use Rattle.why_report.specs.declared.why_fault.WhyFault.TheVariants.{Memory, WriteFault}
use Rattle.ports.specs.declared.put_fault.PutFault.{PutFault}
use Rattle.ports.specs.declared.put_fault.PutFault.TheVariants as put

-- what putting that fails so makes an account fail with
abbrev pub why_fault : PutFault → WhyFault
why_fault put.WriteFault = WriteFault
why_fault put.Memory = Memory

-- the count of failed calls never falls; memory was wanting, or a call failed
pub record HasWhyCause {T : Type 0} (before now : ℕ) (result : Result T WhyFault) : Type 0 where
  pub later : before ≤ now
  pub cause : IfErr result (λ error. (error ≡ Memory) ⊎ ((error ≡ WriteFault) × Rose before now))
