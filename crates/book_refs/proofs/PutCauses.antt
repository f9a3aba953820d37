-- What a call that puts lines did where it ends early, by the call in it that did.
use Rattle.std.proofs.Common.{◌≡◌, ◌≤◌, ℕ, Err, List, Ok, OnErr, Option, Result, arith, inl, inr, ◌∙◌}
use Rattle.std.specs.Result.{IsErr, IsErrAnd}
use Rattle.ports.specs.Causes.{Rose}
use Rattle.ports.specs.Grown.{GrowsByFront}
use Rattle.ports.specs.Puts.{HasPutCause}
use Rattle.ports.specs.declared.put_fault.PutFault.{PutFault}
use Rattle.ports.specs.declared.put_fault.PutFault.TheVariants.{WriteFault}
use Rattle.ports.proofs.CauseLemmas.{rose_after}
use Rattle.ports.proofs.GrownLemmas.{front_same, on_err}

module _ {T : Type 0} where
  -- a write failed
  pub write_caused : (before now : ℕ) (result : Result T PutFault) → IsErr result × IsErrAnd result (λ (error : PutFault). error ≡ WriteFault) → before ≤ now → Rose before now
      → HasPutCause before now result
  write_caused before now (Ok value) is later rose = absurd is.1
  write_caused before now (Err error) is later rose = record { later = later; cause = inr (is.1, rose) }

  -- a later call ended early
  pub caused_after : {S : Type 0} (before middle now : ℕ) (fault : PutFault) (result : Result T PutFault) → IsErr result × IsErrAnd result (λ (error : PutFault). error ≡ fault) → before ≤ middle
      → HasPutCause {T = S} middle now (Err fault) → HasPutCause before now result
  caused_after before middle now fault (Ok value) is later caused = absurd is.1
  caused_after before middle now fault (Err error) is later caused = record {
    later = let more = caused.later in omega (arith, later, more);
    cause = elim caused.cause [
      | inl memory ↦ inl (is.1 ∙ memory)
      | inr write ↦ inr (is.1 ∙ write.0, rose_after before middle now later write.1)
    ];
  }

-- a front of its bytes went out, told otherwise
pub front_told : {T E : Type 0} (r : Result T E) (before now : Option (List ℕ)) (written told : List ℕ) → written ≡ told → GrowsByFront before now written → OnErr r (GrowsByFront before now told)
front_told r before now written told same grows = on_err r (front_same same grows)
