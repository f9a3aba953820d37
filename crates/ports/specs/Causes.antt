-- Counts that are kept in 64 bits and stay at their greatest value, 2 ^ 64 - 1 (our own). Where one
-- stands at that value it counts as risen, by however much.
use Rattle.std.specs.Prelude.{ℕ, ◌+◌, ◌-◌, ◌^◌, ◌≤◌, min, Result, OnErr}

-- the count after this one
abbrev pub one_more : ℕ → ℕ
one_more count = min (count + 1) (2 ^ 64 - 1)

-- it has risen
abbrev pub Rose : ℕ → ℕ → Type 0
Rose before now = min (before + 1) (2 ^ 64 - 1) ≤ now

-- it has risen by more than so many
abbrev pub RoseAbove : ℕ → ℕ → ℕ → Type 0
RoseAbove most before now = min (before + most + 1) (2 ^ 64 - 1) ≤ now

-- it has risen by just so many
pub record Raises (before now more : ℕ) : Type 0 where
  pub later : before ≤ now
  pub least : min (before + more) (2 ^ 64 - 1) ≤ now
  pub most : now ≤ before + more

-- a count of failed calls never falls, and it has risen where the call failed
pub record HasCause {T E : Type 0} (before now : ℕ) (result : Result T E) : Type 0 where
  pub later : before ≤ now
  pub failed : OnErr result (Rose before now)
