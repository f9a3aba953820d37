-- Where a loop stops for want of memory.
use Rattle.std.proofs.Common.{ℕ, Result, Ok, Err, OnErr}

-- what holds of so many of the items holds of some number of them
pub stopped_at : {T E : Type 0} (r : Result T E) (P : ℕ → Type 0) (count : ℕ) → P count → OnErr r ((n : ℕ) × P n)
stopped_at (Ok x) P count h = tt
stopped_at (Err e) P count h = (count, h)
