-- What a fetch of a whole file may answer (our own).
use Rattle.std.specs.Prelude.{◌≡◌, ℕ, ◌<◌, ◌≤◌, Bool, IsTrue, List, length, Option, Some, None, Result, Ok, Err}
use Rattle.ports.specs.declared.fetch.FetchFault.{FetchFault}
use Rattle.ports.specs.declared.fetch.FetchFault.TheVariants.{Failed, TooLarge, Memory}

-- there is such a file, and it has more than so many bytes
abbrev pub IsLonger : ℕ → Option (List ℕ) → Type 0
IsLonger most None = ⊥
IsLonger most (Some bytes) = most < length bytes

-- the answer is all of the file's bytes, at most 16 MiB, or that there are more; an honest shelf fails
-- only where there is no such file
abbrev pub Fetches : Bool → Option (List ℕ) → Result (List ℕ) FetchFault → Type 0
Fetches honest file (Ok bytes) = (file ≡ Some bytes) × (length bytes ≤ 16777216)
Fetches honest file (Err TooLarge) = IsLonger 16777216 file
Fetches honest file (Err Failed) = IsTrue honest → file ≡ None
Fetches honest file (Err Memory) = Unit {0}
