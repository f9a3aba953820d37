-- Where a run stands, between its start and its end (our own).
use Rattle.std.specs.Prelude.{◌≡◌, ◌≤◌, ◌+◌, ℕ, List, ◌++◌, Option, Result, OnOk, IfErr}
use Rattle.ports.specs.Grown.{grown}
use Rattle.marker_cli.specs.declared.status.FileAt.{FileAt}
use Rattle.marker_cli.specs.declared.status.Status.{Status}
use Rattle.marker_cli.specs.Output.{Output, bytes_of, status_of, ComesAfter}
use Rattle.marker_cli.specs.Ends.{EndsAs}

-- once these bytes of an output are written, this is left of it
pub record Leads (all : Output) (written : List ℕ) (left : Output) : Type 0 where
  pub bytes : bytes_of all ≡ written ++ bytes_of left
  pub status : status_of all ≡ status_of left
  pub turns : (file : FileAt) (more : List ℕ) → ComesAfter left file more → ComesAfter all file (written ++ more)

-- what went out is a front of the output, and this is left of it
pub record IsAt (all : Output) (before now : Option (List ℕ)) (left : Output) : Type 0 where
  pub written : List ℕ
  pub went_out : now ≡ grown before written
  pub leads : Leads all written left

-- a part of a run goes on, with this left, or ends the run
pub record Goes {A : Type 0} (reads_failed writes_failed : Type 0) (output : Output) (before now : Option (List ℕ)) (left : Output) (result : Result A Status) : Type 0 where
  pub on : OnOk result (IsAt output before now left)
  pub stops : IfErr result (λ status. EndsAs reads_failed writes_failed output before now status)

-- a part of a run takes no more steps than so many, of which so many are left where it goes on
pub record Spends {A : Type 0} (most before now left : ℕ) (result : Result A Status) : Type 0 where
  pub on : OnOk result (now + left ≤ before + most)
  pub within : now ≤ before + most
