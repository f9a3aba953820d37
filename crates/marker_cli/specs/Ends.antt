-- How a run may end, against its output (our own).
use Rattle.std.specs.Prelude.{◌≡◌, ◌⊎◌, ℕ, Bool, false, List, Option, Result, Ok, Err, IfErr}
use Rattle.ports.specs.Causes.{Rose}
use Rattle.ports.specs.Grown.{grown, GrowsByFront}
use Rattle.marker_cli.specs.declared.status.FileAt.{FileAt}
use Rattle.marker_cli.specs.declared.status.Status.{Status}
use Rattle.marker_cli.specs.declared.status.Status.TheVariants.{Memory, ReadFault, WriteFault}
use Rattle.marker_cli.specs.declared.status.Status.TheVariants as status
use Rattle.marker_cli.specs.Output.{Output, bytes_of, status_of, ComesAfter}

-- what a failed read needs: a shelf that isn't honest, and a call on it that failed
pub record ReadsFailed (honest : Bool) (before now : ℕ) : Type 0 where
  pub dishonest : honest ≡ false
  pub rose : Rose before now

-- A run with this output ended with this status, and so much went out: all of the output, with its
-- status; or a part of it, since memory was wanting, a write failed, or the read of a file failed in
-- its turn.
pub data EndsAs (reads_failed writes_failed : Type 0) (output : Output) (before now : Option (List ℕ)) (status : Status) : Type 0 where
  whole : status ≡ status_of output → now ≡ grown before (bytes_of output) → EndsAs reads_failed writes_failed output before now status
  no_memory : status ≡ Memory → GrowsByFront before now (bytes_of output) → EndsAs reads_failed writes_failed output before now status
  not_written : status ≡ WriteFault → writes_failed → GrowsByFront before now (bytes_of output)
      → EndsAs reads_failed writes_failed output before now status
  not_read : (file : FileAt) (written : List ℕ) → status ≡ ReadFault file → reads_failed → ComesAfter output file written → now ≡ grown before written
      → EndsAs reads_failed writes_failed output before now status

-- the status of a part of a run: Ok, or the one with which it ended the run
abbrev pub part_status : {A : Type 0} → Result A Status → Status
part_status (Ok value) = status.Ok
part_status (Err refusal) = refusal

-- a status that has a cause in the words or outside the program comes with it
abbrev pub IsCaused : (usage read large write : Type 0) → Status → Type 0
IsCaused usage read large write status.Ok = Unit {0}
IsCaused usage read large write Memory = Unit {0}
IsCaused usage read large write status.Usage = usage
IsCaused usage read large write (ReadFault file) = read
IsCaused usage read large write (status.TooLarge file) = large
IsCaused usage read large write (status.NotUtf8 file offset) = Unit {0}
IsCaused usage read large write (status.BadDocument line column) = Unit {0}
IsCaused usage read large write (status.BadScript number) = Unit {0}
IsCaused usage read large write WriteFault = write
IsCaused usage read large write (status.LeftOut count) = Unit {0}
IsCaused usage read large write (status.BadPart file line column) = Unit {0}

-- what a part that has no cause outside the program may answer: its value or its refusal, or Memory
abbrev pub Gives : {A : Type 0} → Result A Status → Result A Status → Type 0
Gives given (Ok value) = given ≡ Ok value
Gives given (Err refusal) = (refusal ≡ Memory) ⊎ (given ≡ Err refusal)

-- a part that writes stops for want of memory, or since a write failed
abbrev pub IsPutCaused : {A : Type 0} → Type 0 → Result A Status → Type 0
IsPutCaused failed result = IfErr result (λ error. (error ≡ Memory) ⊎ ((error ≡ WriteFault) × failed))

-- a part of a run that refuses never does so with Ok
abbrev pub IsRefusal : Status → Type 0
IsRefusal refusal = ¬ (refusal ≡ status.Ok)

-- with this status all that was written has gone out
abbrev pub IsSettled : Status → Type 0
IsSettled status.Ok = Unit {0}
IsSettled Memory = ⊥
IsSettled status.Usage = ⊥
IsSettled (ReadFault file) = Unit {0}
IsSettled (status.TooLarge file) = Unit {0}
IsSettled (status.NotUtf8 file offset) = Unit {0}
IsSettled (status.BadDocument line column) = Unit {0}
IsSettled (status.BadScript number) = Unit {0}
IsSettled WriteFault = ⊥
IsSettled (status.LeftOut count) = Unit {0}
IsSettled (status.BadPart file line column) = Unit {0}

-- with this status all output was written
abbrev pub IsWhole : Status → Type 0
IsWhole status.Ok = Unit {0}
IsWhole Memory = ⊥
IsWhole status.Usage = ⊥
IsWhole (ReadFault file) = ⊥
IsWhole (status.TooLarge file) = ⊥
IsWhole (status.NotUtf8 file offset) = ⊥
IsWhole (status.BadDocument line column) = ⊥
IsWhole (status.BadScript number) = ⊥
IsWhole WriteFault = ⊥
IsWhole (status.LeftOut count) = Unit {0}
IsWhole (status.BadPart file line column) = ⊥

-- a part of a run that stops does so with a status of a run that wasn't done to its end
abbrev pub IsStop : Status → Type 0
IsStop status.Ok = ⊥
IsStop Memory = Unit {0}
IsStop status.Usage = Unit {0}
IsStop (ReadFault file) = Unit {0}
IsStop (status.TooLarge file) = Unit {0}
IsStop (status.NotUtf8 file offset) = Unit {0}
IsStop (status.BadDocument line column) = Unit {0}
IsStop (status.BadScript number) = Unit {0}
IsStop WriteFault = Unit {0}
IsStop (status.LeftOut count) = ⊥
IsStop (status.BadPart file line column) = Unit {0}
