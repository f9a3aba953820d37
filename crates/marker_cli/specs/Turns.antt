-- What a run has of a file whose turn comes (our own).
use Rattle.std.specs.Prelude.{◌≡◌, ℕ, nat_lt, if◌then◌else◌, List, length, Option, Some, None, Result, Ok, Err}
use Rattle.std.specs.Str.{chars, is_utf8}
use Rattle.std.specs.Str.Lossy.{utf8_valid_len}
use Rattle.ports.specs.Files.{Files}
use Rattle.marker_cli.specs.declared.status.FileAt.{FileAt}
use Rattle.marker_cli.specs.declared.status.Status.{Status}
use Rattle.marker_cli.specs.declared.status.Status.TheVariants.{Memory, NotUtf8, ReadFault, TooLarge}
use Rattle.marker_cli.specs.Output.{Output, turn, goes_on}

-- the text of these bytes; where they aren't UTF-8, their longest front that is ends at the offset
abbrev pub text_of : FileAt → List ℕ → Result (List ℕ) Status
text_of file bytes = if is_utf8 bytes then Ok (chars bytes) else Err (NotUtf8 file (utf8_valid_len bytes))

-- the text of a file, or the status with which it ends the run
abbrev pub text_in : FileAt → Option (List ℕ) → Result (List ℕ) Status
text_in file None = Err (ReadFault file)
text_in file (Some bytes) = if nat_lt 16777216 (length bytes) then Err (TooLarge file) else text_of file bytes

-- the turn of the file of this name comes, and then what follows for its text
abbrev pub with_text : Files → FileAt → List ℕ → (List ℕ → Output) → Output
with_text files file name next = turn file (goes_on (text_in file (files name)) next)

-- why a file's turn ended a run with this status: it has no text, memory was wanting, or a read failed
pub data StopsBy (reads_failed : Type 0) (file : FileAt) (text : Result (List ℕ) Status) (status : Status) : Type 0 where
  is_refused : text ≡ Err status → StopsBy reads_failed file text status
  lacks_memory : status ≡ Memory → StopsBy reads_failed file text status
  was_not_read : status ≡ ReadFault file → reads_failed → StopsBy reads_failed file text status

-- what the fetch of a file in its turn may answer
abbrev pub FetchesText : Type 0 → FileAt → Option (List ℕ) → Result (List ℕ) Status → Type 0
FetchesText reads_failed file held (Ok text) = text_in file held ≡ Ok text
FetchesText reads_failed file held (Err status) = StopsBy reads_failed file (text_in file held) status
