-- What a run is to do, as a list of events (our own).
use Rattle.std.specs.Prelude.{◌≡◌, ◌⊎◌, ℕ, List, [], ◌++◌, Result, Ok, Err}
use Rattle.marker_cli.specs.declared.status.FileAt.{FileAt}
use Rattle.marker_cli.specs.declared.status.Status.{Status}

-- what a run over told files is to do, in order: a file's turn comes, bytes are written, and at last it
-- ends with its status
pub data Output : Type 0 where
  ends : Status → Output
  turn : FileAt → Output → Output
  writes : List ℕ → Output → Output

abbrev pub bytes_of : Output → List ℕ
bytes_of (ends status) = []
bytes_of (turn file rest) = bytes_of rest
bytes_of (writes bytes rest) = bytes ++ bytes_of rest

abbrev pub status_of : Output → Status
status_of (ends status) = status
status_of (turn file rest) = status_of rest
status_of (writes bytes rest) = status_of rest

-- the turn of this file comes, once these bytes are written
abbrev pub ComesAfter : Output → FileAt → List ℕ → Type 0
ComesAfter (ends status) file written = ⊥
ComesAfter (turn other rest) file written = ((other ≡ file) × (written ≡ [])) ⊎ ComesAfter rest file written
ComesAfter (writes bytes rest) file written = (more : List ℕ) × (written ≡ bytes ++ more) × ComesAfter rest file more

-- with a value the run goes on, and with a status it ends
abbrev pub goes_on : {A : Type 0} → Result A Status → (A → Output) → Output
goes_on (Ok value) next = next value
goes_on (Err status) next = ends status
