-- Files, and what a read of one gives (our own).
use Rattle.std.specs.Prelude.{◌≡◌, ℕ, ◌-◌, ◌<◌, ◌≤◌, if◌then◌else◌, List, [], ◌∷◌, length, take, drop, Option, Some, None, Result, Ok, Err}
use Rattle.std.specs.Str.{bytes_eq}
use Rattle.ports.specs.declared.named_file.NamedFile.{NamedFile}

-- the bytes of each file, by the characters of its name
abbrev pub Files : Type 0
Files = List ℕ → Option (List ℕ)

-- the files of a list: under a name, the first of that name
abbrev pub look_up : List NamedFile → Files
look_up [] name = None
look_up (file ∷ files) name = if bytes_eq file.name name then Some file.bytes else look_up files name

-- a read of these bytes from that place on put so many of them into the buffer's front, and none only
-- where the buffer is empty or they end before that place
pub record IsRead (bytes : List ℕ) (at : ℕ) (buffer : List ℕ) (count : ℕ) : Type 0 where
  pub front : take count buffer ≡ take count (drop at bytes)
  pub within : count ≤ length bytes - at
  pub end : count ≡ 0 → 0 < length buffer → length bytes ≤ at

-- there is such a file, and it was read so
abbrev pub Reads : Option (List ℕ) → ℕ → List ℕ → ℕ → Type 0
Reads None at buffer count = ⊥
Reads (Some bytes) at buffer count = IsRead bytes at buffer count

-- how many bytes a call answered
abbrev pub answered : {E : Type 0} → Result ℕ E → ℕ
answered (Ok count) = count
answered (Err e) = 0
