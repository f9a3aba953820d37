-- What contracts see of the shelves and sinks. A call has a number, from 0 on.
use Rattle.std.specs.Prelude.{ℕ, Bool, List}
use Rattle.ports.specs.declared.named_file.NamedFile.{NamedFile}

-- of a `MemoryShelf`: its files, the numbers of the calls that fail, the number of the next call, and
-- how many calls failed and how many bytes were answered
pub record MemoryFiles : Type 0 where
  pub files : List NamedFile
  pub failing : List ℕ
  pub calls : ℕ
  pub faults : ℕ
  pub taken : ℕ

-- of a `TrickleShelf`: the same, and how many bytes a call answers at most
pub record TrickleFiles : Type 0 where
  pub files : List NamedFile
  pub step : ℕ
  pub failing : List ℕ
  pub calls : ℕ
  pub faults : ℕ
  pub taken : ℕ

-- of an `HonestShelf`: that of a `MemoryShelf`, where no call fails by its number
pub record HonestFiles : Type 0 where
  pub files : List NamedFile
  pub faults : ℕ
  pub taken : ℕ

-- of a `Room`: its bytes, and how many fit in all
pub record RoomBytes : Type 0 where
  pub bytes : List ℕ
  pub size : ℕ

-- of a `MemorySink`: its bytes, how many fit in all, the numbers of the calls that fail, the number of
-- the next call, and how many calls failed
pub record MemoryBytes : Type 0 where
  pub bytes : List ℕ
  pub room : ℕ
  pub failing : List ℕ
  pub calls : ℕ
  pub faults : ℕ

-- of a `TrickleSink`: the same, and how many bytes a call takes at most
pub record TrickleBytes : Type 0 where
  pub bytes : List ℕ
  pub room : ℕ
  pub step : ℕ
  pub failing : List ℕ
  pub calls : ℕ
  pub faults : ℕ

-- of a `FixedSink`: that of a `MemorySink`, where no call fails by its number
pub record FixedBytes : Type 0 where
  pub bytes : List ℕ
  pub room : ℕ
  pub faults : ℕ

-- of a `FileShelf`: how many calls failed, and how many bytes were answered
pub record ReadCounts : Type 0 where
  pub faults : ℕ
  pub taken : ℕ

-- of a `StdSink`: how many calls failed, and whether its writer may keep bytes back
pub record WriteCounts : Type 0 where
  pub faults : ℕ
  pub kept : Bool
