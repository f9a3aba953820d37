-- What walks over a whole document tell of its elements (our own).
use Rattle.std.specs.Prelude.{ℕ, List}
use Rattle.box_eval.specs.Starts.{no_starts}
use Rattle.surroundings.specs.declared.told.Told.{Told}
use Rattle.edit_work.specs.KeyedSources.{KeyedSource}
use Rattle.reference_reach.specs.ToldLaws.{told_with}
use Rattle.counter_index.specs.declared.index.CounterIndex.{CounterIndex}
use Rattle.counter_index.specs.Indexes.{value_at}
use Rattle.dirty_walk.specs.declared.styled_arena.StyledArena.{StyledArena}

-- the document and the text of its sheet
abbrev pub source_of : StyledArena → KeyedSource
source_of document = record { tree = document.arena.now.tree; sheet = document.styles.now.sheet }

-- with all starts 0
unfoldable pub told_without_starts : StyledArena → List (ℕ × Told)
told_without_starts document = told_with (source_of document) no_starts

-- with the starts of an index
unfoldable pub told_by_index : StyledArena → CounterIndex → List (ℕ × Told)
told_by_index document index = told_with (source_of document) (value_at index)
