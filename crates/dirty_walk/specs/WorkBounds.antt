-- How the work of an edit bounds the steps that a book takes for it (our own).
use Rattle.std.specs.Prelude.{◌≡◌, ◌≤◌, ◌+◌, ◌*◌, ◌⊎◌, ℕ}
use Rattle.plain_types.specs.declared.edit.Edit.{Edit}
use Rattle.edit_work.specs.KeyedSources.{KeyedSource}
use Rattle.edit_work.specs.Laws.{Leads}
use Rattle.edit_work.specs.Work.{work}

-- Between one number of steps and another are at most 24 for each unit of the edit's work, and 24 more.
abbrev pub IsWithinWork : Edit → (before after : KeyedSource) → (old new : ℕ) → Type 0
IsWithinWork edit before after old new = new ≤ old + 24 * (work edit before after + 1)

-- After an error: no step was taken; or no more than its work allows. The nodes that it put in are given up with their keys, so
-- some document to which the edit leads stands for the edited one.
abbrev pub StopsWithinWork : Edit → (before : KeyedSource) → (old new : ℕ) → Type 0
StopsWithinWork edit before old new = (new ≡ old) ⊎ ((after : KeyedSource) × Leads edit before after × IsWithinWork edit before after old new)
