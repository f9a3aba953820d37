-- Where a walk from the places of an edit may begin, and what it has found at its end (our own).
use Rattle.std.specs.Prelude.{◌≡◌, ◌≤◌, ◌+◌, ◌*◌, ℕ, List, length, Option, option_map}
use Rattle.forest.specs.Forest.{Forest}
use Rattle.forest.specs.Keys.{Keyed, without_keys}
use Rattle.box_eval.specs.declared.change.Change.{Change}
use Rattle.box_eval.specs.Evaluation.{StyledNode, all_changes}
use Rattle.merged_walk.specs.declared.stop.Stop.{Stop}
use Rattle.merged_walk.specs.Counts as counts
use Rattle.merged_walk.specs.Entries.{AreAmong, Covers, Holds}
use Rattle.merged_walk.specs.Evaluators as evaluators
use Rattle.merged_walk.specs.Merges.{Merge, all_come, new_of, old_of}
use Rattle.merged_walk.specs.Stops.{stops_of}
use Rattle.surroundings.specs.declared.told.Told.{Told}
use Rattle.surroundings.specs.declared.walked.Walked.{Walked}
use Rattle.surroundings.specs.MergedLevels.{AreAllLed, HasLeaves}
use Rattle.surroundings.specs.StyledEvaluators.{is_element, root_surroundings, styled_evaluator}
use Rattle.document_walk.specs.Elements.{element_count}
use Rattle.document_walk.specs.Catching.{Reading, document_of, with_changes}

module _ (from : Reading) where
  -- what is told of trees that are the roots of a document
  abbrev pub told_all : Forest (Keyed StyledNode) → List (ℕ × Told)
  told_all trees = evaluators.told_all (styled_evaluator from.table) root_surroundings trees

  -- the most steps of a walk over a merge, with one for each record that it tells
  abbrev pub budget : Merge StyledNode → ℕ
  budget merge = counts.budget (styled_evaluator from.table) root_surroundings root_surroundings merge

  -- The merge has the document, evaluated now, as its new forest. Of the old one this is held, what was kept tells the same,
  -- and these are the stops. Texts have no children, and nothing may be skipped beside the root.
  pub record CanCatchUp (kept : ℕ → Option Walked) (ahead : List Stop) (merge : Merge StyledNode) (held : ℕ → Option Told) : Type 0 where
    pub new : new_of merge ≡ document_of from
    pub holds : Holds held (told_all (old_of merge))
    pub read : (key : ℕ) → kept key ≡ option_map (λ (told : Told). told.walked) (held key)
    pub stops : ahead ≡ stops_of is_element 0 merge
    pub leaves : HasLeaves is_element merge
    pub led : AreAllLed merge

  -- of each merge that the walk can be over, and whatever is held of its old forest

  -- what the evaluation tells is among these records, or is held
  abbrev pub CoversAll : (ℕ → Option Walked) → List Stop → List (ℕ × Told) → Type 0
  CoversAll kept stops records = (merge : Merge StyledNode) (held : ℕ → Option Told) → CanCatchUp kept stops merge held → Covers records held (told_all (document_of from))

  -- these records are of what the evaluation tells
  abbrev pub AreAllAmong : (ℕ → Option Walked) → List Stop → List (ℕ × Told) → Type 0
  AreAllAmong kept stops records = (merge : Merge StyledNode) (held : ℕ → Option Told) → CanCatchUp kept stops merge held → AreAmong records (told_all (document_of from))

  -- so many steps are within the budget
  abbrev pub IsWithinBudget : (ℕ → Option Walked) → List Stop → (before now : ℕ) → Type 0
  IsWithinBudget kept stops before now = (merge : Merge StyledNode) (held : ℕ → Option Told) → CanCatchUp kept stops merge held → now ≤ before + budget merge

  -- so many steps are four for each element of the document
  abbrev pub IsWithinElements : (ℕ → Option Walked) → List Stop → (before now : ℕ) → Type 0
  IsWithinElements kept stops before now = (merge : Merge StyledNode) (held : ℕ → Option Told) → CanCatchUp kept stops merge held → now ≤ before + 4 * element_count (without_keys from.tree)

  -- where the whole document comes, these records are all that is told of it, in this order
  abbrev pub AreAllTold : (ℕ → Option Walked) → List Stop → List (ℕ × Told) → Type 0
  AreAllTold kept stops records =
      (merge : Merge StyledNode) (held : ℕ → Option Told) → CanCatchUp kept stops merge held → merge ≡ all_come (document_of from) → records ≡ told_all (document_of from)

  -- where changes are collected, what its boxes do to counters was
  abbrev pub AreAllCollected : (ℕ → Option Walked) → List Stop → (before now : Option (List Change)) → Type 0
  AreAllCollected kept stops before now =
      (merge : Merge StyledNode) (held : ℕ → Option Told) → CanCatchUp kept stops merge held → merge ≡ all_come (document_of from) → now ≡ with_changes before (all_changes from.table (document_of from))

  -- and three steps are enough for each of its elements
  abbrev pub IsWithinWhole : (ℕ → Option Walked) → List Stop → (before now : ℕ) → Type 0
  IsWithinWhole kept stops before now =
      (merge : Merge StyledNode) (held : ℕ → Option Told) → CanCatchUp kept stops merge held → merge ≡ all_come (document_of from) → now ≤ before + 3 * element_count (without_keys from.tree)

  -- there are no more records than elements
  abbrev pub AreOfElements : (ℕ → Option Walked) → List Stop → List (ℕ × Told) → Type 0
  AreOfElements kept stops records = (merge : Merge StyledNode) (held : ℕ → Option Told) → CanCatchUp kept stops merge held → length records ≤ element_count (without_keys from.tree)
