-- The walks of an edit of a document that asks for starts: where they may begin, and what they find (our own, over CSS Lists 3, 4.4).
use Rattle.std.specs.Prelude.{◌≡◌, ◌≢◌, ◌≤◌, ◌+◌, ℕ, All, List, None, Option, true}
use Rattle.plain_types.specs.declared.edit.Edit.{Edit}
use Rattle.box_eval.specs.Evaluation.{StyledNode}
use Rattle.generated_texts.specs.Documents.{agent_sheet, document_style}
use Rattle.merged_walk.specs.declared.stop.Stop.{Stop}
use Rattle.merged_walk.specs.Counts.{budget}
use Rattle.merged_walk.specs.Entries.{AreAmong, Covers, first_at}
use Rattle.merged_walk.specs.Merges.{Merge}
use Rattle.surroundings.specs.declared.told.Told.{Told}
use Rattle.surroundings.specs.declared.walked.Walked.{Walked}
use Rattle.surroundings.specs.StyledEvaluators.{root_surroundings, styled_evaluator}
use Rattle.document_walk.specs.Catching.{Reading, document_of}
use Rattle.edit_merge.specs.EditMerges.{is_element}
use Rattle.style_reach.specs.Reaches.{all_features}
use Rattle.style_reach.specs.declared.extent.Reach.TheVariants.{All as Everywhere}
use Rattle.styled_merge.specs.StopLaws.{stops_where}
use Rattle.styled_merge.specs.StyledMerges.{Starting}
use Rattle.edit_work.specs.KeyedSources.{KeyedSource, author, is_among, own_starts, styled_with, table}
use Rattle.edit_work.specs.Laws.{Leads}
use Rattle.edit_work.specs.Work.{edit_reach}
use Rattle.start_reach.specs.Laws.{AreTurned, started_merge}
use Rattle.start_reach.specs.SecondMerges.{first_merge, second_merge, turned_merge}
use Rattle.start_reach.specs.TurnedElements.{KeptHaveSameStarts, stays, with_ways_to}
use Rattle.started_walk.specs.Countings.{KeepsWalked}

-- a walk reads a document, which it evaluates as with these starts
pub record Reads (from : Reading) (source : KeyedSource) (start : Starting) : Type 0 where
  pub table : from.table ≡ table source
  pub tree : from.tree ≡ source.tree
  pub document : document_of from ≡ styled_with source start

-- the stops of an edit
abbrev pub edit_stops : Edit → (before after : KeyedSource) → List Stop
edit_stops edit before after = stops_where (all_features agent_sheet (author before)) edit before.tree after.tree

-- Some edit that does not reach everywhere has made this document, as it is evaluated with some starts. Elements that stay are
-- turned, and each other one that does has the starts that it had; what is kept is of the document before the edit with those starts.
-- These are the stops of the merge.
pub record StandsTurned (from : Reading) (kept : ℕ → Option Walked) (stops : List Stop) : Type 0 where
  pub edit : Edit
  pub before : KeyedSource
  pub after : KeyedSource
  pub leads : Leads edit before after
  pub local : edit_reach edit before after ≢ Everywhere
  pub was_start : Starting
  pub start : Starting
  pub keys : List ℕ
  pub stay : All (λ key. stays is_element key (first_merge edit before after) ≡ true) keys
  pub same : KeptHaveSameStarts (document_style (author after) after.tree) was_start start None (turned_merge edit before after (is_among keys))
  pub reads : Reads from after start
  pub keeps : KeepsWalked before was_start kept
  pub stops_are : stops ≡ with_ways_to after.tree keys (edit_stops edit before after)

-- the merge over which the walk goes
abbrev pub merge_of : {from : Reading} {kept : ℕ → Option Walked} {stops : List Stop} → StandsTurned from kept stops → Merge StyledNode
merge_of walk = second_merge walk.edit walk.before walk.after (is_among walk.keys) walk.was_start walk.start

-- Between one number of steps and another are no more than such a walk may take.
abbrev pub IsWithinTurned : Reading → (ℕ → Option Walked) → List Stop → (before now : ℕ) → Type 0
IsWithinTurned from kept stops before now =
    (walk : StandsTurned from kept stops) → now ≤ before + budget (styled_evaluator (table walk.after)) root_surroundings root_surroundings (merge_of walk)

-- What was told of the elements of a document, and what is told of those of the document after an edit: each that is not found is
-- told as before, and all that is found is told.
pub record Finds (was is found : List (ℕ × Told)) : Type 0 where
  pub covers : Covers found (first_at was) is
  pub among : AreAmong found is

-- The second walk.

-- Some such edit has made this document, as it is evaluated with its own starts. These elements are turned, and what is kept is of the
-- document before the edit with those that it had. These are the stops of the edit.
pub record CanWalkAgain (from : Reading) (kept : ℕ → Option Walked) (turned : List ℕ) (stops : List Stop) : Type 0 where
  pub edit : Edit
  pub before : KeyedSource
  pub after : KeyedSource
  pub leads : Leads edit before after
  pub local : edit_reach edit before after ≢ Everywhere
  pub reads : Reads from after (own_starts after)
  pub keeps : KeepsWalked before (own_starts before) kept
  pub turned_are : AreTurned edit before after turned
  pub stops_are : stops ≡ edit_stops edit before after

-- between one number of steps and another are no more than such a walk may take
abbrev pub IsWithinAgain : Reading → (ℕ → Option Walked) → (turned : List ℕ) → List Stop → (before now : ℕ) → Type 0
IsWithinAgain from kept turned stops before now =
    (walk : CanWalkAgain from kept turned stops) →
    now ≤ before + budget (styled_evaluator (table walk.after)) root_surroundings root_surroundings (started_merge walk.edit walk.before walk.after turned)
