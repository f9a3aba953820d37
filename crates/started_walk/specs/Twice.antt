-- Both walks of an edit: where they may begin, and what they find (our own, over CSS Lists 3, 4.4).
use Rattle.std.specs.Prelude.{◌≡◌, ◌≢◌, ◌≤◌, ◌+◌, ◌&&◌, ◌⊎◌, ℕ, List, Option, is_some, length, not}
use Rattle.plain_types.specs.declared.edit.Edit.{Edit}
use Rattle.node_arena.specs.Nodes.{name_of}
use Rattle.box_eval.specs.Evaluation.{StyledNode}
use Rattle.box_eval.specs.Starts.{no_starts}
use Rattle.generated_texts.specs.Documents.{document_style}
use Rattle.merged_walk.specs.declared.stop.Stop.{Stop}
use Rattle.merged_walk.specs.Counts.{budget}
use Rattle.merged_walk.specs.Merges.{Merge}
use Rattle.surroundings.specs.declared.told.Told.{Told}
use Rattle.surroundings.specs.declared.walked.Walked.{Walked}
use Rattle.surroundings.specs.StyledEvaluators.{root_surroundings, styled_evaluator}
use Rattle.document_walk.specs.Catching.{Reading}
use Rattle.style_reach.specs.declared.extent.Reach.TheVariants.{All as Everywhere}
use Rattle.edit_work.specs.KeyedSources.{KeyedSource, author, is_among, own_starts, table}
use Rattle.edit_work.specs.Laws.{Leads}
use Rattle.edit_work.specs.Work.{edit_reach}
use Rattle.reference_reach.specs.ToldLaws.{told_of}
use Rattle.start_reach.specs.Laws.{AreTurned, plain_merge, started_merge}
use Rattle.start_reach.specs.TurnedElements.{with_ways_to}
use Rattle.started_walk.specs.declared.counting.Counting.{Counting}
use Rattle.started_walk.specs.Countings.{Counts, KeepsWalked}
use Rattle.started_walk.specs.Walks.{Finds, edit_stops}

-- what a walk with all starts 0 reads of a document
abbrev pub reading_of : KeyedSource → Reading
reading_of source = record { table = table source; style = document_style (author source) source.tree; start = no_starts; tree = source.tree }

-- Some edit that does not reach everywhere has made this document. These are its stops, and of the elements that were there before it
-- these are gone.
pub record IsSomeEdit (from : Reading) (takes : List ℕ) (stops : List Stop) : Type 0 where
  pub edit : Edit
  pub before : KeyedSource
  pub after : KeyedSource
  pub leads : Leads edit before after
  pub local : edit_reach edit before after ≢ Everywhere
  pub reads : from ≡ reading_of after
  pub stops_are : stops ≡ edit_stops edit before after
  pub taken : (key : ℕ) → is_among takes key ≡ (is_some (name_of before.tree key) && not (is_some (name_of after.tree key)))

-- such an edit; what is kept for both walks of the document before it; and of each element of that document is kept what it is handed
-- with its own starts, and what is handed on behind its children
pub record CanWalkTwice (from : Reading) (counting : Counting) (kept : ℕ → Option Walked) (takes : List ℕ) (stops : List Stop) : Type 0 where
  pub place : IsSomeEdit from takes stops
  pub counts : Counts place.before counting
  pub keeps : KeepsWalked place.before (own_starts place.before) kept

-- between one number of steps and another are no more than the first walk may take
abbrev pub IsWithinFirst : Reading → Counting → (ℕ → Option Walked) → (takes : List ℕ) → List Stop → (before now : ℕ) → Type 0
IsWithinFirst from counting kept takes stops before now =
    (stands : CanWalkTwice from counting kept takes stops)
    → now ≤ before + budget (styled_evaluator (table stands.place.after)) root_surroundings root_surroundings (plain_merge stands.place.edit stands.place.before stands.place.after)

-- Both walks.

-- Elements are turned, and these are the stops with the ways to them; this was told with the document's own starts, and between one
-- number of steps and another are no more than both walks may take, with one for each element of which it was told.
pub record IsWalkedTwice (edit : Edit) (before after : KeyedSource) (stops ways : List Stop) (told : List (ℕ × Told)) (were now : ℕ) : Type 0 where
  pub keys : List ℕ
  pub turned : AreTurned edit before after keys
  pub ways_are : ways ≡ with_ways_to after.tree keys stops
  pub finds : Finds (told_of before) (told_of after) told
  pub few :
      now + length told
      ≤ were
      + (budget (styled_evaluator (table after)) root_surroundings root_surroundings (plain_merge edit before after)
      + budget (styled_evaluator (table after)) root_surroundings root_surroundings (started_merge edit before after keys))

-- Between one number of steps and another are no more than the first walk may take, or no more than both may.
abbrev pub IsWithinTwice : Reading → Counting → (ℕ → Option Walked) → (takes : List ℕ) → List Stop → (were now : ℕ) → Type 0
IsWithinTwice from counting kept takes stops were now =
    (stands : CanWalkTwice from counting kept takes stops)
    → let place : IsSomeEdit from takes stops = stands.place in
    let most : Merge StyledNode → ℕ = λ merge. budget (styled_evaluator (table place.after)) root_surroundings root_surroundings merge in
    (now ≤ were + most (plain_merge place.edit place.before place.after))
    ⊎ ((keys : List ℕ) × (AreTurned place.edit place.before place.after keys
    × (now ≤ were + (most (plain_merge place.edit place.before place.after) + most (started_merge place.edit place.before place.after keys)))))
