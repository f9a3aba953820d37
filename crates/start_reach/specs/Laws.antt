-- Laws of the starts of reversed counters under an edit: which of them stay, and the merge for the evaluation with those
-- that do not.
use Rattle.std.specs.Prelude.{◌≡◌, ◌≢◌, ◌+◌, ◌*◌, ◌≤◌, ℕ, Bool, true, false, List, [], ◌∷◌, ◌++◌, All, Option, Some, None, sum_by}
use Rattle.std.specs.Option.{option_map_or}
use Rattle.forest.specs.Forest.{Forest, labels}
use Rattle.forest.specs.Keys.{Keyed, HasDistinctKeys}
use Rattle.forest.specs.Spots.{IsLive, parent_of}
use Rattle.plain_types.specs.declared.counter_style.CounterStyle.{CounterStyle}
use Rattle.plain_types.specs.declared.edit.Edit.{Edit}
use Rattle.plain_types.specs.declared.node.Node.{Node}
use Rattle.plain_types.specs.declared.style.ElementStyle.{ElementStyle}
use Rattle.plain_types.specs.declared.style.Style.{Style}
use Rattle.box_eval.specs.declared.inputs.Inputs.{Inputs}
use Rattle.box_eval.specs.declared.inputs.Start.{Start}
use Rattle.box_eval.specs.Evaluation.{StyledNode, element_starts, styled, styled_trees}
use Rattle.box_eval.specs.Starts.{document_starts, no_starts}
use Rattle.generated_texts.specs.Documents.{agent_sheet, document_style}
use Rattle.merged_walk.specs.Counts.{anew_count, budget, come_count, gone_count, led_count, place_count}
use Rattle.merged_walk.specs.Laws.{Merges}
use Rattle.merged_walk.specs.Merges.{Merge, new_of, old_of}
use Rattle.merged_walk.specs.Stops.{stops_of}
use Rattle.surroundings.specs.declared.surroundings.Surroundings.{Surroundings}
use Rattle.surroundings.specs.MergedLevels.{HasLeaves}
use Rattle.surroundings.specs.StyledEvaluators.{root_surroundings, styled_evaluator}
use Rattle.surroundings.specs.StyledEvaluators.{is_element as is_styled_element}
use Rattle.document_walk.specs.TreeChanges.{tree_changes}
use Rattle.edit_merge.specs.EditMerges.{is_element}
use Rattle.style_reach.specs.Reaches.{all_features}
use Rattle.style_reach.specs.declared.extent.Reach.TheVariants.{All as Everywhere}
use Rattle.styled_merge.specs.Stays.{HasSameBoxStarts}
use Rattle.styled_merge.specs.StopLaws.{IsWalkable, stops_where}
use Rattle.styled_merge.specs.StyledMerges.{Starting, Styling}
use Rattle.edit_work.specs.Counters.{Identity}
use Rattle.edit_work.specs.KeyedSources.{KeyedSource, author, is_among, inputs_with, own_starts, styled_with, table, weight}
use Rattle.edit_work.specs.Inputs.{differs, inputs_at}
use Rattle.edit_work.specs.Laws.{OfEachEdit}
use Rattle.edit_work.specs.ReachedLaws.{reached_with}
use Rattle.edit_work.specs.Work.{around_places, differing, edit_reach, placed, walk_work}
use Rattle.start_reach.specs.CounterChanges.{LeavesAlone, OfEachSkipped, counter_events}
use Rattle.start_reach.specs.Deeds.{AreCompared, Deeds}
use Rattle.start_reach.specs.SecondMerges.{first_merge, second_merge, turned_merge}
use Rattle.start_reach.specs.TurnedElements.{AsksForSame, KeptHaveSameStarts, stays, turned_where, way_to, with_ways_to}

-- Starts that stay.

-- trees do to a counter what they did before, where it is left alone
abbrev pub EventsStay : Type 0
EventsStay =
    (table : List CounterStyle) (counter : Identity) (handed was_handed : Option Surroundings) (merge : Merge StyledNode)
    → LeavesAlone table counter handed was_handed merge
    → counter_events counter (tree_changes table handed (new_of merge)) ≡ counter_events counter (tree_changes table was_handed (old_of merge))

-- it is left alone where what elements do to it is compared, by their keys
abbrev pub ComparedIsLeftAlone : Type 0
ComparedIsLeftAlone =
    (table : List CounterStyle) (counter : Identity) (handed was_handed : Option Surroundings) (merge : Merge StyledNode)
    → HasDistinctKeys (new_of merge) → HasLeaves is_styled_element merge
    → (now was : ℕ → Option Deeds) → AreCompared table counter handed was_handed merge now was
    → LeavesAlone table counter handed was_handed merge

-- a law of two documents under one table of counter styles, and of a merge of them as they are evaluated with all starts 0
abbrev pub OfEachPair : ((table : List CounterStyle) (old_style new_style : Styling) (old new : Forest (Keyed Node)) → Merge StyledNode → Type 0) → Type 0
OfEachPair law =
    (table : List CounterStyle) (old_style new_style : Styling) (old new : Forest (Keyed Node)) (merge : Merge StyledNode)
    → HasDistinctKeys old → HasDistinctKeys new → Merges merge (styled old_style no_starts old) (styled new_style no_starts new)
    → law table old_style new_style old new merge

-- a counter that is left alone has the same start in both
abbrev pub StartsStay : Type 0
StartsStay =
    OfEachPair (λ table old_style new_style old new merge. (counter : Identity) → LeavesAlone table counter root_surroundings root_surroundings merge
    → document_starts table new_style new counter.creator counter.name ≡ document_starts table old_style old counter.creator counter.name)

-- and so has each that is created under an element into which a walk does not go
abbrev pub SkippedStartsStay : Type 0
SkippedStartsStay =
    OfEachPair (λ table old_style new_style old new merge.
    OfEachSkipped table (HasSameBoxStarts (document_starts table old_style old) (document_starts table new_style new)) root_surroundings root_surroundings merge)

-- Both hold of an edit that does not reach everywhere, and of its merge where what it reaches goes and comes.
pub record KeepsStarts (edit : Edit) (before after : KeyedSource) : Type 0 where
  pub alone :
      (counter : Identity) → LeavesAlone (table after) counter root_surroundings root_surroundings (reached_with edit before after no_starts no_starts)
      → own_starts after counter.creator counter.name ≡ own_starts before counter.creator counter.name
  pub skipped :
      OfEachSkipped (table after) (HasSameBoxStarts (own_starts before) (own_starts after)) root_surroundings root_surroundings
      (reached_with edit before after no_starts no_starts)

abbrev pub EditsKeepStarts : Type 0
EditsKeepStarts = OfEachEdit (λ edit before after. edit_reach edit before after ≢ Everywhere → KeepsStarts edit before after)

-- Starts that do not.

-- to turn elements changes neither forest
abbrev pub TurnedKeepForests : Type 0
TurnedKeepForests =
    (is_turned : ℕ → Bool) (merge : Merge Node) (old new : Forest (Keyed Node)) → Merges merge old new → Merges (turned_where is_element is_turned merge) old new

-- it adds the stops on the way to each element
abbrev pub TurnedElementsStop : (L : Type 0) → Type 0
TurnedElementsStop L =
    (is_element : L → Bool) (merge : Merge L) → HasLeaves is_element merge → HasDistinctKeys (new_of merge)
    → (keys : List ℕ) → All (λ key. stays is_element key merge ≡ true) keys
    → stops_of is_element 0 (turned_where is_element (is_among keys) merge) ≡ with_ways_to (new_of merge) keys (stops_of is_element 0 merge)

-- The way to a node is that to its parent, if it has one, and the node.
abbrev pub WaysAreClimbed : (L : Type 0) → Type 0
WaysAreClimbed L =
    (document : Forest (Keyed L)) → HasDistinctKeys document → (key : ℕ) → IsLive document key
    → way_to document key ≡ option_map_or (way_to document) (parent_of document key) [] ++ key ∷ []

-- The second merge of an edit has the two documents with their starts, where each element that it keeps has the same.
abbrev pub SecondMergesAreStarted : Type 0
SecondMergesAreStarted =
    OfEachEdit (λ edit before after. (is_turned : ℕ → Bool) (was_start start : Starting)
    → KeptHaveSameStarts (document_style (author after) after.tree) was_start start None (turned_merge edit before after is_turned)
    → Merges (second_merge edit before after is_turned was_start start) (styled_with before was_start) (styled_with after start))

-- an element has the same starts where each that its boxes ask for is the same
abbrev pub AskedStartsAreEnough : Type 0
AskedStartsAreEnough =
    (was_start start : Starting) (key : ℕ) (style : ElementStyle)
    → All (λ (asked : Start). was_start asked.creator asked.name ≡ asked.value) (element_starts start key style)
    → element_starts was_start key style ≡ element_starts start key style

-- So it is enough that each element of the document after the edit that is not turned asks for no start that is other.
abbrev pub UnturnedAreEnough : Type 0
UnturnedAreEnough =
    (new : Styling) (was_start start : Starting) (is_turned : ℕ → Bool) (parent : Option Style) (merge : Merge Node)
    → All (λ (node : Keyed StyledNode). is_turned node.key ≡ false → AsksForSame was_start node.label) (labels (styled_trees new start parent (new_of merge)))
    → KeptHaveSameStarts new was_start start parent (turned_where is_element is_turned merge)

-- and a walk may go over it, whatever the starts are: its stops are those of the edit, with the ways to the turned elements
abbrev pub SecondMergesAreWalkable : Type 0
SecondMergesAreWalkable =
    OfEachEdit (λ edit before after. (keys : List ℕ) → All (λ key. stays is_element key (first_merge edit before after) ≡ true) keys
    → (was_start start : Starting)
    → IsWalkable is_styled_element
    (with_ways_to after.tree keys (stops_where (all_features agent_sheet (author before)) edit before.tree after.tree))
    (second_merge edit before after (is_among keys) was_start start))

-- Work.

-- The elements of these keys are turned in the second merge of an edit. Each of them stays, a counter of some box of it has another
-- start than before, and its inputs differ; each element that is kept has the same starts.
pub record AreTurned (edit : Edit) (before after : KeyedSource) (keys : List ℕ) : Type 0 where
  pub stay : All (λ key. stays is_element key (first_merge edit before after) ≡ true) keys
  pub other : All (λ key. HasSameBoxStarts (own_starts before) (own_starts after) key → ⊥) keys
  pub differ : All (λ key. differs before after key ≡ true) keys
  pub kept :
      KeptHaveSameStarts (document_style (author after) after.tree) (own_starts before) (own_starts after) None
      (turned_merge edit before after (is_among keys))

-- where an element has other starts, its inputs differ
abbrev pub OtherStartsDiffer : Type 0
OtherStartsDiffer =
    (before after : KeyedSource) (key : ℕ) (was its : Inputs)
    → inputs_at (inputs_with before (own_starts before)) key ≡ Some was → inputs_at (inputs_with after (own_starts after)) key ≡ Some its
    → was.starts ≢ its.starts → differs before after key ≡ true

-- a law of an edit that does not reach everywhere, and of the elements that are turned
abbrev pub OfTurned : ((edit : Edit) (before after : KeyedSource) → (keys : List ℕ) → Type 0) → Type 0
OfTurned law =
    OfEachEdit (λ edit before after. edit_reach edit before after ≢ Everywhere
    → (keys : List ℕ) → AreTurned edit before after keys → law edit before after keys)

-- both merges of an edit, that with all starts 0 and that with the starts of each document
abbrev pub plain_merge : Edit → (before after : KeyedSource) → Merge StyledNode
plain_merge edit before after = reached_with edit before after no_starts no_starts

abbrev pub started_merge : Edit → (before after : KeyedSource) → (keys : List ℕ) → Merge StyledNode
started_merge edit before after keys = second_merge edit before after (is_among keys) (own_starts before) (own_starts after)

-- A walk over the second merge goes into no more elements than there are above the places of the edit and among those whose
-- inputs differ: it goes into those that are turned, and those above them, into which the first walk goes.
pub record AreFew (edit : Edit) (before after : KeyedSource) (keys : List ℕ) : Type 0 where
  pub led :
      led_count (started_merge edit before after keys)
      ≤ led_count (plain_merge edit before after) + sum_by (weight before after) (differing edit before after)
  pub anew :
      anew_count (styled_evaluator (table after)) root_surroundings root_surroundings (started_merge edit before after keys)
      ≤ led_count (plain_merge edit before after) + sum_by (weight before after) (differing edit before after)
  pub come : come_count is_styled_element (started_merge edit before after keys) ≡ come_count is_styled_element (plain_merge edit before after)
  pub gone : gone_count is_styled_element (started_merge edit before after keys) ≡ gone_count is_styled_element (plain_merge edit before after)
  pub places : place_count (started_merge edit before after keys) ≡ place_count (plain_merge edit before after)

abbrev pub SecondWalksAreFew : Type 0
SecondWalksAreFew = OfTurned AreFew

-- what a walk over the merge of an edit is led into, what comes and what goes is at the edit's places or around them, and
-- there are few places
pub record ArePlacesPaid (edit : Edit) (before after : KeyedSource) : Type 0 where
  pub few :
      (led_count (first_merge edit before after) + come_count is_element (first_merge edit before after) + gone_count is_element (first_merge edit before after))
      ≤ sum_by (weight before after) (placed edit before after) + sum_by (weight before after) (around_places edit before after)
  pub places :
      4 * place_count (first_merge edit before after)
      ≤ 20 + 2 * (sum_by (weight before after) (placed edit before after) + sum_by (weight before after) (around_places edit before after))

-- so it is where the edit does not reach everywhere
abbrev pub PlacesArePaid : Type 0
PlacesArePaid = OfEachEdit (λ edit before after. edit_reach edit before after ≢ Everywhere → ArePlacesPaid edit before after)

-- So the work of an edit pays for both walks, for 2 steps at each node that they are led into, once for each walk, and for taking
-- out what was kept of elements that go.
abbrev pub BothWalksArePaid : Type 0
BothWalksArePaid =
    OfTurned (λ edit before after keys.
    let steps : Merge StyledNode → ℕ = λ merge. budget (styled_evaluator (table after)) root_surroundings root_surroundings merge + 2 * led_count merge in
    (steps (plain_merge edit before after) + steps (started_merge edit before after keys) + gone_count is_styled_element (plain_merge edit before after))
    ≤ 24 * (walk_work edit before after + 1))
