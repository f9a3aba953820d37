-- Laws of an index of counters that an edit brings from one document to the next (our own, over CSS Lists 3, 4.4).
use Rattle.std.specs.Prelude.{◌≡◌, ◌≢◌, ◌⊎◌, ◌<◌, ◌&&◌, ◌++◌, ℕ, nat_eq, true, not, List, Option, None, IsSome, filter}
use Rattle.std.specs.FinMap.{get}
use Rattle.std.specs.List.{IsDistinct}
use Rattle.forest.specs.Keys.{HasDistinctKeys, times}
use Rattle.plain_types.specs.declared.edit.Edit.{Edit}
use Rattle.node_arena.specs.Nodes.{name_of}
use Rattle.box_eval.specs.declared.inputs.Start.{Start}
use Rattle.box_eval.specs.Evaluation.{styled}
use Rattle.box_eval.specs.Starts.{document_starts, has_starts}
use Rattle.generated_texts.specs.Documents.{document_style}
use Rattle.merged_walk.specs.Counts.{weigh_places}
use Rattle.merged_walk.specs.Stops.{stops_of}
use Rattle.edit_merge.specs.EditMerges.{is_element}
use Rattle.style_reach.specs.declared.extent.Reach.TheVariants.{All as Everywhere}
use Rattle.edit_work.specs.Counters.{Identity}
use Rattle.edit_work.specs.KeyedSources.{KeyedSource, author, is_among, own_starts, table}
use Rattle.edit_work.specs.Laws.{OfEachEdit}
use Rattle.edit_work.specs.Work.{edit_reach}
use Rattle.start_reach.specs.Laws.{AreTurned, plain_merge, started_merge}
use Rattle.start_reach.specs.SecondMerges.{first_merge, second_merge}
use Rattle.turned_stops.specs.Coming.{coming_at_stops}
use Rattle.counter_index.specs.declared.deeds.CounterDeeds.{CounterDeeds}
use Rattle.counter_index.specs.declared.index.CounterIndex.{CounterIndex}
use Rattle.counter_index.specs.Documents.{IsCounterIndex, KeepsDeeds, KeepsStarts}
use Rattle.counter_index.specs.Exchanges.{IsWayBack, after_exchange, keys_in}
use Rattle.counter_index.specs.Indexes.{asked_at, deeds_at, is_asked, value_at}
use Rattle.counter_index.specs.Laws.{OfEachIndex}
use Rattle.counter_index.specs.Retold.{other_keys, told_entries}
use Rattle.counter_index.specs.Touched.{AreTouched, IsUntouched, was_kept}

module _ (source : KeyedSource) (index : CounterIndex) where
  -- an index has what the elements of a document do that meet reversed counters, where all starts are 0
  abbrev pub HasDeeds : Type 0
  HasDeeds = KeepsDeeds (table source) (document_style (author source) source.tree) source.tree index

  -- and it has the starts for which they ask
  abbrev pub HasStarts : Type 0
  HasStarts = KeepsStarts (table source) (document_style (author source) source.tree) source.tree index

  -- so it is the index of the document
  abbrev pub IsIndexOf : Type 0
  IsIndexOf = IsCounterIndex (table source) (document_style (author source) source.tree) source.tree index

-- One index has what the elements did before an edit, another what they do after it, of those that meet reversed counters. `former` has what was kept of the elements
-- that were exchanged; `moved` has each element in a tree that goes.
pub record IsBrought (edit : Edit) (before after : KeyedSource) (was now : CounterIndex) (former : List (ℕ × Option CounterDeeds)) (moved : List ℕ) : Type 0 where
  pub did : HasDeeds before was
  pub does : HasDeeds after now
  pub back : (key : ℕ) → was_kept former moved now key ≡ deeds_at was key
  pub gone : (key : ℕ) → 0 < weigh_places (times key) (λ _. 0) (plain_merge edit before after) → (deeds_at was key ≡ None) ⊎ (is_among moved key ≡ true)

-- a law of such an index and of an edit that does not reach everywhere
abbrev pub OfEachBrought : ((edit : Edit) (before after : KeyedSource) (was now : CounterIndex) (former : List (ℕ × Option CounterDeeds)) (moved : List ℕ) → Type 0) → Type 0
OfEachBrought law =
    OfEachEdit (λ edit before after. edit_reach edit before after ≢ Everywhere
    → (was now : CounterIndex) (former : List (ℕ × Option CounterDeeds)) (moved : List ℕ)
    → IsBrought edit before after was now former moved → law edit before after was now former moved)

-- a counter for whose start an element asks, before the edit and after it, has the start that it had where it is untouched
abbrev pub UntouchedStartsStay : Type 0
UntouchedStartsStay =
    OfEachBrought (λ edit before after was now former moved. (counter : Identity)
    → is_asked was counter.creator counter.name ≡ true → is_asked now counter.creator counter.name ≡ true → IsUntouched former moved now counter
    → own_starts after counter.creator counter.name ≡ own_starts before counter.creator counter.name)

-- So an index that had the starts of the document before is brought to the document after the edit, where the starts of touched elements
-- are told again and exchanged for those that it had.
abbrev pub StartsAreBrought : Type 0
StartsAreBrought =
    OfEachBrought (λ edit before after was now former moved. HasStarts before was → (keys : List ℕ) → AreTouched former moved now keys
    → (told : CounterIndex) → told.deeds ≡ now.deeds
    → ((key : ℕ) → get told.starts.held key ≡ after_exchange (told_entries (own_starts after) now keys) (get was.starts.held) key)
    → IsIndexOf after told)

-- The elements that are moved. Let `takes` have each element of the document before that is not in the one after. The other elements
-- in trees that go come again at the stops of the edit.
abbrev pub GoneAreMoved : Type 0
GoneAreMoved =
    OfEachEdit (λ edit before after. (was : CounterIndex) → HasDeeds before was
    → (takes : List ℕ) → ((key : ℕ) → IsSome (name_of before.tree key) → name_of after.tree key ≡ None → is_among takes key ≡ true)
    → (key : ℕ) → 0 < weigh_places (times key) (λ _. 0) (plain_merge edit before after)
    → (deeds_at was key ≡ None) ⊎ (is_among (takes ++ coming_at_stops after.tree (stops_of is_element 0 (first_merge edit before after))) key ≡ true))

-- Elements that are turned.

-- of those that have other starts than before: those that ask for some, and do not come
abbrev pub turned_keys : CounterIndex → (former : List (ℕ × Option (List Start))) → (coming : List ℕ) → List ℕ
turned_keys index former coming = filter (λ key. has_starts (asked_at index key) && not (is_among coming key)) (other_keys index former)

-- these starts were kept of some elements, each once, and others were exchanged for them
pub record WereExchanged (former : List (ℕ × Option (List Start))) (was now : CounterIndex) : Type 0 where
  pub once : IsDistinct nat_eq (keys_in former)
  pub back : IsWayBack former (get now.starts.held) (get was.starts.held)

-- They are those that are to be turned in the second merge of the edit.
abbrev pub TurnedAreTold : Type 0
TurnedAreTold =
    OfEachEdit (λ edit before after. edit_reach edit before after ≢ Everywhere
    → (was now : CounterIndex) → IsIndexOf before was → IsIndexOf after now
    → (former : List (ℕ × Option (List Start))) → WereExchanged former was now
    → AreTurned edit before after (turned_keys now former (coming_at_stops after.tree (stops_of is_element 0 (first_merge edit before after)))))

-- What an evaluation asks for.

-- with the starts of its index a document is styled as with those that it has
abbrev pub StartsAreAsked : Type 0
StartsAreAsked =
    OfEachIndex (λ table style tree index. HasDistinctKeys tree → IsCounterIndex table style tree index
    → styled style (value_at index) tree ≡ styled style (document_starts table style tree) tree)

-- and so the second merge of an edit is the same with them
abbrev pub SecondMergesAreAsked : Type 0
SecondMergesAreAsked =
    OfEachEdit (λ edit before after. (now : CounterIndex) → IsIndexOf after now → (keys : List ℕ)
    → second_merge edit before after (is_among keys) (own_starts before) (value_at now) ≡ started_merge edit before after keys)
