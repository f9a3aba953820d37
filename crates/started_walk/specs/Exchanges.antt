-- An index that is brought from a document to the one that an edit makes of it, and its way back (our own).
use Rattle.std.specs.Prelude.{◌≡◌, ◌&&◌, ℕ, nat_eq, Bool, List, Option, not}
use Rattle.std.specs.FinMap.{get}
use Rattle.std.specs.List.{IsDistinct}
use Rattle.forest.specs.Forest.{Forest}
use Rattle.forest.specs.Keys.{Keyed}
use Rattle.plain_types.specs.declared.counter_style.CounterStyle.{CounterStyle}
use Rattle.plain_types.specs.declared.node.Node.{Node}
use Rattle.plain_types.specs.declared.style.ElementStyle.{ElementStyle}
use Rattle.plain_types.specs.declared.style.Style.{Style}
use Rattle.box_eval.specs.declared.inputs.Start.{Start}
use Rattle.box_eval.specs.Starts.{document_starts, has_starts}
use Rattle.merged_walk.specs.declared.stop.Stop.{Stop}
use Rattle.edit_work.specs.KeyedSources.{is_among}
use Rattle.turned_stops.specs.Coming.{coming_at_stops}
use Rattle.counter_index.specs.declared.deeds.CounterDeeds.{CounterDeeds}
use Rattle.counter_index.specs.declared.index.CounterIndex.{CounterIndex}
use Rattle.counter_index.specs.Documents.{KeepsDeeds}
use Rattle.counter_index.specs.Exchanges.{HasRoomFor, IsWayBack, after_exchange, keys_in}
use Rattle.counter_index.specs.Indexes.{asked_at, deeds_at}
use Rattle.counter_index.specs.Retold.{told_entries}
use Rattle.counter_index.specs.Touched.{AreTouched}
use Rattle.started_walk.specs.declared.bring.WayBack.{WayBack}

-- Deeds were exchanged, these elements go or come, and these entries have the starts of the elements that are touched, told again by
-- what the index has of the document, each once.
pub record AreToldAgain (former : List (ℕ × Option CounterDeeds)) (moved : List ℕ) (index : CounterIndex) (tree : Forest (Keyed Node)) (starts : List (ℕ × Option (List Start))) : Type 0 where
  pub keys : List ℕ
  pub once : IsDistinct nat_eq (keys_in starts)
  pub touched : AreTouched former moved index keys
  pub are : (table : List CounterStyle) (style : ℕ → Option Style → ElementStyle) → KeepsDeeds table style tree index → starts ≡ told_entries (document_starts table style tree) index keys

-- The deeds of an index are those of a document, and these were kept before of the elements whose deeds were exchanged. Then the
-- starts of those that are touched were told again and exchanged; of them these starts were kept before.
pub record BringsStarts (deeds : List (ℕ × Option CounterDeeds)) (moved : List ℕ) (tree : Forest (Keyed Node)) (was now : CounterIndex) (former : List (ℕ × Option (List Start))) : Type 0 where
  pub keys : List ℕ
  pub touched : AreTouched deeds moved now keys
  pub starts :
      (table : List CounterStyle) (style : ℕ → Option Style → ElementStyle) → KeepsDeeds table style tree now
      → (key : ℕ) → get now.starts.held key ≡ after_exchange (told_entries (document_starts table style tree) now keys) (get was.starts.held) key
  pub once : IsDistinct nat_eq (keys_in former)
  pub back : IsWayBack former (get now.starts.held) (get was.starts.held)
  pub room : HasRoomFor now.starts.room former

-- put back, the last first, these take an index to what it kept before, whose starts were exchanged once for each element
pub record TakesBack (back : WayBack) (now was : CounterIndex) : Type 0 where
  pub deeds : IsWayBack back.deeds.items (deeds_at now) (deeds_at was)
  pub once : IsDistinct nat_eq (keys_in back.starts.items)
  pub starts : IsWayBack back.starts.items (get now.starts.held) (get was.starts.held)
  pub deeds_room : HasRoomFor now.deeds.room back.deeds.items
  pub starts_room : HasRoomFor now.starts.room back.starts.items

-- An index of what elements did has become one of what the elements of this document do: deeds were exchanged, and then the starts
-- of those that are touched, told again.
pub record IsBroughtTo (tree : Forest (Keyed Node)) (deeds : List (ℕ × Option CounterDeeds)) (moved : List ℕ) (was now : CounterIndex) (back : WayBack) : Type 0 where
  pub does : (key : ℕ) → deeds_at now key ≡ after_exchange deeds (deeds_at was) key
  pub keys : List ℕ
  pub touched : AreTouched back.deeds.items moved now keys
  pub starts :
      (table : List CounterStyle) (style : ℕ → Option Style → ElementStyle) → KeepsDeeds table style tree now
      → (key : ℕ) → get now.starts.held key ≡ after_exchange (told_entries (document_starts table style tree) now keys) (get was.starts.held) key

-- an element asks for starts, and does not come at these stops
abbrev pub asks_and_stays : Forest (Keyed Node) → CounterIndex → List Stop → ℕ → Bool
asks_and_stays tree index stops key = has_starts (asked_at index key) && not (is_among (coming_at_stops tree stops) key)
