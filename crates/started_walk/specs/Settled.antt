-- What is kept for both walks, once an edit has been walked (our own, over CSS Lists 3, 4.4).
use Rattle.std.specs.Prelude.{◌≡◌, ◌&&◌, ℕ, List, [], ◌∷◌, None, is_some, map, not}
use Rattle.std.specs.FinMap.{FinMap}
use Rattle.std.specs.Ordering.{nat_cmp}
use Rattle.forest.specs.Keys.{HasDistinctKeys}
use Rattle.node_arena.specs.Nodes.{name_of}
use Rattle.box_eval.specs.Starts.{no_starts}
use Rattle.surroundings.specs.declared.told.Told.{Told}
use Rattle.surroundings.specs.declared.walked.Walked.{Walked}
use Rattle.edit_work.specs.KeyedSources.{KeyedSource, author, is_among, own_starts}
use Rattle.reference_reach.specs.ToldLaws.{told_of, told_with}
use Rattle.counter_index.specs.declared.index.CounterIndex.{CounterIndex}
use Rattle.counter_index.specs.Indexes.{AsksForStarts}
use Rattle.touched_starts.specs.Laws.{IsIndexOf}
use Rattle.zero_walks.specs.Missing.{put_missing}
use Rattle.zero_walks.specs.Told.{walked_of}
use Rattle.kept_elements.specs.declared.kept.Kept.{Kept}
use Rattle.kept_elements.specs.declared.kept_change.KeptChange.{KeptChange}
use Rattle.kept_elements.specs.Changes.{AreBelow, Renews, TellWere, walked_at}
use Rattle.kept_elements.specs.Evaluations.{document_kept}
use Rattle.started_walk.specs.declared.counting.Counting.{Counting}
use Rattle.started_walk.specs.Countings.{KeepsWalked, KeepsZeros}
use Rattle.started_walk.specs.Walks.{Finds}

-- what is held, once what each of these elements was handed before its change comes to it, where nothing is held of the element and
-- there is room
abbrev pub saved : (room : ℕ) → List (ℕ × KeptChange) → FinMap nat_cmp Walked → FinMap nat_cmp Walked
saved room [] held = held
saved room (change ∷ changes) held = saved room changes (put_missing room change.0 change.1.was held)

-- a change, without what the element was handed before
abbrev pub without_was : ℕ × KeptChange → ℕ × KeptChange
without_was change = (change.0, record { kept = change.1.kept; shows_other = change.1.shows_other; was = None })

abbrev pub without_were : List (ℕ × KeptChange) → List (ℕ × KeptChange)
without_were changes = map without_was changes

-- where a document asks for starts after an edit, these are what the first walk of the edit told
abbrev pub TellsZeros : (before after : KeyedSource) → CounterIndex → (zeros : List (ℕ × Walked)) → Type 0
TellsZeros before after index zeros =
    AsksForStarts index → (told : List (ℕ × Told)) × (Finds (told_with before no_starts) (told_with after no_starts) told × (zeros ≡ walked_of told))

-- An edit has been walked. Of what is kept for both walks, the index is that of the document after it already; the rest is of the
-- document before it, and has room for what was told with the document's own starts. These elements go, the first walk tells these
-- zeros, and so these changes come to what a board holds of the document before.
pub record IsWalked (before after : KeyedSource) (counting : Counting) (takes : List ℕ) (zeros : List (ℕ × Walked)) (changes : List (ℕ × KeptChange)) : Type 0 where
  pub distinct_before : HasDistinctKeys before.tree
  pub distinct_after : HasDistinctKeys after.tree
  pub taken : (key : ℕ) → is_among takes key ≡ (is_some (name_of before.tree key) && not (is_some (name_of after.tree key)))
  pub counted : KeepsZeros before counting.zeros.held
  pub index : IsIndexOf after counting.index
  pub tells : TellsZeros before after counting.index zeros
  pub told : List (ℕ × Told)
  pub finds : Finds (told_of before) (told_of after) told
  pub room : AsksForStarts counting.index → AreBelow counting.zeros.room told
  pub held : FinMap nat_cmp Kept
  pub keeps : KeepsWalked before (own_starts before) (walked_at held)
  pub renews : Renews held (document_kept (author after) after.tree) changes
  pub were : TellWere held changes
