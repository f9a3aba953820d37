-- What is kept of elements, by what is told of them (our own, over CSS Lists 3, 4.4).
use Rattle.std.specs.Prelude.{◌≡◌, ◌&&◌, ◌++◌, ℕ, List, Option, Some, None, if◌then◌else◌, is_some, map, not}
use Rattle.forest.specs.Forest.{Forest}
use Rattle.forest.specs.Keys.{HasDistinctKeys, Keyed}
use Rattle.plain_types.specs.declared.counter_style.CounterStyle.{CounterStyle}
use Rattle.plain_types.specs.declared.node.Node.{Node}
use Rattle.plain_types.specs.declared.style.ElementStyle.{ElementStyle}
use Rattle.plain_types.specs.declared.style.Style.{Style}
use Rattle.node_arena.specs.Nodes.{name_of}
use Rattle.box_eval.specs.Evaluation.{changes_in, styled}
use Rattle.box_eval.specs.Starts.{no_starts}
use Rattle.merged_walk.specs.Entries.{AreAmong, Covers, first_at}
use Rattle.surroundings.specs.declared.told.Told.{Told}
use Rattle.surroundings.specs.Laws.{told_document}
use Rattle.edit_work.specs.KeyedSources.{is_among}
use Rattle.scope_deeds.specs.Counting.{own_set}
use Rattle.scope_deeds.specs.Reversed.{meets_reversed}
use Rattle.counter_index.specs.declared.deeds.CounterDeeds.{CounterDeeds}
use Rattle.counter_index.specs.Exchanges.{takes_out}

-- what an element does, of which this is told
abbrev pub deeds_told : Told → CounterDeeds
deeds_told told = record {
  own = own_set told.said;
  asked = told.starts;
  before_children = told.changes ++ changes_in told.said.before;
  after_children = changes_in told.said.after;
}

-- and where the element meets a reversed counter, for of others nothing is kept
abbrev pub deeds_kept : Told → Option CounterDeeds
deeds_kept told = if meets_reversed told then Some (deeds_told told) else None

-- those of each of these elements, and what is to be kept of each
abbrev pub all_deeds_told : List (ℕ × Told) → List (ℕ × CounterDeeds)
all_deeds_told told = map (λ (element : ℕ × Told). (element.0, deeds_told element.1)) told

abbrev pub all_deeds_kept : List (ℕ × Told) → List (ℕ × Option CounterDeeds)
all_deeds_kept told = map (λ (element : ℕ × Told). (element.0, deeds_kept element.1)) told

-- what is exchanged where some elements go, and this is told of others
abbrev pub told_exchange : (takes : List ℕ) → List (ℕ × Told) → List (ℕ × Option CounterDeeds)
told_exchange takes told = takes_out takes ++ all_deeds_kept told

-- what is told of a document's elements where all starts are 0
abbrev pub told_without_starts : List CounterStyle → (ℕ → Option Style → ElementStyle) → Forest (Keyed Node) → List (ℕ × Told)
told_without_starts table style tree = told_document table (styled style no_starts tree)

-- What a walk with all starts 0 has caught of a document that an edit made of another one: each element of which it has not
-- caught what is told is told as before. And `takes` are the elements that the document has no more.
pub record TellsWithoutStarts (was_table table : List CounterStyle) (was_style style : ℕ → Option Style → ElementStyle) (old new : Forest (Keyed Node)) (takes : List ℕ) (caught : List (ℕ × Told)) : Type 0 where
  pub distinct_before : HasDistinctKeys old
  pub distinct_after : HasDistinctKeys new
  pub covers : Covers caught (first_at (told_without_starts was_table was_style old)) (told_without_starts table style new)
  pub among : AreAmong caught (told_without_starts table style new)
  pub taken : (key : ℕ) → is_among takes key ≡ (is_some (name_of old key) && not (is_some (name_of new key)))
