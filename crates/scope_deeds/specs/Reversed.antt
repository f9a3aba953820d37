-- What is kept of the elements that meet reversed counters, and of no others (our own, over CSS Lists 3, 4.4).
use Rattle.std.specs.Prelude.{◌≡◌, ◌&&◌, ◌||◌, ◌++◌, ℕ, Bool, false, List, Option, Some, None, if◌then◌else◌, option_and_then}
use Rattle.std.specs.List.{list_any}
use Rattle.std.specs.Option.{option_map_or}
use Rattle.std.specs.Str.{bytes_eq}
use Rattle.forest.specs.Forest.{Forest}
use Rattle.forest.specs.Keys.{Keyed}
use Rattle.plain_types.specs.declared.box_id.BoxId.{BoxId}
use Rattle.plain_types.specs.declared.counter.Counter.{Counter}
use Rattle.plain_types.specs.declared.counter_style.CounterStyle.{CounterStyle}
use Rattle.counter_sets.specs.Sets.{is_same_box}
use Rattle.box_eval.specs.declared.inputs.Start.{Start}
use Rattle.box_eval.specs.declared.made.Made.{Made}
use Rattle.box_eval.specs.Evaluation.{StyledNode, changes_in}
use Rattle.merged_walk.specs.Entries.{first_at}
use Rattle.surroundings.specs.declared.told.Told.{Told}
use Rattle.surroundings.specs.Laws.{told_document}
use Rattle.scope_deeds.specs.Counting.{Counting, own_set}

-- a set has a reversed counter
abbrev pub has_reversed : List Counter → Bool
has_reversed set = list_any (λ (counter : Counter). counter.reversed) set

-- and that of the box of a pseudo-element has one, where there is such a box
abbrev pub has_reversed_in : Option Made → Bool
has_reversed_in made = option_map_or (λ (box : Made). has_reversed box.set) made false

-- An element meets a reversed counter where the set of a box of it has one, or a box of it asks for the start of one. Its marker does
-- nothing to counters.
abbrev pub meets_reversed : Told → Bool
meets_reversed told = told.asks || (has_reversed told.said.own || (has_reversed_in told.said.before || has_reversed_in told.said.after))

-- what is kept of an element of which this is told
abbrev pub counting_told : Told → Counting
counting_told told = record {
  own = own_set told.said;
  deeds = record { before_children = told.changes ++ changes_in told.said.before; after_children = changes_in told.said.after };
}

-- the same, where it meets a reversed counter
abbrev pub reversed_counting : Told → Option Counting
reversed_counting told = if meets_reversed told then Some (counting_told told) else None

-- one of these is the start of the counter of this name that this box creates
abbrev pub is_start_of : BoxId → List ℕ → List Start → Bool
is_start_of creator name starts = list_any (λ (asked : Start). is_same_box asked.creator creator && bytes_eq asked.name name) starts

module _ (table : List CounterStyle) (document : Forest (Keyed StyledNode)) where
  -- a map has it of each element of a document that meets a reversed counter, and has nothing else
  abbrev pub KeepsReversed : (ℕ → Option Counting) → Type 0
  KeepsReversed kept = (key : ℕ) → kept key ≡ option_and_then reversed_counting (first_at (told_document table document) key)

  -- an element of the document asks for the start of the counter of this name that this box of it creates
  abbrev pub asks_for : BoxId → List ℕ → Bool
  asks_for creator name = option_map_or (λ (told : Told). is_start_of creator name told.starts) (first_at (told_document table document) creator.key) false
