-- What is kept of a document for both walks of an edit, beside what is kept of its elements (our own, over CSS Lists 3, 4.4).
use Rattle.std.specs.Prelude.{◌≡◌, ℕ, List, Option, option_map}
use Rattle.std.specs.FinMap.{FinMap, get}
use Rattle.std.specs.Option.{option_or}
use Rattle.std.specs.Ordering.{nat_cmp}
use Rattle.forest.specs.Forest.{Forest}
use Rattle.forest.specs.Keys.{Keyed}
use Rattle.plain_types.specs.declared.counter_style.CounterStyle.{CounterStyle}
use Rattle.plain_types.specs.declared.node.Node.{Node}
use Rattle.plain_types.specs.declared.style.ElementStyle.{ElementStyle}
use Rattle.plain_types.specs.declared.style.Style.{Style}
use Rattle.box_eval.specs.Starts.{no_starts}
use Rattle.merged_walk.specs.Entries.{first_at}
use Rattle.surroundings.specs.declared.told.Told.{Told}
use Rattle.surroundings.specs.declared.walked.Walked.{Walked}
use Rattle.styled_merge.specs.StyledMerges.{Starting}
use Rattle.edit_work.specs.KeyedSources.{KeyedSource, own_starts}
use Rattle.reference_reach.specs.ToldLaws.{told_with}
use Rattle.counter_index.specs.declared.index.CounterIndex.{CounterIndex}
use Rattle.counter_index.specs.Documents.{KeepsDeeds}
use Rattle.counter_index.specs.Indexes.{deeds_at}
use Rattle.touched_starts.specs.Laws.{IsIndexOf}
use Rattle.started_walk.specs.declared.counting.Counting.{Counting}

-- what an element of a document is handed, and what is handed on behind its children, where counters have these starts
abbrev pub walked_with : KeyedSource → Starting → ℕ → Option Walked
walked_with source start key = option_map (λ (told : Told). told.walked) (first_at (told_with source start) key)

-- that is kept of each element of a document, and nothing of others
abbrev pub KeepsWalked : KeyedSource → Starting → (ℕ → Option Walked) → Type 0
KeepsWalked source start kept = (key : ℕ) → kept key ≡ walked_with source start key

-- with all starts 0 an element of a document is handed what is held of it, or, where nothing is held, what it is handed with the
-- document's own starts
abbrev pub KeepsZeros : KeyedSource → FinMap nat_cmp Walked → Type 0
KeepsZeros source held = KeepsWalked source no_starts (λ key. option_or (get held key) (walked_with source (own_starts source) key))

-- what is kept of a document for both walks: what tells what the walk with all starts 0 hands its elements, and the document's index
pub record Counts (source : KeyedSource) (counting : Counting) : Type 0 where
  pub zeros : KeepsZeros source counting.zeros.held
  pub index : IsIndexOf source counting.index

-- two indexes keep the same of each element; their rooms may differ
pub record KeepsTheSame (one other : CounterIndex) : Type 0 where
  pub deeds : (key : ℕ) → deeds_at one key ≡ deeds_at other key
  pub starts : (key : ℕ) → get one.starts.held key ≡ get other.starts.held key

-- an index has what the elements of this document do, by some styles
pub record HasSomeDeeds (tree : Forest (Keyed Node)) (index : CounterIndex) : Type 0 where
  pub table : List CounterStyle
  pub style : ℕ → Option Style → ElementStyle
  pub keeps : KeepsDeeds table style tree index
