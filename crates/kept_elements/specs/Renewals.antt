-- What a walk tells of a document that an edit made of another one, and which elements refer to what it touches (our own).
use Rattle.std.specs.Prelude.{◌≡◌, ◌==◌, ℕ, Bool, List, ◌++◌, is_some, option_map}
use Rattle.std.specs.FinMap.{FinMap, get}
use Rattle.std.specs.List.{list_any}
use Rattle.std.specs.Ordering.{nat_cmp}
use Rattle.forest.specs.Forest.{Forest}
use Rattle.forest.specs.Keys.{HasDistinctKeys, Keyed}
use Rattle.plain_types.specs.declared.counter_style.CounterStyle.{CounterStyle}
use Rattle.plain_types.specs.declared.node.Node.{Node}
use Rattle.node_arena.specs.Nodes.{name_of}
use Rattle.generated_texts.specs.References.{kept_at, known_targets}
use Rattle.merged_walk.specs.Entries.{AreAmong, Covers, first_at}
use Rattle.merged_walk.specs.Laws.{Merges}
use Rattle.merged_walk.specs.Merges.{Merge}
use Rattle.merged_walk.specs.declared.stop.Stop.{Stop}
use Rattle.merged_walk.specs.Stops.{stops_of}
use Rattle.surroundings.specs.declared.told.Told.{Told}
use Rattle.edit_merge.specs.EditMerges.{is_element}
use Rattle.target_index.specs.declared.index.Index.{Index}
use Rattle.referring_elements.specs.declared.former.FormerTarget.{FormerTarget}
use Rattle.referring_elements.specs.Former.{AreFormerTargets}
use Rattle.referring_elements.specs.Indexes.{TellsReferences}
use Rattle.edit_work.specs.KeyedSources.{is_among}
use Rattle.reference_reach.specs.ChangedTargets.{Evaluated, refers, refers_through}
use Rattle.reference_reach.specs.MergedNodes.{entered_elements}
use Rattle.referring_elements.specs.References.{AreOnce, said_of}
use Rattle.kept_elements.specs.declared.kept.Kept.{Kept}
use Rattle.kept_elements.specs.Evaluations.{kept_of}

-- something is told of the element
abbrev pub is_told : List (ℕ × Told) → ℕ → Bool
is_told told key = list_any (λ (element : ℕ × Told). element.0 == key) told

-- the document, as this is told of its elements
abbrev pub evaluated_as : Forest (Keyed Node) → List (ℕ × Told) → Evaluated
evaluated_as document told = record { tree = document; said = said_of told }

-- what is kept of an element of a document of which this is told
abbrev pub kept_in : List CounterStyle → Forest (Keyed Node) → List (ℕ × Told) → Told → Kept
kept_in table document told one = kept_of table (known_targets table document (said_of told)) one

-- The merge is that of two documents, of which `was` and `is` are told. What is kept of the first one's elements is held; what
-- was caught is of the second one, and each element that is not caught is told as before.
pub record TellsOfWalk (table : List CounterStyle) (merge : Merge Node) (old new : Forest (Keyed Node)) (was is caught : List (ℕ × Told)) (held : FinMap nat_cmp Kept) : Type 0 where
  pub merges : Merges merge old new
  pub distinct_before : HasDistinctKeys old
  pub distinct_after : HasDistinctKeys new
  pub once : AreOnce is
  pub named : (key : ℕ) → is_some (kept_at is key) ≡ is_some (name_of new key)
  pub held_are : (key : ℕ) → get held key ≡ option_map (kept_in table old was) (kept_at was key)
  pub covers : Covers caught (first_at was) is
  pub among : AreAmong caught is

-- The elements of `first` refer to ids whose targets are caught, are entered by the merge or are other ones than before, and
-- those of `second` to elements that refer so.
pub record TellsOfEdit (table : List CounterStyle) (merge : Merge Node) (old new : Forest (Keyed Node)) (was is caught : List (ℕ × Told)) (held : FinMap nat_cmp Kept) (visited first second : List ℕ) : Type 0 where
  pub walk : TellsOfWalk table merge old new was is caught held
  pub visited_are : (key : ℕ) → is_among visited key ≡ is_told caught key
  pub first_are : (key : ℕ) → is_among first key ≡ refers (evaluated_as old was) (evaluated_as new is) (visited ++ entered_elements merge) key
  pub second_are : (key : ℕ) → is_among second key ≡ refers_through (evaluated_as old was) (evaluated_as new is) (visited ++ entered_elements merge) key

-- some such edit has made this document
pub record IsSomeEdit (table : List CounterStyle) (new : Forest (Keyed Node)) (caught : List (ℕ × Told)) (held : FinMap nat_cmp Kept) (first second : List ℕ) : Type 0 where
  pub merge : Merge Node
  pub old : Forest (Keyed Node)
  pub was : List (ℕ × Told)
  pub is : List (ℕ × Told)
  pub visited : List ℕ
  pub tells : TellsOfEdit table merge old new was is caught held visited first second

-- Some walk from these stops has told of this document, which an edit made of one of whose ids these were the targets; the index
-- has the references of its elements.
pub record IsSomeWalk (table : List CounterStyle) (index : Index) (former : List FormerTarget) (stops : List Stop) (new : Forest (Keyed Node)) (caught : List (ℕ × Told)) (held : FinMap nat_cmp Kept) : Type 0 where
  pub merge : Merge Node
  pub old : Forest (Keyed Node)
  pub was : List (ℕ × Told)
  pub is : List (ℕ × Told)
  pub tells : TellsOfWalk table merge old new was is caught held
  pub stops_are : stops ≡ stops_of is_element 0 merge
  pub former_are : AreFormerTargets former (evaluated_as old was) (evaluated_as new is)
  pub refers : TellsReferences index (evaluated_as new is)
