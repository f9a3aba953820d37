-- Of what a walk has told of a document that an edit made of another one: what can be told otherwise than before (our own).
use Rattle.std.specs.Prelude.{◌≡◌, ◌≤◌, ◌+◌, ◌⊎◌, ℕ, nat_eq, Bool, true, false, not, ◌&&◌, ◌||◌, All, List, Some, None, filter, is_some, length}
use Rattle.std.specs.FinMap.{FinMap, get}
use Rattle.std.specs.List.{IsDistinct}
use Rattle.std.specs.Option.{option_eq, option_map_or}
use Rattle.std.specs.Ordering.{nat_cmp}
use Rattle.forest.specs.Forest.{Forest}
use Rattle.forest.specs.Keys.{Keyed, without_keys}
use Rattle.plain_types.specs.declared.counter_style.CounterStyle.{CounterStyle}
use Rattle.plain_types.specs.declared.node.Node.{Node}
use Rattle.node_arena.specs.Nodes.{name_of}
use Rattle.document_walk.specs.Elements.{element_count}
use Rattle.generated_texts.specs.References.{kept_at}
use Rattle.merged_walk.specs.Merges.{Merge, new_of, old_of}
use Rattle.merged_walk.specs.declared.stop.Stop.{Stop}
use Rattle.merged_walk.specs.Stops.{stops_of}
use Rattle.surroundings.specs.declared.told.Told.{Told}
use Rattle.surroundings.specs.declared.walked.Walked.{Walked}
use Rattle.surroundings.specs.Laws.{told_document}
use Rattle.surroundings.specs.Surroundings.{is_same}
use Rattle.edit_merge.specs.EditMerges.{is_element}
use Rattle.edit_work.specs.KeyedSources.{is_among}
use Rattle.edit_work.specs.Work.{work}
use Rattle.styled_merge.specs.StyledMerges.{Starting, Styling, styled_merge}
use Rattle.reference_reach.specs.MergedNodes.{elements_at_stops, entered_elements}
use Rattle.reference_reach.specs.ToldLaws.{OfEachUnstartedEdit, told_of, whole_merge}
use Rattle.referring_elements.specs.References.{AreOnce}
use Rattle.kept_elements.specs.declared.kept.Kept.{Kept}
use Rattle.kept_elements.specs.RenewalSteps.{renewal_weight}
use Rattle.kept_elements.specs.Renewals.{TellsOfWalk, evaluated_as}

-- an element was handed the same, and the same was handed on behind its children
abbrev pub is_handed_so : Walked → Walked → Bool
is_handed_so one other = option_eq is_same one.handed other.handed && option_eq is_same one.behind other.behind

-- as is held of the element of this key
abbrev pub is_handed_as_held : FinMap nat_cmp Kept → ℕ → Walked → Bool
is_handed_as_held held key walked = option_map_or (λ (kept : Kept). is_handed_so kept.walked walked) (get held key) false

-- the element is one of those that a merge enters, or something else is handed than is held of it
abbrev pub is_news : (entered : List ℕ) → FinMap nat_cmp Kept → ℕ × Told → Bool
is_news entered held element = is_among entered element.0 || not (is_handed_as_held held element.0 element.1.walked)

-- of what was told, that of elements which the merge does not enter
abbrev pub passed_among : (entered : List ℕ) → (told : List (ℕ × Told)) → List (ℕ × Told)
passed_among entered told = filter (λ (element : ℕ × Told). not (is_among entered element.0)) told

-- an element that the merge does not enter is told as before, where the same is handed as before
abbrev pub KeepsTold : Merge Node → (was is : List (ℕ × Told)) → Type 0
KeepsTold merge was is =
    (key : ℕ) (before now : Told) → kept_at was key ≡ Some before → kept_at is key ≡ Some now → is_among (entered_elements merge) key ≡ false
    → before.walked ≡ now.walked → before ≡ now

-- This is enough of what was caught, and the merge enters each of these elements, or it was told otherwise.
pub record TellsNews (table : List CounterStyle) (merge : Merge Node) (old new : Forest (Keyed Node)) (was is news : List (ℕ × Told)) (held : FinMap nat_cmp Kept) : Type 0 where
  pub tells : TellsOfWalk table merge old new was is news held
  pub each : All (λ (element : ℕ × Told). (is_among (entered_elements merge) element.0 ≡ true) ⊎ (kept_at was element.0 ≡ Some element.1 → ⊥)) news

-- it is so wherever these are the stops of a walk that caught that
abbrev pub AreNewsOf : List Stop → Forest (Keyed Node) → (caught : List (ℕ × Told)) → FinMap nat_cmp Kept → (news : List (ℕ × Told)) → Type 0
AreNewsOf stops new caught held news =
    (table : List CounterStyle) (merge : Merge Node) (old : Forest (Keyed Node)) (was is : List (ℕ × Told)) → stops ≡ stops_of is_element 0 merge → KeepsTold merge was is
    → TellsOfWalk table merge old new was is caught held → TellsNews table merge old new was is news held

-- A merge whose nodes are given styles and starts keeps told so, by one table of counter styles, where each element of the old
-- document is told once.
abbrev pub StyledMergesKeepTold : Type 0
StyledMergesKeepTold =
    (table : List CounterStyle) (old new : Styling) (was_start start : Starting) (merge : Merge Node) →
    let whole = styled_merge old new was_start start None merge in
    AreOnce (told_document table (old_of whole)) → KeepsTold merge (told_document table (old_of whole)) (told_document table (new_of whole))

-- Of what the walk from these stops caught, no more is of elements that the merge does not enter than elements of the old document
-- stay: with those that go, each once, they are no more than it has. What was told before is of its elements, and no more was caught
-- than the new document has elements.
abbrev pub PassedElementsStay : Type 0
PassedElementsStay =
    (stops : List Stop) (table : List CounterStyle) (merge : Merge Node) (old new : Forest (Keyed Node)) (was is caught : List (ℕ × Told)) (held : FinMap nat_cmp Kept) →
    stops ≡ stops_of is_element 0 merge → TellsOfWalk table merge old new was is caught held
    → ((key : ℕ) → is_some (kept_at was key) ≡ is_some (name_of old key)) → length caught ≤ element_count (without_keys new)
    → (gone : List ℕ) → IsDistinct nat_eq gone
    → ((key : ℕ) → is_among gone key ≡ true → (is_some (name_of old key) ≡ true) × (is_some (name_of new key) ≡ false))
    → length (passed_among (elements_at_stops new stops) caught) + length gone ≤ element_count (without_keys old)

-- Of an edit that does not change styles everywhere, of documents that are told the same with all starts 0: the work of the edit
-- pays for the texts that are made again by the news.
abbrev pub NewsArePaid : Type 0
NewsArePaid =
    OfEachUnstartedEdit (λ edit before after. (table : List CounterStyle) (news : List (ℕ × Told)) (held : FinMap nat_cmp Kept) →
    let merge = whole_merge edit before after in
    TellsNews table merge before.tree after.tree (told_of before) (told_of after) news held
    → renewal_weight (evaluated_as before.tree (told_of before)) (evaluated_as after.tree (told_of after)) merge news ≤ work edit before after)
