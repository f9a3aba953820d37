-- Laws of references under an edit: which targets stay, and so which texts do.
use Rattle.std.specs.Prelude.{◌≡◌, ◌≢◌, ◌+◌, ◌≤◌, ◌||◌, ℕ, Bool, true, false, List, ◌++◌, IsSome, filter, sum_by}
use Rattle.forest.specs.Forest.{Forest}
use Rattle.forest.specs.Keys.{Keyed, HasDistinctKeys}
use Rattle.forest.specs.Spots.{IsLive, children_of}
use Rattle.plain_types.specs.declared.counter_style.CounterStyle.{CounterStyle}
use Rattle.plain_types.specs.declared.edit.Edit.{Edit}
use Rattle.plain_types.specs.declared.node.Node.{Node}
use Rattle.node_arena.specs.Nodes.{name_of}
use Rattle.content_eval.specs.declared.generated.Piece.{Piece}
use Rattle.content_eval.specs.Targets.{flat_text, full_text}
use Rattle.content_eval.specs.TargetLaws.{AgreeBelow, AgreeOn, OfEachReference}
use Rattle.generated_texts.specs.Documents.{agent_sheet}
use Rattle.generated_texts.specs.References.{characters_in, first_holder, kept_at}
use Rattle.merged_walk.specs.Laws.{Merges}
use Rattle.merged_walk.specs.Merges.{Merge}
use Rattle.merged_walk.specs.Stops.{stops_of}
use Rattle.edit_merge.specs.EditMerges.{is_element}
use Rattle.style_reach.specs.Reaches.{all_features}
use Rattle.style_reach.specs.declared.extent.Reach.TheVariants.{All}
use Rattle.styled_merge.specs.Reached.{reached_merge}
use Rattle.edit_work.specs.KeyedSources.{KeyedSource, author, elements_in, is_among, records, weight}
use Rattle.edit_work.specs.Laws.{OfEachEdit}
use Rattle.edit_work.specs.Work.{around_places, differing, edit_reach, in_scopes, placed, referring}
use Rattle.reference_reach.specs.MergedNodes.{IsLeftAlone, elements_at_stops, entered_elements}
use Rattle.reference_reach.specs.ChangedTargets.{Evaluated, entries_in, has_changed_target, has_referring_target, known_in, refers, refers_through}

-- Trees.

-- a law of two forests and a merge of which they are the old and the new one
abbrev pub OfEachMerge : (Merge Node → (old new : Forest (Keyed Node)) → Type 0) → Type 0
OfEachMerge law = (merge : Merge Node) (old new : Forest (Keyed Node)) → Merges merge old new → law merge old new

-- an id that an edit leaves alone has the same target
abbrev pub TargetsStay : Type 0
TargetsStay = OfEachMerge (λ merge old new. (id : List ℕ) → IsLeftAlone id merge → first_holder new id ≡ first_holder old id)

-- an element that stays and has no place under it has the same trees under it, and so the same characters
pub record HasSameUnder (old new : Forest (Keyed Node)) (key : ℕ) : Type 0 where
  pub trees : children_of new key ≡ children_of old key
  pub characters : characters_in (children_of new key) ≡ characters_in (children_of old key)

abbrev pub TreesUnderStay : Type 0
TreesUnderStay =
    OfEachMerge (λ merge old new. HasDistinctKeys old → HasDistinctKeys new
    → (key : ℕ) → IsSome (name_of new key) → is_among (entered_elements merge) key ≡ false → HasSameUnder old new key)

-- the stops of a merge tell which elements it enters
abbrev pub StopsTellEntered : Type 0
StopsTellEntered = OfEachMerge (λ merge old new. HasDistinctKeys new → entered_elements merge ≡ elements_at_stops new (stops_of is_element 0 merge))

-- and these elements stand in the new forest
abbrev pub EnteredAreLive : Type 0
EnteredAreLive = OfEachMerge (λ merge old new. (key : ℕ) → is_among (entered_elements merge) key ≡ true → IsLive new key)

-- Texts.

-- The merge is that of two documents. What is said of an element of the second one is as before, unless the element is
-- visited.
pub record LeadsBy (merge : Merge Node) (visited : List ℕ) (before after : Evaluated) : Type 0 where
  pub merges : Merges merge before.tree after.tree
  pub distinct_before : HasDistinctKeys before.tree
  pub distinct_after : HasDistinctKeys after.tree
  pub others : (key : ℕ) → IsSome (name_of after.tree key) → is_among visited key ≡ false → kept_at after.said key ≡ kept_at before.said key

-- a law of two such documents under one table of counter styles, of the elements that are visited, and of those that are
-- changed: visited or entered
abbrev pub OfEachPair : (List CounterStyle → (before after : Evaluated) → (visited changed : List ℕ) → Type 0) → Type 0
OfEachPair law =
    (table : List CounterStyle) (merge : Merge Node) (visited : List ℕ) (before after : Evaluated) → LeadsBy merge visited before after
    → law table before after visited (visited ++ entered_elements merge)

-- the same is known of an id without a changed target, its flat texts left out
abbrev pub TargetsAgreeBelow : Type 0
TargetsAgreeBelow =
    OfEachPair (λ table before after visited changed. (id : List ℕ) → has_changed_target before after changed id ≡ false
    → AgreeBelow (known_in table before) (known_in table after) id)

-- neither the id has a changed target, nor one to which its target refers
pub record KeepsTarget (before after : Evaluated) (changed : List ℕ) (id : List ℕ) : Type 0 where
  pub itself : has_changed_target before after changed id ≡ false
  pub through : has_referring_target before after changed id ≡ false

-- then its flat texts are the same too
abbrev pub TargetsAgree : Type 0
TargetsAgree =
    OfEachPair (λ table before after visited changed. (id : List ℕ) → KeepsTarget before after changed id
    → AgreeOn (known_in table before) (known_in table after) id)

-- the flat text of a box none of whose pieces refers to an id with a changed target
abbrev pub FlatTextsStay : Type 0
FlatTextsStay =
    OfEachPair (λ table before after visited changed. (pieces : List Piece)
    → OfEachReference (λ id. has_changed_target before after changed id ≡ false) pieces
    → flat_text table (known_in table before) pieces ≡ flat_text table (known_in table after) pieces)

-- the full text of a box whose pieces refer to ids alone that keep their targets so
abbrev pub FullTextsStay : Type 0
FullTextsStay =
    OfEachPair (λ table before after visited changed. (pieces : List Piece)
    → OfEachReference (KeepsTarget before after changed) pieces
    → full_text table (known_in table before) pieces ≡ full_text table (known_in table after) pieces)

-- Which elements refer to ids with changed targets, and which through these, rests on which elements are changed, however
-- these are listed.
pub record RefersTheSame (before after : Evaluated) (changed listed : List ℕ) (key : ℕ) : Type 0 where
  pub first : refers before after changed key ≡ refers before after listed key
  pub second : refers_through before after changed key ≡ refers_through before after listed key

abbrev pub ReferringRestsOnElements : Type 0
ReferringRestsOnElements =
    (before after : Evaluated) (changed listed : List ℕ) → ((key : ℕ) → is_among changed key ≡ is_among listed key) → (key : ℕ) → RefersTheSame before after changed listed key

-- Entries.

-- the texts of an element are to be made again
abbrev pub is_renewed : (before after : Evaluated) → (visited changed : List ℕ) → ℕ → Bool
is_renewed before after visited changed key =
    is_among visited key || (refers before after changed key || refers_through before after changed key)

-- what is kept of each other element is as before
abbrev pub EntriesStay : Type 0
EntriesStay =
    OfEachPair (λ table before after visited changed. (key : ℕ) → IsSome (name_of after.tree key)
    → is_renewed before after visited changed key ≡ false
    → kept_at (entries_in table after) key ≡ kept_at (entries_in table before) key)

-- Work.

-- a document under its sheet, as it is evaluated
abbrev pub evaluated : KeyedSource → Evaluated
evaluated source = record { tree = source.tree; said = records source }

-- the elements of a document of which this holds, in tree order
abbrev pub elements_where : (ℕ → Bool) → KeyedSource → List ℕ
elements_where are source = filter are (elements_in source.tree)

-- the points of an edit's work but for the last, which is that of references
abbrev pub other_points : Edit → (before after : KeyedSource) → List ℕ
other_points edit before after = placed edit before after ++ (differing edit before after ++ (in_scopes edit before after ++ around_places edit before after))

-- The elements that refer to what these changed elements are the targets of, and those that refer to such elements, weigh no
-- more than the point of references.
abbrev pub IsPaidByReferring : Edit → (before after : KeyedSource) → (changed : List ℕ) → Type 0
IsPaidByReferring edit before after changed =
    let old : Evaluated = evaluated before in
    let new : Evaluated = evaluated after in
    let w : ℕ → ℕ = weight before after in
    (sum_by w (elements_where (refers old new changed) after) + sum_by w (elements_where (refers_through old new changed) after)) ≤ sum_by w (referring edit before after)

-- So it is where each changed element falls under another point of an edit's work.
abbrev pub ReferringIsPaid : Type 0
ReferringIsPaid =
    (edit : Edit) (before after : KeyedSource) (changed : List ℕ) → HasDistinctKeys after.tree
    → ((key : ℕ) → IsSome (name_of after.tree key) → is_among changed key ≡ true → is_among (other_points edit before after) key ≡ true)
    → IsPaidByReferring edit before after changed

-- Where an edit does not reach everywhere, what its merge enters falls under "placed" or "around places", once what it
-- reaches goes and comes.
abbrev pub EnteredArePlaced : Type 0
EnteredArePlaced =
    OfEachEdit (λ edit before after. edit_reach edit before after ≢ All
    → (key : ℕ) → is_among (entered_elements (reached_merge (all_features agent_sheet (author before)) edit before.tree after.tree)) key ≡ true
    → is_among (placed edit before after ++ around_places edit before after) key ≡ true)
