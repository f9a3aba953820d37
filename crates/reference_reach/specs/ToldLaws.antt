-- Laws of what the evaluation tells of elements under an edit: which of them an edit can change, and that a walk which finds
-- them leads from one document to the other.
use Rattle.std.specs.Prelude.{◌≡◌, ◌≢◌, ℕ, ℤ, true, false, All, List, ◌++◌, Some, map}
use Rattle.forest.specs.Keys.{HasDistinctKeys}
use Rattle.plain_types.specs.declared.box_id.BoxId.{BoxId}
use Rattle.plain_types.specs.declared.edit.Edit.{Edit}
use Rattle.plain_types.specs.declared.node.Node.{Node}
use Rattle.box_eval.specs.Starts.{no_starts}
use Rattle.generated_texts.specs.Documents.{agent_sheet}
use Rattle.generated_texts.specs.References.{kept_at}
use Rattle.merged_walk.specs.Entries.{AreAmong, Covers}
use Rattle.merged_walk.specs.Laws.{Merges}
use Rattle.merged_walk.specs.Merges.{Merge}
use Rattle.surroundings.specs.declared.told.Told.{Told}
use Rattle.surroundings.specs.Laws.{told_document}
use Rattle.style_reach.specs.Reaches.{all_features}
use Rattle.style_reach.specs.declared.extent.Reach.TheVariants.{All as Everywhere}
use Rattle.styled_merge.specs.Reached.{reached_merge}
use Rattle.edit_work.specs.Inputs.{differ_at}
use Rattle.edit_work.specs.KeyedSources.{KeyedSource, author, inputs_with, is_among, own_starts, styled_with, table}
use Rattle.edit_work.specs.Laws.{OfEachEdit}
use Rattle.edit_work.specs.ReachedLaws.{ReachedMergesWith}
use Rattle.edit_work.specs.Work.{edit_reach}
use Rattle.reference_reach.specs.Laws.{IsPaidByReferring, LeadsBy, evaluated, other_points}
use Rattle.reference_reach.specs.MergedNodes.{entered_elements}

-- what the evaluation with these starts tells of the elements of a document, under their keys
abbrev pub told_with : KeyedSource → (BoxId → List ℕ → ℤ) → List (ℕ × Told)
told_with source start = told_document (table source) (styled_with source start)

-- with the starts that the document has
abbrev pub told_of : KeyedSource → List (ℕ × Told)
told_of source = told_with source (own_starts source)

abbrev pub keys_of : List (ℕ × Told) → List ℕ
keys_of told = map (λ (element : ℕ × Told). element.0) told

module _ (edit : Edit) (before after : KeyedSource) where
  -- the merge of the edit, in which what it reaches goes and comes
  abbrev pub whole_merge : Merge Node
  whole_merge = reached_merge (all_features agent_sheet (author before)) edit before.tree after.tree

  -- An element that the merge does not enter, and that has with these starts the inputs that it had: a walk may pass it.
  pub record IsPassed (was_start start : BoxId → List ℕ → ℤ) (key : ℕ) : Type 0 where
    pub apart : is_among (entered_elements whole_merge) key ≡ false
    pub inputs : differ_at (inputs_with before was_start) (inputs_with after start) key ≡ false

-- An edit that does not change styles everywhere, where the elements that are kept have these starts before and after it.
abbrev pub OfEachStartedEdit : (Edit → (before after : KeyedSource) → (was_start start : BoxId → List ℕ → ℤ) → Type 0) → Type 0
OfEachStartedEdit law =
    OfEachEdit (λ edit before after. edit_reach edit before after ≢ Everywhere
    → (was_start start : BoxId → List ℕ → ℤ) → ReachedMergesWith edit before after was_start start → law edit before after was_start start)

-- what is told of an element that a walk may pass was told before
abbrev pub PassedAreToldTheSame : Type 0
PassedAreToldTheSame =
    OfEachStartedEdit (λ edit before after was_start start. (key : ℕ) (told : Told) → kept_at (told_with after start) key ≡ Some told
    → IsPassed edit before after was_start start key → kept_at (told_with before was_start) key ≡ Some told)

-- Changes.

-- Such an edit, where the elements that are kept have the same starts in both documents, each with its own; or where both
-- documents are told the same with all starts 0, as where no element asks for the start of a reversed counter.
abbrev pub OfEachOwnEdit : (Edit → (before after : KeyedSource) → Type 0) → Type 0
OfEachOwnEdit law =
    OfEachEdit (λ edit before after. edit_reach edit before after ≢ Everywhere
    → ReachedMergesWith edit before after (own_starts before) (own_starts after) → law edit before after)

abbrev pub OfEachUnstartedEdit : (Edit → (before after : KeyedSource) → Type 0) → Type 0
OfEachUnstartedEdit law =
    OfEachEdit (λ edit before after. edit_reach edit before after ≢ Everywhere
    → told_with before no_starts ≡ told_of before → told_with after no_starts ≡ told_of after → law edit before after)

module _ (edit : Edit) (before after : KeyedSource) where
  -- an element of which something else is told than before falls under a point of the edit's work that is not that of
  -- references
  abbrev pub HasChangesInPoints : Type 0
  HasChangesInPoints =
      (key : ℕ) (told : Told) → kept_at (told_of after) key ≡ Some told → (kept_at (told_of before) key ≡ Some told → ⊥)
      → is_among (other_points edit before after) key ≡ true

  -- each of these is told of the second document, and was not told of the first
  pub record AreNews (changes : List (ℕ × Told)) : Type 0 where
    pub told : AreAmong changes (told_of after)
    pub others : All (λ (change : ℕ × Told). kept_at (told_of before) change.0 ≡ Some change.1 → ⊥) changes

  -- the elements that refer to what such changes and the merge's places touch, and those that refer to these, weigh no more
  -- than the point of references
  abbrev pub PaysForNews : Type 0
  PaysForNews = (changes : List (ℕ × Told)) → AreNews changes → IsPaidByReferring edit before after (keys_of changes ++ entered_elements (whole_merge edit before after))

  pub record TellsChanges : Type 0 where
    pub points : HasChangesInPoints
    pub paid : PaysForNews

abbrev pub ChangesAreTold : Type 0
ChangesAreTold = OfEachOwnEdit TellsChanges

abbrev pub UnstartedChangesAreTold : Type 0
UnstartedChangesAreTold = OfEachUnstartedEdit TellsChanges

-- changes that cover what is told of the second document, where all that was told of the first is known, lead from one to
-- the other
abbrev pub ChangesLead : Type 0
ChangesLead =
    (merge : Merge Node) (before after : KeyedSource) → HasDistinctKeys before.tree → HasDistinctKeys after.tree → Merges merge before.tree after.tree
    → (changes : List (ℕ × Told)) → Covers changes (kept_at (told_of before)) (told_of after)
    → LeadsBy merge (keys_of changes) (evaluated before) (evaluated after)
