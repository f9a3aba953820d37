-- Laws of merges with the styles of their elements: their forests, their shape, and that what an edit leaves alone
-- keeps its styles.
use Rattle.std.specs.Prelude.{◌≡◌, ℕ, Bool, false, List, Option, None, IfSome}
use Rattle.forest.specs.Forest.{Forest}
use Rattle.forest.specs.Keys.{Keyed, HasDistinctKeys}
use Rattle.plain_types.specs.declared.edit.Edit.{Edit}
use Rattle.plain_types.specs.declared.node.Node.{Node}
use Rattle.plain_types.specs.declared.sheet.Features.{Features}
use Rattle.plain_types.specs.declared.sheet.Sheet.{Sheet}
use Rattle.plain_types.specs.declared.style.Style.{Style}
use Rattle.node_arena.specs.Edits.{edited_sheet}
use Rattle.mini_cascade.specs.Styles.{element_style}
use Rattle.box_eval.specs.Evaluation.{StyledNode, styled, styled_trees}
use Rattle.generated_texts.specs.Documents.{agent_sheet, document_style}
use Rattle.generated_texts.specs.StyleElements.{author_sheet}
use Rattle.merged_walk.specs.Merges.{Merge, has_place, new_of, old_of}
use Rattle.merged_walk.specs.Stops.{stops_of}
use Rattle.merged_walk.specs.Counts.{come_count, gone_count, led_count, place_count}
use Rattle.merged_walk.specs.Laws.{Merges}
use Rattle.surroundings.specs.MergedLevels.{AreAllLed, HasLeaves}
use Rattle.surroundings.specs.StyledEvaluators.{is_element as is_styled_element}
use Rattle.edit_merge.specs.EditMerges.{edit_merge, is_element}
use Rattle.style_reach.specs.Ancestors.{is_within}
use Rattle.style_reach.specs.Laws.{Edits, IsBeyond, IsUntouched, edited_node}
use Rattle.style_reach.specs.Reaches.{all_features, reach}
use Rattle.style_reach.specs.declared.extent.Reach.TheVariants.{Own, All}
use Rattle.styled_merge.specs.StyledMerges.{Starting, Styling, styled_merge}
use Rattle.styled_merge.specs.Stays.{HasSameBoxStarts, HasSameStarts, HasSameStyle, OfEachKept, StaysStyled}
use Rattle.styled_merge.specs.Reached.{reached, reached_merge}

-- Any merge.

-- a law of a merge with styles and starts, where the parent of its level has a style
abbrev pub OfStyledMerges : ((old new : Styling) (was_start start : Starting) (parent : Option Style) (merge : Merge Node) → Type 0) → Type 0
OfStyledMerges law =
    (old new : Styling) (was_start start : Starting) (parent : Option Style) (merge : Merge Node) → law old new was_start start parent merge

-- the old forest has the old styles and starts
abbrev pub OldForestsAreStyled : Type 0
OldForestsAreStyled =
    OfStyledMerges (λ old new was_start start parent merge.
    old_of (styled_merge old new was_start start parent merge) ≡ styled_trees old was_start parent (old_of merge))

-- the new forest has the new ones, where what stays has the same
abbrev pub NewForestsAreStyled : Type 0
NewForestsAreStyled =
    OfStyledMerges (λ old new was_start start parent merge.
    StaysStyled old new was_start start merge
    → new_of (styled_merge old new was_start start parent merge) ≡ styled_trees new start parent (new_of merge))

-- a merge of styled nodes has the shape of a merge of nodes: a walk stops at the same places, and finds as much there
pub record HasShape (styled : Merge StyledNode) (merge : Merge Node) : Type 0 where
  pub stops : (depth : ℕ) → stops_of is_styled_element depth styled ≡ stops_of is_element depth merge
  pub has_place : has_place styled ≡ has_place merge
  pub led : led_count styled ≡ led_count merge
  pub places : place_count styled ≡ place_count merge
  pub gone : gone_count is_styled_element styled ≡ gone_count is_element merge
  pub come : come_count is_styled_element styled ≡ come_count is_element merge
  pub leaves : HasLeaves is_element merge → HasLeaves is_styled_element styled
  pub all_led : AreAllLed merge → AreAllLed styled

abbrev pub StyledMergesKeepShape : Type 0
StyledMergesKeepShape =
    OfStyledMerges (λ old new was_start start parent merge. HasShape (styled_merge old new was_start start parent merge) merge)

-- Starts are the same where those of every box are, and where both documents are given the same starts.

abbrev pub BoxStartsAreEnough : Type 0
BoxStartsAreEnough =
    (new : Styling) (was_start start : Starting) (key : ℕ) → HasSameBoxStarts was_start start key → HasSameStarts new was_start start key

abbrev pub StartsAreTheirOwn : Type 0
StartsAreTheirOwn = (new : Styling) (start : Starting) (merge : Merge Node) → OfEachKept (HasSameStarts new start start) merge

-- What is reached goes and comes.

-- the forests are the merge's
abbrev pub ReachedMerge : Type 0
ReachedMerge =
    (is_reached : ℕ → Bool) (merge : Merge Node) (old new : Forest (Keyed Node)) → Merges merge old new → Merges (reached is_reached merge) old new

-- what a walk asks of the merge stands
pub record KeepsLevels (changed merge : Merge Node) : Type 0 where
  pub leaves : HasLeaves is_element merge → HasLeaves is_element changed
  pub all_led : AreAllLed merge → AreAllLed changed

abbrev pub ReachedKeepLevels : Type 0
ReachedKeepLevels = (is_reached : ℕ → Bool) (merge : Merge Node) → KeepsLevels (reached is_reached merge) merge

-- Merges of edits.

-- a law of an edit of a document, whose merge is that of the document before and after it
abbrev pub OfEdits : (Edit → (old new : Forest (Keyed Node)) → Type 0) → Type 0
OfEdits law =
    (edit : Edit) (old new : Forest (Keyed Node)) → Edits edit old new → Merges (edit_merge edit old new) old new → law edit old new

-- what is kept where the reach goes and comes is untouched
abbrev pub KeptAreUntouched : Type 0
KeptAreUntouched =
    OfEdits (λ edit old new. (features : Features) → OfEachKept (IsUntouched features edit old) (reached_merge features edit old new))

-- And in the document after the edit too it is neither in the edited tree nor where the edit reaches. It says nothing of
-- the tree that an insertion puts in: no node of the document before is edited there.
pub record IsOutside (features : Features) (edit : Edit) (old new : Forest (Keyed Node)) (key : ℕ) : Type 0 where
  pub outside : IfSome (edited_node edit old) (λ top. is_within new top key ≡ false)
  pub beyond : IsBeyond (reach features old edit) new key

abbrev pub KeptAreOutside : Type 0
KeptAreOutside =
    OfEdits (λ edit old new. (features : Features) → HasDistinctKeys new
    → OfEachKept (IsOutside features edit old new) (reached_merge features edit old new))

-- where an edit reaches no more than the edited trees, nothing else goes and comes
abbrev pub OwnReachesNothing : Type 0
OwnReachesNothing =
    OfEdits (λ edit old new. (features : Features) → reach features old edit ≡ Own → reached_merge features edit old new ≡ edit_merge edit old new)

-- where it reaches everywhere, no root is kept that a walk may skip
abbrev pub AllIsLed : Type 0
AllIsLed = (features : Features) (edit : Edit) (old new : Forest (Keyed Node)) → reach features old edit ≡ All → AreAllLed (reached_merge features edit old new)

-- Under any two sheets what is kept has the same styles in both documents.
abbrev pub KeptHaveSameStyles : Type 0
KeptHaveSameStyles =
    OfEdits (λ edit old new. (agent author : Sheet)
    → OfEachKept (HasSameStyle (element_style old agent author) (element_style new agent author)) (reached_merge (all_features agent author) edit old new))

-- a merge with styles and starts is that of two documents with theirs, where what is kept has the same starts in both
abbrev pub AreStyledBy : (old_style new_style : Styling) (old new : Forest (Keyed Node)) → Merge Node → Type 0
AreStyledBy old_style new_style old new merge =
    (was_start start : Starting) → OfEachKept (HasSameStarts new_style was_start start) merge
    → Merges (styled_merge old_style new_style was_start start None merge) (styled old_style was_start old) (styled new_style start new)

abbrev pub SheetsStyleMerges : Type 0
SheetsStyleMerges =
    OfEdits (λ edit old new. (agent author : Sheet)
    → AreStyledBy (element_style old agent author) (element_style new agent author) old new (reached_merge (all_features agent author) edit old new))

-- the styles of a document that has this style sheet beside it
abbrev pub style_beside : (sheet_text : List ℕ) → Forest (Keyed Node) → Styling
style_beside sheet_text document = document_style (author_sheet sheet_text document) document

-- what the selectors of the user agent look at, and those of a document's author
abbrev pub looks_beside : (sheet_text : List ℕ) → Forest (Keyed Node) → Features
looks_beside sheet_text document = all_features agent_sheet (author_sheet sheet_text document)

-- the same of the two documents with the sheets of their author
abbrev pub DocumentsStyleMerges : Type 0
DocumentsStyleMerges =
    OfEdits (λ edit old new. (sheet_text : List ℕ)
    → AreStyledBy (style_beside sheet_text old) (style_beside (edited_sheet edit sheet_text) new) old new
    (reached_merge (looks_beside sheet_text old) edit old new))

-- Where the edit reaches no more than the edited trees, all this holds of its own merge.

abbrev pub OwnKeepsStyles : Type 0
OwnKeepsStyles =
    OfEdits (λ edit old new. (agent author : Sheet) → reach (all_features agent author) old edit ≡ Own
    → OfEachKept (HasSameStyle (element_style old agent author) (element_style new agent author)) (edit_merge edit old new))

abbrev pub OwnStylesMerges : Type 0
OwnStylesMerges =
    OfEdits (λ edit old new. (agent author : Sheet) → reach (all_features agent author) old edit ≡ Own
    → AreStyledBy (element_style old agent author) (element_style new agent author) old new (edit_merge edit old new))

abbrev pub OwnStylesDocuments : Type 0
OwnStylesDocuments =
    OfEdits (λ edit old new. (sheet_text : List ℕ) → reach (looks_beside sheet_text old) old edit ≡ Own
    → AreStyledBy (style_beside sheet_text old) (style_beside (edited_sheet edit sheet_text) new) old new (edit_merge edit old new))
