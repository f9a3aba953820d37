-- The laws, each by its name.
use Rattle.std.proofs.Common.{◌≡◌, ℕ, true, ap, subst, ◌∙◌, None}
use Rattle.forest.specs.Forest.{Forest}
use Rattle.forest.specs.Keys.{Keyed}
use Rattle.plain_types.specs.declared.node.Node.{Node}
use Rattle.node_arena.specs.Edits.{edited_sheet}
use Rattle.mini_cascade.specs.Styles.{element_style}
use Rattle.box_eval.specs.Evaluation.{styled_trees}
use Rattle.merged_walk.specs.Merges.{Merge, End, Kept, Turned, Gone, Come, new_of, old_of}
use Rattle.style_reach.specs.Laws.{IsUntouched}
use Rattle.style_reach.specs.Reaches.{all_features, reach}
use Rattle.style_reach.specs.declared.extent.Reach.{Reach}
use Rattle.style_reach.specs.declared.extent.Reach.TheVariants.{All}
use Rattle.edit_merge.specs.EditMerges.{edit_merge, is_element}
use Rattle.styled_merge.specs.StyledMerges.{Styling}
use Rattle.styled_merge.specs.Stays.{HandsSameStyle, HasSameStyle, IsUnturned, OfEachKept, OfEachTurned}
use Rattle.styled_merge.specs.Reached.{begins_at, reached_merge}
use Rattle.styled_merge.specs.Laws.{AllIsLed, AreStyledBy, BoxStartsAreEnough, DocumentsStyleMerges, IsOutside, KeptAreOutside, KeptAreUntouched, KeptHaveSameStyles, NewForestsAreStyled, OldForestsAreStyled, OwnKeepsStyles, OwnReachesNothing, OwnStylesDocuments, OwnStylesMerges, ReachedKeepLevels, ReachedMerge, SheetsStyleMerges, StartsAreTheirOwn, StyledMergesKeepShape, looks_beside, style_beside}
use Rattle.styled_merge.proofs.ShapeLaws.{has-shape}
use Rattle.styled_merge.proofs.StyledForests.{new-styled, old-styled}
use Rattle.styled_merge.proofs.KeptCounts.{each}
use Rattle.styled_merge.proofs.ReachedLaws.{new-reached, old-reached}
use Rattle.styled_merge.proofs.ReachedLevels.{all-led, leaves-reached, led-reached}
use Rattle.styled_merge.proofs.StartLaws.{starts-by-boxes, starts-same}
use Rattle.styled_merge.proofs.KeptLaws.{new-whole, old-whole, outside, own-reached, same-document_style, same-style, unturned-whole, untouched}

pub old_forests_are_styled : OldForestsAreStyled
old_forests_are_styled old new was_start start parent merge = old-styled old new was_start start merge parent

pub new_forests_are_styled : NewForestsAreStyled
new_forests_are_styled old new was_start start parent merge stays = new-styled old new was_start start parent merge stays

pub styled_merges_keep_shape : StyledMergesKeepShape
styled_merges_keep_shape old new was_start start parent merge = has-shape old new was_start start parent merge

pub reached_merge_has_forests : ReachedMerge
reached_merge_has_forests is_reached merge old new merges =
    record { old = old-reached is_reached merge ∙ merges.old; new = new-reached is_reached merge ∙ merges.new }

pub box_starts_are_enough : BoxStartsAreEnough
box_starts_are_enough new was_start start key same = starts-by-boxes was_start start new key same

pub starts_are_their_own : StartsAreTheirOwn
starts_are_their_own new start merge = starts-same new start merge

pub reached_keep_levels : ReachedKeepLevels
reached_keep_levels is_reached merge = record { leaves = leaves-reached is_element is_reached merge; all_led = led-reached is_reached merge }

all-reached : (o : Reach) → o ≡ All → (key : ℕ) → begins_at o key ≡ true
all-reached o is key = ap (λ o. begins_at o key) is

pub all_is_led : AllIsLed
all_is_led features edit old new is = all-led (begins_at (reach features old edit)) (all-reached (reach features old edit) is) (edit_merge edit old new)

pub kept_are_untouched : KeptAreUntouched
kept_are_untouched edit old new edits merges features =
    each (IsUntouched features edit old) (reached_merge features edit old new) (untouched edit old new edits merges features)

pub kept_are_outside : KeptAreOutside
kept_are_outside edit old new edits merges features distinct =
    each (IsOutside features edit old new) (reached_merge features edit old new) (λ q kept. outside edit old new edits merges features q kept distinct)

pub own_reaches_nothing : OwnReachesNothing
own_reaches_nothing edit old new edits merges features own = own-reached features edit old new own

pub kept_have_same_styles : KeptHaveSameStyles
kept_have_same_styles edit old new edits merges agent author =
    each (HasSameStyle (element_style old agent author) (element_style new agent author)) (reached_merge (all_features agent author) edit old new)
    (same-style edit old new edits merges agent author)

-- where no node is turned, anything holds of those that are
no-turned : (Holds : (was node : Keyed Node) → Type 0) (m : Merge Node) → IsUnturned m → OfEachTurned Holds m
no-turned Holds End h = tt
no-turned Holds (Kept n c r) h = (no-turned Holds c h.0, no-turned Holds r h.1)
no-turned Holds (Turned was n c r) h = absurd h.0
no-turned Holds (Gone n c r) h = no-turned Holds r h
no-turned Holds (Come n c r) h = no-turned Holds r h

-- the two forests of a merge whose elements keep their styles
pub styled-both : (old_style new_style : Styling) (old new : Forest (Keyed Node)) (m : Merge Node) → old_of m ≡ old → new_of m ≡ new → IsUnturned m
    → OfEachKept (HasSameStyle old_style new_style) m → AreStyledBy old_style new_style old new m
styled-both old_style new_style old new m was is unturned styles was_start start starts = record {
  old = old-styled old_style new_style was_start start m None ∙ ap (styled_trees old_style was_start None) was;
  new =
      new-styled old_style new_style was_start start None m
      (record { styles = styles; starts = starts; turned = no-turned (HandsSameStyle old_style new_style was_start start) m unturned })
      ∙ ap (styled_trees new_style start None) is;
}

pub sheets_style_merges : SheetsStyleMerges
sheets_style_merges edit old new edits merges agent author =
    let looks = all_features agent author in
    styled-both (element_style old agent author) (element_style new agent author) old new (reached_merge looks edit old new)
    (old-whole edit old new edits merges looks) (new-whole edit old new edits merges looks) (unturned-whole edit old new edits merges looks)
    (kept_have_same_styles edit old new edits merges agent author)

pub documents_style_merges : DocumentsStyleMerges
documents_style_merges edit old new edits merges sheet_text =
    let looks = looks_beside sheet_text old in
    let whole = reached_merge looks edit old new in
    let before = style_beside sheet_text old in
    let after = style_beside (edited_sheet edit sheet_text) new in
    styled-both before after old new whole
    (old-whole edit old new edits merges looks) (new-whole edit old new edits merges looks) (unturned-whole edit old new edits merges looks)
    (each (HasSameStyle before after) whole (same-document_style edit old new edits merges sheet_text))

pub own_keeps_styles : OwnKeepsStyles
own_keeps_styles edit old new edits merges agent author own =
    subst (OfEachKept (HasSameStyle (element_style old agent author) (element_style new agent author)))
    (own-reached (all_features agent author) edit old new own) (kept_have_same_styles edit old new edits merges agent author)

pub own_styles_merges : OwnStylesMerges
own_styles_merges edit old new edits merges agent author own =
    subst (AreStyledBy (element_style old agent author) (element_style new agent author) old new)
    (own-reached (all_features agent author) edit old new own) (sheets_style_merges edit old new edits merges agent author)

pub own_styles_documents : OwnStylesDocuments
own_styles_documents edit old new edits merges sheet_text own =
    subst (AreStyledBy (style_beside sheet_text old) (style_beside (edited_sheet edit sheet_text) new) old new)
    (own-reached (looks_beside sheet_text old) edit old new own) (documents_style_merges edit old new edits merges sheet_text)
