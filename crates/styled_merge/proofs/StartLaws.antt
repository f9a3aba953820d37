-- The starts of an element are those of its boxes.
use Rattle.std.proofs.Common.{◌≡◌, ◌&&◌, ℕ, List, cond, [], ◌++◌, not, map, refl}
use Rattle.std.specs.Prelude.{filter, is_some}
use Rattle.plain_types.specs.declared.box_id.BoxId.{BoxId}
use Rattle.plain_types.specs.declared.box_kind.BoxKind.TheVariants as kind
use Rattle.plain_types.specs.declared.node.Node.{Node}
use Rattle.plain_types.specs.declared.style.ResetOp.{ResetOp}
use Rattle.plain_types.specs.declared.style.ElementStyle.{ElementStyle}
use Rattle.plain_types.specs.declared.style.Style.{Style}
use Rattle.box_eval.specs.Boxes.{box_of, generates_box, has_pseudo_box}
use Rattle.box_eval.specs.Evaluation.{box_starts, element_starts}
use Rattle.box_eval.specs.Properties.{last_resets}
use Rattle.merged_walk.specs.Merges.{Merge}
use Rattle.styled_merge.specs.StyledMerges.{Starting, Styling}
use Rattle.styled_merge.specs.Stays.{HasSameBoxStarts, HasSameStarts, OfEachKept}
use Rattle.styled_merge.proofs.KeptCounts.{each}

module _ (was_start start : Starting) where
  box-same : (creator : BoxId) (style : Style) → ((name : List ℕ) → was_start creator name ≡ start creator name) → box_starts was_start creator style ≡ box_starts start creator style
  box-same creator style same =
      λ x. map (λ (reset : ResetOp). record { creator = creator; name = reset.name; value = same reset.name x })
      (filter (λ (reset : ResetOp). reset.reversed && not (is_some reset.value)) (last_resets style.resets))

  by-boxes : (key : ℕ) → HasSameBoxStarts was_start start key → (style : ElementStyle) → element_starts was_start key style ≡ element_starts start key style
  by-boxes key same style =
      let own = box-same (box_of key kind.Element) style.own (same kind.Element) in
      let before = box-same (box_of key kind.Before) style.before (same kind.Before) in
      let after = box-same (box_of key kind.After) style.after (same kind.After) in
      λ x. cond (generates_box style) (own x ++ (cond (has_pseudo_box style.before) (before x) [] ++ cond (has_pseudo_box style.after) (after x) [])) []

  pub starts-by-boxes : (new : Styling) (key : ℕ) → HasSameBoxStarts was_start start key → HasSameStarts new was_start start key
  starts-by-boxes new key same parent = by-boxes key same (new key parent)

-- the same starts are the same, whatever is kept
pub starts-same : (new : Styling) (start : Starting) (m : Merge Node) → OfEachKept (HasSameStarts new start start) m
starts-same new start m = each (HasSameStarts new start start) m (λ q kept parent. refl)
