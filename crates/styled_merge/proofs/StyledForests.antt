-- The forests of a merge with styles are the merge's, with their styles and starts. Throughout, n is a node, c what is
-- under it, r what is after it, and m a merge.
use Rattle.std.proofs.Common.{◌≡◌, ℕ, Option, Some, refl, ap, ◌∙◌}
use Rattle.forest.specs.Forest.{Tree}
use Rattle.forest.specs.Keys.{Keyed}
use Rattle.plain_types.specs.declared.node.Node.{Node}
use Rattle.plain_types.specs.declared.node.Node.TheVariants as node
use Rattle.plain_types.specs.declared.style.ElementStyle.{ElementStyle}
use Rattle.plain_types.specs.declared.style.Style.{Style}
use Rattle.box_eval.specs.Evaluation.{Element, StyledNode, element_starts, styled_node, style_within, styled_trees}
use Rattle.merged_walk.specs.Merges.{Merge, End, Kept, Turned, Gone, Come, old_of, new_of}
use Rattle.styled_merge.specs.StyledMerges.{Starting, Styling, styled_by, styled_merge}
use Rattle.styled_merge.specs.Stays.{HandsSameStyle, HasSameStarts, HasSameStyle, OfEachKept, OfEachTurned, OfElement, StaysStyled}

module _ (old new : Styling) (was_start start : Starting) where
  abbrev styled_of : Option Style → Merge Node → Merge StyledNode
  styled_of = styled_merge old new was_start start

  -- the style that an old node hands on
  abbrev inner : Option Style → Keyed Node → Option Style
  inner parent n = style_within old was_start parent n.key n.label

  pub old-styled : (m : Merge Node) (parent : Option Style) → old_of (styled_of parent m) ≡ styled_trees old was_start parent (old_of m)
  old-styled End parent = refl
  old-styled (Kept n c r) parent =
      let below = old-styled c (inner parent n) in let beside = old-styled r parent in λ x. Tree (styled_by old was_start parent n) (below x) (beside x)
  old-styled (Turned was n c r) parent =
      let below = old-styled c (inner parent was) in let beside = old-styled r parent in λ x. Tree (styled_by old was_start parent was) (below x) (beside x)
  old-styled (Gone n c r) parent =
      ap (Tree (styled_by old was_start parent n) (styled_trees old was_start (inner parent n) c)) (old-styled r parent)
  old-styled (Come n c r) parent = old-styled r parent

  -- A node that stays, under one parent.

  same-node : (k : ℕ) (l : Node) (parent : Option Style) → OfElement (HasSameStyle old new) k l → OfElement (HasSameStarts new was_start start) k l
      → styled_node old was_start parent k l ≡ styled_node new start parent k l
  same-node k (node.Text characters) parent styles starts = refl
  same-node k (node.Element name attrs) parent styles starts =
      ap (λ (s : ElementStyle). Element (record { attrs = attrs; style = s; starts = element_starts was_start k s })) (styles parent)
      ∙ ap (λ given. Element (record { attrs = attrs; style = new k parent; starts = given })) (starts parent)

  same-within : (k : ℕ) (l : Node) (parent : Option Style) → OfElement (HasSameStyle old new) k l → style_within old was_start parent k l ≡ style_within new start parent k l
  same-within k (node.Text characters) parent styles = refl
  same-within k (node.Element name attrs) parent styles = ap (λ (s : ElementStyle). Some s.own) (styles parent)

  new-forest : (m : Merge Node) (parent : Option Style) → OfEachKept (HasSameStyle old new) m → OfEachKept (HasSameStarts new was_start start) m
      → OfEachTurned (HandsSameStyle old new was_start start) m → new_of (styled_of parent m) ≡ styled_trees new start parent (new_of m)
  new-forest End parent styles starts turned = refl
  new-forest (Kept n c r) parent styles starts turned =
      let here = same-node n.key n.label parent styles.0 starts.0 in
      let below = new-forest c (inner parent n) styles.1 starts.1 turned.0
      ∙ ap (λ within. styled_trees new start within (new_of c)) (same-within n.key n.label parent styles.0) in
      let beside = new-forest r parent styles.2 starts.2 turned.1 in λ x. Tree (record { key = n.key; label = here x }) (below x) (beside x)
  new-forest (Turned was n c r) parent styles starts turned =
      let below = new-forest c (inner parent was) styles.0 starts.0 turned.1
      ∙ ap (λ within. styled_trees new start within (new_of c)) (turned.0 parent) in
      let beside = new-forest r parent styles.1 starts.1 turned.2 in λ x. Tree (styled_by new start parent n) (below x) (beside x)
  new-forest (Gone n c r) parent styles starts turned = new-forest r parent styles starts turned
  new-forest (Come n c r) parent styles starts turned =
      ap (Tree (styled_by new start parent n) (styled_trees new start (style_within new start parent n.key n.label) c)) (new-forest r parent styles starts turned)

  pub new-styled : (parent : Option Style) (m : Merge Node) → StaysStyled old new was_start start m → new_of (styled_of parent m) ≡ styled_trees new start parent (new_of m)
  new-styled parent m stays = new-forest m parent stays.styles stays.starts stays.turned
