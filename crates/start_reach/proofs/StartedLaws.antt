-- A merge where elements are turned has the new document with its starts. Throughout, n is a node, c what is under it, r
-- what is after it, m a merge, and p which keys are turned.
use Rattle.std.proofs.Common.{◌≡◌, ◌++◌, ◌&&◌, ℕ, Bool, true, false, cond, List, [], ◌∷◌, Option, Some, map, refl, ap, ◌∙◌}
use Rattle.std.specs.Prelude.{All, filter, is_some, not}
use Rattle.std.proofs.lemmas.List.Elements.{All-head, All-tail}
use Rattle.forest.specs.Forest.{Tree, labels}
use Rattle.forest.specs.Keys.{Keyed}
use Rattle.plain_types.specs.declared.box_id.BoxId.{BoxId}
use Rattle.plain_types.specs.declared.box_kind.BoxKind.TheVariants as kind
use Rattle.plain_types.specs.declared.node.Node.{Node}
use Rattle.plain_types.specs.declared.node.Node.TheVariants as node
use Rattle.plain_types.specs.declared.style.ElementStyle.{ElementStyle}
use Rattle.plain_types.specs.declared.style.ResetOp.{ResetOp}
use Rattle.plain_types.specs.declared.style.Style.{Style}
use Rattle.box_eval.specs.Boxes.{box_of, generates_box, has_pseudo_box}
use Rattle.box_eval.specs.declared.inputs.Start.{Start}
use Rattle.box_eval.specs.Evaluation.{Element, StyledNode, box_starts, element_starts, styled_node, style_within, styled_trees}
use Rattle.box_eval.specs.Properties.{last_resets}
use Rattle.merged_walk.specs.Merges.{Merge, End, Kept, Turned, Gone, Come, new_of}
use Rattle.merged_walk.proofs.EntryLaws.{all-left, all-right}
use Rattle.edit_merge.specs.EditMerges.{is_element}
use Rattle.styled_merge.specs.Stays.{HasSameStyle, IsUnturned, OfEachKept, OfElement}
use Rattle.styled_merge.specs.StyledMerges.{Starting, Styling, styled_by, styled_merge}
use Rattle.start_reach.specs.Laws.{AskedStartsAreEnough, UnturnedAreEnough}
use Rattle.start_reach.specs.TurnedElements.{AsksForSame, HasSameStartsUnder, KeptHaveSameStarts, turned_where}
use Rattle.start_reach.proofs.TurnedLaws.{at_node}

module _ (old new : Styling) (was_start start : Starting) (p : ℕ → Bool) where
  abbrev turned : Merge Node → Merge Node
  turned m = turned_where is_element p m

  abbrev styled_of : Option Style → Merge Node → Merge StyledNode
  styled_of = styled_merge old new was_start start

  same-node : (k : ℕ) (l : Node) (parent : Option Style) → OfElement (HasSameStyle old new) k l → OfElement (HasSameStartsUnder new was_start start parent) k l
      → styled_node old was_start parent k l ≡ styled_node new start parent k l
  same-node k (node.Text characters) parent styles starts = refl
  same-node k (node.Element name attrs) parent styles starts =
      ap (λ (s : ElementStyle). Element (record { attrs = attrs; style = s; starts = element_starts was_start k s })) (styles parent)
      ∙ ap (λ given. Element (record { attrs = attrs; style = new k parent; starts = given })) starts

  same-within : (k : ℕ) (l : Node) (parent : Option Style) → OfElement (HasSameStyle old new) k l → style_within old was_start parent k l ≡ style_within new start parent k l
  same-within k (node.Text characters) parent styles = refl
  same-within k (node.Element name attrs) parent styles = ap (λ (s : ElementStyle). Some s.own) (styles parent)

  abbrev inner : Option Style → Keyed Node → Option Style
  inner parent n = style_within new start parent n.key n.label

  abbrev Is : Option Style → Merge Node → Merge Node → Type 0
  Is parent now m = new_of (styled_of parent now) ≡ styled_trees new start parent (new_of m)

  -- a node that stays, turned or not
  node-started : (b : Bool) (n : Keyed Node) (c r : Merge Node) (parent : Option Style) → OfElement (HasSameStyle old new) n.key n.label
      → (KeptHaveSameStarts new was_start start (inner parent n) (turned c) → Is (inner parent n) (turned c) c)
      → (KeptHaveSameStarts new was_start start parent (turned r) → Is parent (turned r) r)
      → KeptHaveSameStarts new was_start start parent (at_node is_element b n (turned c) (turned r))
      → Is parent (at_node is_element b n (turned c) (turned r)) (Kept n c r)
  node-started true n c r parent style below beside h =
      let under = ap (λ within. new_of (styled_of within (turned c))) (same-within n.key n.label parent style) ∙ below h.0 in
      let after = beside h.1 in λ x. Tree (styled_by new start parent n) (under x) (after x)
  node-started false n c r parent style below beside h =
      let here = same-node n.key n.label parent style h.0 in
      let under = ap (λ within. new_of (styled_of within (turned c))) (same-within n.key n.label parent style) ∙ below h.1 in
      let after = beside h.2 in λ x. Tree (record { key = n.key; label = here x }) (under x) (after x)

  pub new-started : (m : Merge Node) (parent : Option Style) → IsUnturned m → OfEachKept (HasSameStyle old new) m → KeptHaveSameStarts new was_start start parent (turned m)
      → Is parent (turned m) m
  new-started End parent unturned styles starts = refl
  new-started (Kept n c r) parent unturned styles starts =
      node-started (is_element n.label && p n.key) n c r parent styles.0 (new-started c (inner parent n) unturned.0 styles.1) (new-started r parent unturned.1 styles.2) starts
  new-started (Turned was n c r) parent unturned styles starts = absurd unturned.0
  new-started (Gone n c r) parent unturned styles starts = new-started r parent unturned styles starts
  new-started (Come n c r) parent unturned styles starts =
      ap (Tree (styled_by new start parent n) (styled_trees new start (inner parent n) c)) (new-started r parent unturned styles starts)

-- The starts of an element, by each that its boxes ask for.

module _ (was_start start : Starting) where
  abbrev IsSame : Start → Type 0
  IsSame asked = was_start asked.creator asked.name ≡ asked.value

  abbrev of_reset : Starting → BoxId → ResetOp → Start
  of_reset given creator reset = record { creator = creator; name = reset.name; value = given creator reset.name }

  resets-same : (creator : BoxId) (resets : List ResetOp) → All IsSame (map (of_reset start creator) resets) → map (of_reset was_start creator) resets ≡ map (of_reset start creator) resets
  resets-same creator [] h = refl
  resets-same creator (reset ∷ resets) h =
      let rest = map (of_reset start creator) resets in
      let first = All-head IsSame (of_reset start creator reset) rest h in
      let others = resets-same creator resets (All-tail IsSame (of_reset start creator reset) rest h) in
      λ x. record { creator = creator; name = reset.name; value = first x } ∷ others x

  box-same : (creator : BoxId) (style : Style) → All IsSame (box_starts start creator style) → box_starts was_start creator style ≡ box_starts start creator style
  box-same creator style h = resets-same creator (filter (λ (reset : ResetOp). reset.reversed && not (is_some reset.value)) (last_resets style.resets)) h

  -- a box, where there is one
  box-if : (b : Bool) (creator : BoxId) (style : Style) → All IsSame (cond b (box_starts start creator style) []) → cond b (box_starts was_start creator style) [] ≡ cond b (box_starts start creator style) []
  box-if true creator style h = box-same creator style h
  box-if false creator style h = refl

  boxes-if : (b : Bool) (key : ℕ) (style : ElementStyle)
      → let own : Starting → List Start = λ given. box_starts given (box_of key kind.Element) style.own in
      let before : Starting → List Start = λ given. cond (has_pseudo_box style.before) (box_starts given (box_of key kind.Before) style.before) [] in
      let after : Starting → List Start = λ given. cond (has_pseudo_box style.after) (box_starts given (box_of key kind.After) style.after) [] in
      All IsSame (cond b (own start ++ (before start ++ after start)) [])
      → cond b (own was_start ++ (before was_start ++ after was_start)) [] ≡ cond b (own start ++ (before start ++ after start)) []
  boxes-if false key style h = refl
  boxes-if true key style h =
      let own = box_starts start (box_of key kind.Element) style.own in
      let before = cond (has_pseudo_box style.before) (box_starts start (box_of key kind.Before) style.before) [] in
      let after = cond (has_pseudo_box style.after) (box_starts start (box_of key kind.After) style.after) [] in
      let rest = all-right IsSame own (before ++ after) h in
      let first = box-same (box_of key kind.Element) style.own (all-left IsSame own (before ++ after) h) in
      let second = box-if (has_pseudo_box style.before) (box_of key kind.Before) style.before (all-left IsSame before after rest) in
      let third = box-if (has_pseudo_box style.after) (box_of key kind.After) style.after (all-right IsSame before after rest) in
      λ x. first x ++ (second x ++ third x)

pub asked_starts_are_enough : AskedStartsAreEnough
asked_starts_are_enough was_start start key style same = boxes-if was_start start (generates_box style) key style same

-- By the elements of the document after the edit.
module _ (new : Styling) (was_start start : Starting) (p : ℕ → Bool) where
  abbrev Unturned : Keyed StyledNode → Type 0
  Unturned it = p it.key ≡ false → AsksForSame was_start it.label

  abbrev within_of : Option Style → Keyed Node → Option Style
  within_of parent n = style_within new start parent n.key n.label

  second-false : (b : Bool) → (true && b) ≡ false → b ≡ false
  second-false b h = h

  own-same : (k : ℕ) (l : Node) (parent : Option Style) → (is_element l && p k) ≡ false → Unturned (record { key = k; label = styled_node new start parent k l })
      → OfElement (HasSameStartsUnder new was_start start parent) k l
  own-same k (node.Text characters) parent kept asks = tt
  own-same k (node.Element name attrs) parent kept asks = asked_starts_are_enough was_start start k (new k parent) (asks (second-false (p k) kept))

  node-same : (b : Bool) (n : Keyed Node) (c r : Merge Node) (parent : Option Style) → (is_element n.label && p n.key) ≡ b → Unturned (styled_by new start parent n)
      → KeptHaveSameStarts new was_start start (within_of parent n) c → KeptHaveSameStarts new was_start start parent r
      → KeptHaveSameStarts new was_start start parent (at_node is_element b n c r)
  node-same true n c r parent test asks below beside = (below, beside)
  node-same false n c r parent test asks below beside = (own-same n.key n.label parent test asks, below, beside)

  kept-same : (m : Merge Node) (parent : Option Style) → All Unturned (labels (styled_trees new start parent (new_of m))) → KeptHaveSameStarts new was_start start parent (turned_where is_element p m)
  kept-same End parent h = tt
  kept-same (Kept n c r) parent h =
      let first = styled_by new start parent n in
      let below = labels (styled_trees new start (within_of parent n) (new_of c)) in
      let beside = labels (styled_trees new start parent (new_of r)) in
      let rest = All-tail Unturned first (below ++ beside) h in
      node-same (is_element n.label && p n.key) n (turned_where is_element p c) (turned_where is_element p r) parent refl (All-head Unturned first (below ++ beside) h)
      (kept-same c (within_of parent n) (all-left Unturned below beside rest)) (kept-same r parent (all-right Unturned below beside rest))
  kept-same (Turned was n c r) parent h =
      let first = styled_by new start parent n in
      let below = labels (styled_trees new start (within_of parent n) (new_of c)) in
      let beside = labels (styled_trees new start parent (new_of r)) in
      let rest = All-tail Unturned first (below ++ beside) h in
      (kept-same c (within_of parent n) (all-left Unturned below beside rest), kept-same r parent (all-right Unturned below beside rest))
  kept-same (Gone n c r) parent h = kept-same r parent h
  kept-same (Come n c r) parent h =
      let first = styled_by new start parent n in
      let below = labels (styled_trees new start (within_of parent n) c) in
      let beside = labels (styled_trees new start parent (new_of r)) in
      kept-same r parent (all-right Unturned below beside (All-tail Unturned first (below ++ beside) h))

pub unturned_are_enough : UnturnedAreEnough
unturned_are_enough new was_start start is_turned parent merge asks = kept-same new was_start start is_turned merge parent asks
