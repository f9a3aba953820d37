-- What the boxes of a document do to counters is what each of them does, in tree order.
use Rattle.std.proofs.Common.{◌≡◌, ◌++◌, ℕ, List, [], Bool, true, false, cond, Option, Some, None, refl, sym, ap, ◌∙◌, append-nil}
use Rattle.std.proofs.lemmas.Grind.{flat_map-append}
use Rattle.std.specs.Prelude.{flat_map}
use Rattle.forest.specs.Forest.{Forest, Empty, Tree}
use Rattle.forest.specs.Keys.{Keyed}
use Rattle.plain_types.specs.declared.box_id.BoxId.{BoxId}
use Rattle.plain_types.specs.declared.box_kind.BoxKind.TheVariants as kind
use Rattle.plain_types.specs.declared.counter_style.CounterStyle.{CounterStyle}
use Rattle.content_eval.specs.declared.generated.Generated.{Generated}
use Rattle.box_eval.specs.declared.change.Change.{Change}
use Rattle.box_eval.specs.declared.made.Made.{Made}
use Rattle.box_eval.specs.Boxes.{box_of, has_marker}
use Rattle.box_eval.specs.Elements.{Handed, Replacing, after_of, before_of, formed_box, inside, marker_content, marker_of, no_box, own_counted}
use Rattle.box_eval.specs.Evaluation.{Element, StyledNode, Text, box_changes, changes, changes_in, first_box_changes, first_changes, is_boxed, last_box_changes, last_changes, made_box_changes, past_node, past_trees, within}
use Rattle.box_eval.proofs.DocumentLemmas.{join_two}

abbrev pub changes_at : BoxId × List Change → List Change
changes_at box = box.1

-- the box of a pseudo-element, where there is one
made_joined : (box : BoxId) (made : Option Made) → changes_in made ≡ flat_map changes_at (made_box_changes box made)
made_joined box None = refl
made_joined box (Some made) = sym (append-nil made.changes)

-- a marker does nothing
marker_joined : (has : Bool) (box : BoxId) (content : Generated) (depth : ℕ) → flat_map changes_at (made_box_changes box (cond has (formed_box [] content) (no_box depth)).made) ≡ []
marker_joined true box content depth = refl
marker_joined false box content depth = refl

-- Four parts after each other.
parts_joined : (a b c d : List (BoxId × List Change)) → flat_map changes_at (a ++ (b ++ (c ++ d))) ≡ flat_map changes_at a ++ (flat_map changes_at b ++ (flat_map changes_at c ++ flat_map changes_at d))
parts_joined a b c d =
    flat_map-append changes_at a (b ++ (c ++ d))
    ∙ ap (λ rest. flat_map changes_at a ++ rest)
    (flat_map-append changes_at b (c ++ d) ∙ ap (λ rest. flat_map changes_at b ++ rest) (flat_map-append changes_at c d))

module _ (table : List CounterStyle) (replacing : Replacing) where
  first_joined : (has : Bool) (key : ℕ) (label : StyledNode) (handed : Handed) → first_changes table replacing has key label handed ≡ flat_map changes_at (first_box_changes table replacing has key label handed)
  first_joined true key (Element element) handed =
      let own = own_counted table replacing key element handed in
      let around = inside own.set handed.depth in
      let marker_box = box_of key kind.Marker in
      let before_box = box_of key kind.Before in
      let marker = (marker_of table replacing key element handed).made in
      let before = (before_of table replacing key element handed).made in
      ap (λ rest. own.changes ++ rest)
      (made_joined before_box before
      ∙ sym (flat_map-append changes_at (made_box_changes marker_box marker) (made_box_changes before_box before)
      ∙ ap (λ none. none ++ flat_map changes_at (made_box_changes before_box before)) (marker_joined (has_marker element.style) marker_box (marker_content table replacing key element around) around.depth)))
  first_joined true key Text handed = refl
  first_joined false key (Element element) handed = refl
  first_joined false key Text handed = refl

  last_joined : (has : Bool) (key : ℕ) (label : StyledNode) (behind : Handed) → last_changes table replacing has key label behind ≡ flat_map changes_at (last_box_changes table replacing has key label behind)
  last_joined true key (Element element) behind = made_joined (box_of key kind.After) (after_of table replacing key element behind).made
  last_joined true key Text behind = refl
  last_joined false key (Element element) behind = refl
  last_joined false key Text behind = refl

  pub changes_of_boxes : (trees : Forest (Keyed StyledNode)) (boxed : Bool) (handed : Handed) → changes table replacing boxed handed trees ≡ flat_map changes_at (box_changes table replacing boxed handed trees)
  changes_of_boxes Empty boxed handed = refl
  changes_of_boxes (Tree node children after) boxed handed =
      let has = is_boxed boxed node.label in
      let inner = within table replacing has node.key node.label handed in
      let behind = past_trees table replacing has inner children in
      let next = past_node table replacing has node.key node.label handed behind in
      join_two (first_changes table replacing has node.key node.label handed) (flat_map changes_at (first_box_changes table replacing has node.key node.label handed)) _ _ (first_joined has node.key node.label handed)
      (join_two (changes table replacing has inner children) (flat_map changes_at (box_changes table replacing has inner children)) _ _ (changes_of_boxes children has inner)
      (join_two (last_changes table replacing has node.key node.label behind) (flat_map changes_at (last_box_changes table replacing has node.key node.label behind)) _ _ (last_joined has node.key node.label behind)
      (changes_of_boxes after boxed next)))
      ∙ sym (parts_joined (first_box_changes table replacing has node.key node.label handed) (box_changes table replacing has inner children) (last_box_changes table replacing has node.key node.label behind) (box_changes table replacing boxed next after))
