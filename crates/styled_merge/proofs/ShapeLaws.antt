-- A merge with styles has the shape of the merge without: its stops, its counts, its levels. Throughout, n is a node, c
-- what is under it, r what is after it, g trees, and m a merge.
use Rattle.std.proofs.Common.{◌≡◌, ◌+◌, ◌||◌, ◌++◌, ◌∷◌, ℕ, suc, cond, [], Option, Some, refl, sym, ap, ◌∙◌}
use Rattle.forest.specs.Forest.{Forest, Empty, Tree}
use Rattle.forest.specs.Keys.{Keyed}
use Rattle.forest.specs.Spots.{first_key}
use Rattle.plain_types.specs.declared.node.Node.{Node}
use Rattle.plain_types.specs.declared.node.Node.TheVariants as node
use Rattle.plain_types.specs.declared.style.Style.{Style}
use Rattle.box_eval.specs.Evaluation.{StyledNode, styled_node, style_within, styled_trees}
use Rattle.merged_walk.specs.declared.stop.Way.{Way}
use Rattle.merged_walk.specs.declared.stop.Way.TheVariants.{Past, Inside, Anew}
use Rattle.merged_walk.specs.Merges.{Merge, End, Kept, Turned, Gone, Come, has_place, new_of, old_of}
use Rattle.merged_walk.specs.Stops.{first_element, stop_at, stops_of}
use Rattle.merged_walk.specs.Evaluators.{count_of_elements}
use Rattle.merged_walk.specs.Counts.{led_count, weigh_places}
use Rattle.surroundings.specs.MergedLevels.{AreAllLed, AreLeaves, HasLeaves}
use Rattle.surroundings.specs.StyledEvaluators.{is_element as is_styled_element}
use Rattle.edit_merge.specs.EditMerges.{is_element}
use Rattle.styled_merge.specs.StyledMerges.{Starting, Styling, styled_merge}
use Rattle.styled_merge.specs.Laws.{HasShape}

-- Trees.

module _ (style : Styling) (start : Starting) where
  element-is : (parent : Option Style) (key : ℕ) (label : Node) → is_styled_element (styled_node style start parent key label) ≡ is_element label
  element-is parent key (node.Element name attrs) = refl
  element-is parent key (node.Text characters) = refl

  count-styled : (g : Forest (Keyed Node)) (parent : Option Style) → count_of_elements is_styled_element (styled_trees style start parent g) ≡ count_of_elements is_element g
  count-styled Empty parent = refl
  count-styled (Tree n c r) parent =
      let here = element-is parent n.key n.label in
      let below = count-styled c (style_within style start parent n.key n.label) in
      let beside = count-styled r parent in λ x. cond {A = ℕ} (here x) 1 0 + (below x + beside x)

  leaves-styled : (g : Forest (Keyed Node)) (parent : Option Style) → AreLeaves is_element g → AreLeaves is_styled_element (styled_trees style start parent g)
  leaves-styled Empty parent h = tt
  leaves-styled (Tree n c r) parent h = (
    λ text. ap (styled_trees style start (style_within style start parent n.key n.label)) (h.0 (sym (element-is parent n.key n.label) ∙ text)),
    leaves-styled c (style_within style start parent n.key n.label) h.1,
    leaves-styled r parent h.2,
  )

-- Merges.

module _ (old new : Styling) (was_start start : Starting) where
  abbrev styled_of : Option Style → Merge Node → Merge StyledNode
  styled_of = styled_merge old new was_start start

  -- the style that an old node hands on
  abbrev inner : Option Style → Keyed Node → Option Style
  inner parent n = style_within old was_start parent n.key n.label

  place-styled : (m : Merge Node) (parent : Option Style) → has_place (styled_of parent m) ≡ has_place m
  place-styled End parent = refl
  place-styled (Kept n c r) parent = let below = place-styled c (inner parent n) in let beside = place-styled r parent in λ x. below x || beside x
  place-styled (Turned was n c r) parent = refl
  place-styled (Gone n c r) parent = refl
  place-styled (Come n c r) parent = refl

  first_key-styled : (m : Merge Node) (parent : Option Style) → first_key (new_of (styled_of parent m)) ≡ first_key (new_of m)
  first_key-styled End parent = refl
  first_key-styled (Kept n c r) parent = refl
  first_key-styled (Turned was n c r) parent = refl
  first_key-styled (Gone n c r) parent = first_key-styled r parent
  first_key-styled (Come n c r) parent = refl

  first_element-styled : (m : Merge Node) (parent : Option Style) → first_element is_styled_element (old_of (styled_of parent m)) ≡ first_element is_element (old_of m)
  first_element-styled End parent = refl
  first_element-styled (Kept n c r) parent =
      let here = element-is old was_start parent n.key n.label in let beside = first_element-styled r parent in λ x. cond (here x) (Some n.key) (beside x)
  first_element-styled (Turned was n c r) parent =
      let here = element-is old was_start parent was.key was.label in let beside = first_element-styled r parent in λ x. cond (here x) (Some was.key) (beside x)
  first_element-styled (Gone n c r) parent =
      let here = element-is old was_start parent n.key n.label in let beside = first_element-styled r parent in λ x. cond (here x) (Some n.key) (beside x)
  first_element-styled (Come n c r) parent = first_element-styled r parent

  stop-styled : (depth : ℕ) (way : Way) (m : Merge Node) (parent : Option Style) → stop_at is_styled_element depth way (styled_of parent m) ≡ stop_at is_element depth way m
  stop-styled depth way m parent =
      let link = first_key-styled m parent in let from = first_element-styled m parent in λ x. record { depth = depth; link = link x; way = way; from = from x }

  stops-styled : (m : Merge Node) (parent : Option Style) (depth : ℕ) → stops_of is_styled_element depth (styled_of parent m) ≡ stops_of is_element depth m
  stops-styled End parent depth = refl
  stops-styled (Kept n c r) parent depth =
      let place = place-styled c (inner parent n) in
      let here = stop-styled depth Inside (Kept n c r) parent in
      let below = stops-styled c (inner parent n) (suc depth) in
      let beside = stops-styled r parent depth in λ x. cond (place x) (here x ∷ below x) [] ++ beside x
  stops-styled (Turned was n c r) parent depth =
      let here = stop-styled depth Inside (Turned was n c r) parent in
      let below = stops-styled c (inner parent was) (suc depth) in
      let beside = stops-styled r parent depth in λ x. here x ∷ (below x ++ beside x)
  stops-styled (Gone n c r) parent depth =
      let here = stop-styled depth Past (Gone n c r) parent in let beside = stops-styled r parent depth in λ x. here x ∷ beside x
  stops-styled (Come n c r) parent depth =
      let here = stop-styled depth Anew (Come n c r) parent in let beside = stops-styled r parent depth in λ x. here x ∷ beside x

  led-styled : (m : Merge Node) (parent : Option Style) → led_count (styled_of parent m) ≡ led_count m
  led-styled End parent = refl
  led-styled (Kept n c r) parent =
      let place = place-styled c (inner parent n) in
      let below = led-styled c (inner parent n) in
      let beside = led-styled r parent in λ x. cond {A = ℕ} (place x) 1 0 + (below x + beside x)
  led-styled (Turned was n c r) parent = let below = led-styled c (inner parent was) in let beside = led-styled r parent in λ x. 1 + (below x + beside x)
  led-styled (Gone n c r) parent = led-styled r parent
  led-styled (Come n c r) parent = led-styled r parent

  -- trees that go and come weigh the same, where they do so alone
  module _ (gone come : Forest (Keyed StyledNode) → ℕ) (plain_gone plain_come : Forest (Keyed Node) → ℕ)
      (goes : (g : Forest (Keyed Node)) (parent : Option Style) → gone (styled_trees old was_start parent g) ≡ plain_gone g)
      (comes : (g : Forest (Keyed Node)) (parent : Option Style) → come (styled_trees new start parent g) ≡ plain_come g) where
    weigh-styled : (m : Merge Node) (parent : Option Style) → weigh_places gone come (styled_of parent m) ≡ weigh_places plain_gone plain_come m
    weigh-styled End parent = refl
    weigh-styled (Kept n c r) parent = let below = weigh-styled c (inner parent n) in let beside = weigh-styled r parent in λ x. below x + beside x
    weigh-styled (Turned was n c r) parent = let below = weigh-styled c (inner parent was) in let beside = weigh-styled r parent in λ x. below x + beside x
    weigh-styled (Gone n c r) parent = let here = goes (Tree n c Empty) parent in let beside = weigh-styled r parent in λ x. here x + beside x
    weigh-styled (Come n c r) parent = let here = comes (Tree n c Empty) parent in let beside = weigh-styled r parent in λ x. here x + beside x

  leaves-merge : (m : Merge Node) (parent : Option Style) → HasLeaves is_element m → HasLeaves is_styled_element (styled_of parent m)
  leaves-merge End parent h = tt
  leaves-merge (Kept n c r) parent h =
      (λ text. ap (styled_of (inner parent n)) (h.0 (sym (element-is old was_start parent n.key n.label) ∙ text)), leaves-merge c (inner parent n) h.1, leaves-merge r parent h.2)
  leaves-merge (Turned was n c r) parent h =
      (element-is old was_start parent was.key was.label ∙ h.0, element-is new start parent n.key n.label ∙ h.1, h.2, leaves-merge c (inner parent was) h.3, leaves-merge r parent h.4)
  leaves-merge (Gone n c r) parent h = leaves-merge r parent h
  leaves-merge (Come n c r) parent h =
      let within = style_within new start parent n.key n.label in
      (λ text. ap (styled_trees new start within) (h.0 (sym (element-is new start parent n.key n.label) ∙ text)), leaves-styled new start c within h.1, leaves-merge r parent h.2)

  led-merge : (m : Merge Node) (parent : Option Style) → AreAllLed m → AreAllLed (styled_of parent m)
  led-merge End parent h = tt
  led-merge (Kept n c r) parent h = (place-styled c (inner parent n) ∙ h.0, led-merge r parent h.1)
  led-merge (Turned was n c r) parent h = led-merge r parent h
  led-merge (Gone n c r) parent h = led-merge r parent h
  led-merge (Come n c r) parent h = led-merge r parent h

  pub has-shape : (parent : Option Style) (m : Merge Node) → HasShape (styled_of parent m) m
  has-shape parent m = record {
    stops = stops-styled m parent;
    has_place = place-styled m parent;
    led = led-styled m parent;
    places = weigh-styled (λ _. 1) (λ _. 1) (λ _. 1) (λ _. 1) (λ g p. refl) (λ g p. refl) m parent;
    gone = weigh-styled (count_of_elements is_styled_element) (λ _. 0) (count_of_elements is_element) (λ _. 0) (count-styled old was_start) (λ g p. refl) m parent;
    come = weigh-styled (λ _. 0) (count_of_elements is_styled_element) (λ _. 0) (count_of_elements is_element) (λ g p. refl) (count-styled new start) m parent;
    leaves = leaves-merge m parent;
    all_led = led-merge m parent;
  }
