-- Whole documents with different starts: the counters of their boxes differ in values alone.
use Rattle.std.proofs.Common.{◌≡◌, ◌++◌, ◌∷◌, ℕ, ℤ, List, [], Bool, true, false, cond, Option, Some, None, refl, sym, ap, subst, ◌∙◌}
use Rattle.std.specs.Prelude.{flat_map, unwrap_or}
use Rattle.forest.specs.Forest.{Forest, Empty, Tree}
use Rattle.forest.specs.Keys.{Keyed}
use Rattle.plain_types.specs.declared.attr.Attr.{Attr}
use Rattle.plain_types.specs.declared.box_id.BoxId.{BoxId}
use Rattle.plain_types.specs.declared.box_kind.BoxKind.{BoxKind}
use Rattle.plain_types.specs.declared.box_kind.BoxKind.TheVariants as kind
use Rattle.plain_types.specs.declared.counter.Counter.{Counter}
use Rattle.plain_types.specs.declared.counter_style.CounterStyle.{CounterStyle}
use Rattle.plain_types.specs.declared.node.Node.{Node}
use Rattle.plain_types.specs.declared.node.Node.TheVariants as node
use Rattle.plain_types.specs.declared.style.ElementStyle.{ElementStyle}
use Rattle.plain_types.specs.declared.style.Style.{Style}
use Rattle.counter_sets.specs.Sets.{is_by_peer}
use Rattle.content_eval.specs.Contents.{generated}
use Rattle.box_eval.specs.declared.change.Change.{Change}
use Rattle.box_eval.specs.declared.formed.Formed.{Formed}
use Rattle.box_eval.specs.declared.inputs.Start.{Start}
use Rattle.box_eval.specs.declared.made.Made.{Made}
use Rattle.box_eval.specs.Boxes.{box_of, has_items, has_marker, has_pseudo_box, is_list_item}
use Rattle.box_eval.specs.Properties.{counted}
use Rattle.box_eval.specs.Elements.{Handed, Styled, after_of, at_root, behind_marker, before_of, by_peers, children_handed, content_of, default_content, formed_box, inherited_by, inside, items_of, marker_content, marker_formed, marker_of, no_box, own_counted, past_formed, pseudo_counted, pseudo_formed}
use Rattle.box_eval.specs.Evaluation.{Element, StyledNode, all_box_changes, all_changes, box_changes, element_starts, first_box_changes, is_boxed, last_box_changes, made_box_changes, past_node, past_trees, style_within, styled, styled_node, styled_trees, within}
use Rattle.box_eval.proofs.BoxChangeLemmas.{changes_of_boxes}
use Rattle.box_eval.proofs.DocumentLemmas.{join_two}
use Rattle.box_eval.proofs.ValueLemmas.{Alike, AreCountedAlike, counted_alike, generated_alike, inherited_alike}

-- What is handed on is alike: its sets differ in values alone, and the sibling boxes before are the same. The
-- preceding box's set and the quote depth change no set but for values.
pub record AreHandedAlike (handed other : Handed) : Type 0 where
  pub parent : Alike handed.parent other.parent
  pub earlier : handed.earlier ≡ other.earlier
  pub sibling : Alike (unwrap_or handed.sibling []) (unwrap_or other.sibling [])

-- boxes of pseudo-elements, where there are any
abbrev pub AreMadeAlike : Option Made → Option Made → Type 0
AreMadeAlike None None = Unit {0}
AreMadeAlike (Some made) (Some other) = Alike made.set other.set × (made.changes ≡ other.changes)
AreMadeAlike _ _ = ⊥

same_made : (box : BoxId) (made other : Option Made) → AreMadeAlike made other → made_box_changes box made ≡ made_box_changes box other
same_made box None None alike = refl
same_made box None (Some other) alike = absurd alike
same_made box (Some made) None alike = absurd alike
same_made box (Some made) (Some other) alike = ap (λ changes. (box, changes) ∷ []) alike.1

made_if : (b : Bool) (formed other none none_too : Formed) → AreMadeAlike formed.made other.made → AreMadeAlike none.made none_too.made → AreMadeAlike (cond b formed none).made (cond b other none_too).made
made_if true formed other none none_too alike nothing = alike
made_if false formed other none none_too alike nothing = nothing

past_formed_alike : (box : BoxId) (made made_too : Option Made) (depth depth_too : ℕ) (handed other : Handed) → AreMadeAlike made made_too → AreHandedAlike handed other
    → AreHandedAlike (past_formed box (record { made = made; depth = depth }) handed) (past_formed box (record { made = made_too; depth = depth_too }) other)
past_formed_alike box None None depth depth_too handed other made alike = record { parent = alike.parent; earlier = alike.earlier; sibling = alike.sibling }
past_formed_alike box None (Some made_too) depth depth_too handed other made alike = absurd made
past_formed_alike box (Some made_one) None depth depth_too handed other made alike = absurd made
past_formed_alike box (Some made_one) (Some made_too) depth depth_too handed other made alike = record { parent = alike.parent; earlier = ap (λ earlier. box ∷ earlier) alike.earlier; sibling = made.0 }

inherits_alike : (handed other : Handed) → AreHandedAlike handed other → Alike (inherited_by handed) (inherited_by other)
inherits_alike handed other alike = inherited_alike handed.parent other.parent handed.sibling other.sibling handed.preceding other.preceding alike.parent alike.sibling

-- An element with two lists of starts.
module _ (table : List CounterStyle) (key : ℕ) (attrs : List Attr) (style : ElementStyle) (starts others : List Start) where
  abbrev pub first : Styled
  first = record { attrs = attrs; style = style; starts = starts }

  abbrev pub second : Styled
  second = record { attrs = attrs; style = style; starts = others }

  -- a box after its properties
  box_alike : (which : BoxKind) (is_item : Bool) (own : Style) (handed other : Handed) → AreHandedAlike handed other
      → AreCountedAlike (counted (is_by_peer (box_of key which ∷ handed.earlier)) (box_of key which) starts is_item own (inherited_by handed)) (counted (is_by_peer (box_of key which ∷ other.earlier)) (box_of key which) others is_item own (inherited_by other))
  box_alike which is_item own handed other alike =
      let box = box_of key which in
      subst (λ earlier. AreCountedAlike (counted (is_by_peer (box ∷ handed.earlier)) box starts is_item own (inherited_by handed)) (counted (is_by_peer (box ∷ earlier)) box others is_item own (inherited_by other))) alike.earlier
      (counted_alike (is_by_peer (box ∷ handed.earlier)) (λ counter. refl) box starts others is_item own (inherited_by handed) (inherited_by other) (inherits_alike handed other alike))

  -- and after its content
  content_alike : (which : BoxKind) (own : Style) (set set_too : List Counter) (handed other : Handed) → AreHandedAlike handed other → Alike set set_too
      → Alike (content_of table by_peers key first which own set handed).set (content_of table by_peers key second which own set_too other).set
  content_alike which own set set_too handed other alike sets =
      let box = box_of key which in
      subst (λ earlier. Alike (content_of table by_peers key first which own set handed).set (generated table (items_of own.content) attrs own.quotes box (is_by_peer (box ∷ earlier)) set_too other.depth).set) alike.earlier
      (generated_alike (is_by_peer (box ∷ handed.earlier)) (λ counter. refl) box table (items_of own.content) attrs own.quotes set set_too handed.depth other.depth sets)

  marker_alike : (handed other : Handed) → AreHandedAlike handed other → AreMadeAlike (marker_formed table by_peers key first handed).made (marker_formed table by_peers key second other).made
  marker_alike handed other alike =
      let sets = inherits_alike handed other alike in
      made_if (has_marker style) (formed_box [] (marker_content table by_peers key first handed)) (formed_box [] (marker_content table by_peers key second other)) (no_box handed.depth) (no_box other.depth)
      (by_items (has_items style.marker.content) sets (content_alike kind.Marker style.marker (inherited_by handed) (inherited_by other) handed other alike sets), refl) tt
    where
      by_items : (b : Bool) → Alike (inherited_by handed) (inherited_by other)
          → Alike (content_of table by_peers key first kind.Marker style.marker (inherited_by handed) handed).set (content_of table by_peers key second kind.Marker style.marker (inherited_by other) other).set
          → Alike (cond b (content_of table by_peers key first kind.Marker style.marker (inherited_by handed) handed) (default_content table style.own.list_type (inherited_by handed) handed.depth)).set
          (cond b (content_of table by_peers key second kind.Marker style.marker (inherited_by other) other) (default_content table style.own.list_type (inherited_by other) other.depth)).set
      by_items true sets contents = contents
      by_items false sets contents = sets

  pseudo_alike : (which : BoxKind) (own : Style) (handed other : Handed) → AreHandedAlike handed other → AreMadeAlike (pseudo_formed table by_peers key first which own handed).made (pseudo_formed table by_peers key second which own other).made
  pseudo_alike which own handed other alike =
      let counted_one = pseudo_counted table by_peers key first which own handed in
      let counted_too = pseudo_counted table by_peers key second which own other in
      let both = box_alike which false own handed other alike in
      made_if (has_pseudo_box own) (formed_box counted_one.changes (content_of table by_peers key first which own counted_one.set handed)) (formed_box counted_too.changes (content_of table by_peers key second which own counted_too.set other)) (no_box handed.depth) (no_box other.depth)
      (content_alike which own counted_one.set counted_too.set handed other alike both.set, both.changes) tt

  module _ (handed other : Handed) (alike : AreHandedAlike handed other) where
    own_alike : AreCountedAlike (own_counted table by_peers key first handed) (own_counted table by_peers key second other)
    own_alike = box_alike kind.Element (is_list_item style.own.display) style.own handed other alike

    -- its marker, in its own box
    marker_of_alike : AreMadeAlike (marker_of table by_peers key first handed).made (marker_of table by_peers key second other).made
    marker_of_alike =
        let own = (own_counted table by_peers key first handed).set in
        let own_too = (own_counted table by_peers key second other).set in
        marker_alike (inside own handed.depth) (inside own_too other.depth) (record { parent = own_alike.set; earlier = refl; sibling = refl })

    behind_marker_alike : AreHandedAlike (behind_marker table by_peers key first handed) (behind_marker table by_peers key second other)
    behind_marker_alike =
        let own = (own_counted table by_peers key first handed).set in
        let own_too = (own_counted table by_peers key second other).set in
        let inner : AreHandedAlike (inside own handed.depth) (inside own_too other.depth) = record { parent = own_alike.set; earlier = refl; sibling = refl } in
        let marker = marker_of table by_peers key first handed in
        let marker_too = marker_of table by_peers key second other in
        past_formed_alike (box_of key kind.Marker) marker.made marker_too.made marker.depth marker_too.depth (inside own handed.depth) (inside own_too other.depth) marker_of_alike inner

    before_alike : AreMadeAlike (before_of table by_peers key first handed).made (before_of table by_peers key second other).made
    before_alike = pseudo_alike kind.Before style.before (behind_marker table by_peers key first handed) (behind_marker table by_peers key second other) behind_marker_alike

    pub children_alike : AreHandedAlike (children_handed table by_peers key first handed) (children_handed table by_peers key second other)
    children_alike =
        let before = before_of table by_peers key first handed in
        let before_too = before_of table by_peers key second other in
        past_formed_alike (box_of key kind.Before) before.made before_too.made before.depth before_too.depth (behind_marker table by_peers key first handed) (behind_marker table by_peers key second other)
        before_alike behind_marker_alike

    pub first_same : first_box_changes table by_peers true key (Element first) handed ≡ first_box_changes table by_peers true key (Element second) other
    first_same =
        let marker_box = box_of key kind.Marker in
        let before_box = box_of key kind.Before in
        let marker = (marker_of table by_peers key first handed).made in
        let marker_too = (marker_of table by_peers key second other).made in
        let before = (before_of table by_peers key first handed).made in
        let before_too = (before_of table by_peers key second other).made in
        ap (λ changes. (box_of key kind.Element, changes) ∷ (made_box_changes marker_box marker ++ made_box_changes before_box before)) own_alike.changes
        ∙ ap (λ rest. (box_of key kind.Element, (own_counted table by_peers key second other).changes) ∷ rest)
        (join_two (made_box_changes marker_box marker) (made_box_changes marker_box marker_too) (made_box_changes before_box before) (made_box_changes before_box before_too)
        (same_made marker_box marker marker_too marker_of_alike) (same_made before_box before before_too before_alike))

    -- where it is handed this behind the element's children
    pub last_same : last_box_changes table by_peers true key (Element first) handed ≡ last_box_changes table by_peers true key (Element second) other
    last_same =
        same_made (box_of key kind.After) (after_of table by_peers key first handed).made (after_of table by_peers key second other).made (pseudo_alike kind.After style.after handed other alike)

-- A document with two kinds of starts.
module _ (table : List CounterStyle) (style : ℕ → Option Style → ElementStyle) (start other_start : BoxId → List ℕ → ℤ) where
  abbrev one : Option Style → ℕ → Node → StyledNode
  one parent key label = styled_node style start parent key label

  abbrev other : Option Style → ℕ → Node → StyledNode
  other parent key label = styled_node style other_start parent key label

  abbrev trees : Option Style → Forest (Keyed Node) → Forest (Keyed StyledNode)
  trees parent nodes = styled_trees style start parent nodes

  abbrev other_trees : Option Style → Forest (Keyed Node) → Forest (Keyed StyledNode)
  other_trees parent nodes = styled_trees style other_start parent nodes

  boxed_same : (boxed : Bool) (parent : Option Style) (key : ℕ) (label : Node) → is_boxed boxed (one parent key label) ≡ is_boxed boxed (other parent key label)
  boxed_same boxed parent key (node.Element name attrs) = refl
  boxed_same boxed parent key (node.Text characters) = refl

  style_same : (parent : Option Style) (key : ℕ) (label : Node) → style_within style start parent key label ≡ style_within style other_start parent key label
  style_same parent key (node.Element name attrs) = refl
  style_same parent key (node.Text characters) = refl

  -- One node.

  module _ (parent : Option Style) (key : ℕ) (handed handed_too : Handed) (alike : AreHandedAlike handed handed_too) where
    within_alike : (has : Bool) (label : Node) → AreHandedAlike (within table by_peers has key (one parent key label) handed) (within table by_peers has key (other parent key label) handed_too)
    within_alike true (node.Element name attrs) =
        children_alike table key attrs (style key parent) (element_starts start key (style key parent)) (element_starts other_start key (style key parent)) handed handed_too alike
    within_alike true (node.Text characters) = alike
    within_alike false (node.Element name attrs) = alike
    within_alike false (node.Text characters) = alike

    first_changes_same : (has : Bool) (label : Node) → first_box_changes table by_peers has key (one parent key label) handed ≡ first_box_changes table by_peers has key (other parent key label) handed_too
    first_changes_same true (node.Element name attrs) =
        first_same table key attrs (style key parent) (element_starts start key (style key parent)) (element_starts other_start key (style key parent)) handed handed_too alike
    first_changes_same true (node.Text characters) = refl
    first_changes_same false (node.Element name attrs) = refl
    first_changes_same false (node.Text characters) = refl

    last_changes_same : (has : Bool) (label : Node) → last_box_changes table by_peers has key (one parent key label) handed ≡ last_box_changes table by_peers has key (other parent key label) handed_too
    last_changes_same true (node.Element name attrs) =
        last_same table key attrs (style key parent) (element_starts start key (style key parent)) (element_starts other_start key (style key parent)) handed handed_too alike
    last_changes_same true (node.Text characters) = refl
    last_changes_same false (node.Element name attrs) = refl
    last_changes_same false (node.Text characters) = refl

    past_node_alike : (has : Bool) (label : Node) (behind behind_too : Handed) → AreHandedAlike (past_node table by_peers has key (one parent key label) handed behind) (past_node table by_peers has key (other parent key label) handed_too behind_too)
    past_node_alike true (node.Element name attrs) behind behind_too =
        let own = own_alike table key attrs (style key parent) (element_starts start key (style key parent)) (element_starts other_start key (style key parent)) handed handed_too alike in
        record { parent = alike.parent; earlier = ap (λ earlier. box_of key kind.Element ∷ earlier) alike.earlier; sibling = own.set }
    past_node_alike true (node.Text characters) behind behind_too = alike
    past_node_alike false (node.Element name attrs) behind behind_too = alike
    past_node_alike false (node.Text characters) behind behind_too = alike

  -- All trees.

  pub record AreTreesAlike (boxed boxed_too : Bool) (handed handed_too : Handed) (nodes nodes_too : Forest (Keyed StyledNode)) : Type 0 where
    pub past : AreHandedAlike (past_trees table by_peers boxed handed nodes) (past_trees table by_peers boxed_too handed_too nodes_too)
    pub changes : box_changes table by_peers boxed handed nodes ≡ box_changes table by_peers boxed_too handed_too nodes_too

  pub trees_alike : (nodes : Forest (Keyed Node)) (parent : Option Style) (boxed : Bool) (handed handed_too : Handed) → AreHandedAlike handed handed_too
      → AreTreesAlike boxed boxed handed handed_too (trees parent nodes) (other_trees parent nodes)
  trees_alike Empty parent boxed handed handed_too alike = record { past = alike; changes = refl }
  trees_alike (Tree node children after) parent boxed handed handed_too alike =
      let key = node.key in
      let label = one parent key node.label in
      let label_too = other parent key node.label in
      let inner = style_within style start parent key node.label in
      let has = is_boxed boxed label in
      let first = within table by_peers has key label handed in
      let first_too = within table by_peers has key label_too handed_too in
      let below = trees_alike children inner has first first_too (within_alike parent key handed handed_too alike has node.label) in
      let behind = past_trees table by_peers has first (trees inner children) in
      let behind_too = past_trees table by_peers has first_too (other_trees inner children) in
      let next = past_node table by_peers has key label handed behind in
      let next_too = past_node table by_peers has key label_too handed_too behind_too in
      let rest = trees_alike after parent boxed next next_too (past_node_alike parent key handed handed_too alike has node.label behind behind_too) in
      let behind_with : Bool → Option Style → Handed = λ b own. past_trees table by_peers b (within table by_peers b key label_too handed_too) (other_trees own children) in
      let next_with : Bool → Option Style → Handed = λ b own. past_node table by_peers b key label_too handed_too (behind_with b own) in
      let changes_with : Bool → Option Style → List (BoxId × List Change) = λ b own.
      first_box_changes table by_peers b key label_too handed_too
      ++ (box_changes table by_peers b (within table by_peers b key label_too handed_too) (other_trees own children)
      ++ (last_box_changes table by_peers b key label_too (behind_with b own)
      ++ box_changes table by_peers boxed (next_with b own) (other_trees parent after))) in
      let Both : Bool → Option Style → Type 0 = λ b own.
      AreHandedAlike (past_trees table by_peers boxed next (trees parent after)) (past_trees table by_peers boxed (next_with b own) (other_trees parent after))
      × (box_changes table by_peers boxed handed (trees parent (Tree node children after)) ≡ changes_with b own) in
      let here : Both has inner = (
        rest.past,
        join_two (first_box_changes table by_peers has key label handed) (first_box_changes table by_peers has key label_too handed_too) _ _ (first_changes_same parent key handed handed_too alike has node.label)
            (join_two (box_changes table by_peers has first (trees inner children)) (box_changes table by_peers has first_too (other_trees inner children)) _ _ below.changes
            (join_two (last_box_changes table by_peers has key label behind) (last_box_changes table by_peers has key label_too behind_too) _ _ (last_changes_same parent key behind behind_too below.past has node.label)
            rest.changes)),
      ) in
      let both = subst (λ b. Both b (style_within style other_start parent key node.label)) (boxed_same boxed parent key node.label) (subst (Both has) (style_same parent key node.label) here) in
      record { past = both.0; changes = both.1 }

-- what each box of a document does to counters does not depend on its starts
pub same_box_changes_with : (table : List CounterStyle) (style : ℕ → Option Style → ElementStyle) (start other_start : BoxId → List ℕ → ℤ) (document : Forest (Keyed Node)) → all_box_changes table (styled style start document) ≡ all_box_changes table (styled style other_start document)
same_box_changes_with table style start other_start document = (trees_alike table style start other_start document None true at_root at_root (record { parent = refl; earlier = refl; sibling = refl })).changes

-- and so what they do all together
pub same_changes_with : (table : List CounterStyle) (style : ℕ → Option Style → ElementStyle) (start other_start : BoxId → List ℕ → ℤ) (document : Forest (Keyed Node)) → all_changes table (styled style start document) ≡ all_changes table (styled style other_start document)
same_changes_with table style start other_start document =
    changes_of_boxes table by_peers (styled style start document) true at_root
    ∙ ap (flat_map (λ (box : BoxId × List Change). box.1)) (same_box_changes_with table style start other_start document)
    ∙ sym (changes_of_boxes table by_peers (styled style other_start document) true at_root)
