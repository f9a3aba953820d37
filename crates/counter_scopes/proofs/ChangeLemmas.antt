-- The changes of a document's evaluation are those of its boxes.
use Rattle.std.proofs.Common.{◌≡◌, ◌++◌, ◌∷◌, ℕ, ℤ, pos, List, [], Bool, true, false, cond, Option, Some, None, map, refl, sym, ap, ◌∙◌, append-nil, append_assoc}
use Rattle.std.proofs.lemmas.List.{map-append}
use Rattle.std.specs.Prelude.{filter, not, unwrap_or}
use Rattle.std.specs.List.{last_or, list_any}
use Rattle.std.specs.Option.{option_map, option_map_or}
use Rattle.std.specs.Str.{bytes_eq}
use Rattle.css_definitions.specs.CounterStyles.{distinct}
use Rattle.forest.specs.Forest.{Forest, Empty, Tree}
use Rattle.forest.specs.Keys.{Keyed}
use Rattle.plain_types.specs.declared.box_id.BoxId.{BoxId}
use Rattle.plain_types.specs.declared.box_kind.BoxKind.{BoxKind}
use Rattle.plain_types.specs.declared.box_kind.BoxKind.TheVariants as kind
use Rattle.plain_types.specs.declared.counter.Counter.{Counter}
use Rattle.plain_types.specs.declared.counter_style.CounterStyle.{CounterStyle}
use Rattle.plain_types.specs.declared.style.CounterOp.{CounterOp}
use Rattle.plain_types.specs.declared.style.Style.{Style}
use Rattle.counter_sets.specs.Sets.{innermost, is_missing_in}
use Rattle.content_eval.specs.declared.generated.Generated.{Generated}
use Rattle.box_eval.specs.declared.change.Change.{Change}
use Rattle.box_eval.specs.Boxes.{box_of, has_marker, has_pseudo_box}
use Rattle.box_eval.specs.Elements.{Handed, Styled, after_of, before_of, behind_marker, by_parent, children_handed, content_of, formed_box, inherited_by, marker_content, marker_of, no_box, own_counted, pseudo_counted, pseudo_formed}
use Rattle.box_eval.specs.Evaluation.{Element, StyledNode, Text, box_changes, first_box_changes, is_boxed, last_box_changes, made_box_changes, past_node, past_trees, within}
use Rattle.box_eval.specs.Properties as properties
use Rattle.box_eval.specs.Properties.{change_of, changes_of, has_implicit_step, implicit_op, increments_of, is_for, last_assigns, merged, names, number_for, sum_for}
use Rattle.counter_scopes.specs.Boxes.{DocumentBox, beside, boxes_in, child_boxes, leaf, marker_box, node_boxes, own_box, pseudo_box}
use Rattle.counter_scopes.specs.Counting.{changed_names, event_for, increment_for, incremented_names, mentions, uses}
use Rattle.counter_scopes.proofs.BoxesLemmas.{Leaves, after_leaf, after_leaves, around, before_done, before_leaf, bridged, exit_is, marker_done, marker_leaf, not_boxed, own_here, sets_from}
use Rattle.counter_scopes.proofs.CountLemmas.{box_is, box_set, changed, counted_set, items_are, reset_named, reset_set, resets_are, with_new}
use Rattle.counter_scopes.proofs.NameLemmas.{at_last, innermost_is, only}
use Rattle.counter_scopes.proofs.OpLemmas.{any_names, increments_found, is_last_reversed}
use Rattle.counter_scopes.proofs.ToldLemmas.{own_set, sets}

-- The names that a box changes.

names_whole : (increments : List CounterOp) (all : List (List ℕ)) → names (map (λ name. record { name = name; value = sum_for name increments }) all) ≡ all
names_whole increments [] = refl
names_whole increments (name ∷ all) = ap (λ rest. name ∷ rest) (names_whole increments all)

names_merged : (increments : List CounterOp) → names (merged increments) ≡ distinct (names increments)
names_merged increments = names_whole increments (distinct (names increments))

names_increments : (box : DocumentBox) (set : List Counter) → names (increments_of box.is_item box.increments set) ≡ incremented_names box
names_increments box set = by_step (has_implicit_step box.is_item box.increments)
  where
    by_step : (b : Bool) → names (cond b (merged box.increments ++ implicit_op set ∷ []) (merged box.increments)) ≡ distinct (names box.increments) ++ cond b (properties.list_item ∷ []) []
    by_step true = map-append (λ (op : CounterOp). op.name) (merged box.increments) (implicit_op set ∷ []) ∙ ap (λ all. all ++ properties.list_item ∷ []) (names_merged box.increments)
    by_step false = names_merged box.increments ∙ sym (append-nil (distinct (names box.increments)))

names_only_set : (before assigns : List CounterOp) → names (filter (λ (op : CounterOp). not (list_any (is_for op.name) before)) assigns) ≡ filter (λ name. not (list_any (λ other. bytes_eq other name) (names before))) (names assigns)
names_only_set before [] = refl
names_only_set before (op ∷ assigns) =
    kept (list_any (is_for op.name) before)
    ∙ ap (λ all. cond (not (list_any (is_for op.name) before)) (op.name ∷ all) all) (names_only_set before assigns)
    ∙ ap (λ b. cond (not b) (op.name ∷ filter (λ name. not (list_any (λ other. bytes_eq other name) (names before))) (names assigns)) (filter (λ name. not (list_any (λ other. bytes_eq other name) (names before))) (names assigns))) (sym (any_names op.name before))
  where
    kept : (b : Bool) → (let rest = filter (λ (op : CounterOp). not (list_any (is_for op.name) before)) assigns in names (cond (not b) (op ∷ rest) rest) ≡ cond (not b) (op.name ∷ names rest) (names rest))
    kept true = refl
    kept false = refl

names_are : (box : DocumentBox) (set : List Counter) → properties.changed_names (increments_of box.is_item box.increments set) (last_assigns box.assigns) ≡ changed_names box
names_are box set =
    let before = increments_of box.is_item box.increments set in
    let both : List (List ℕ) → List (List ℕ) = λ first. first ++ filter (λ name. not (list_any (λ other. bytes_eq other name) first)) (names (last_assigns box.assigns)) in
    map-append (λ (op : CounterOp). op.name) before (filter (λ (op : CounterOp). not (list_any (is_for op.name) before)) (last_assigns box.assigns))
    ∙ ap (λ rest. names before ++ rest) (names_only_set before (last_assigns box.assigns))
    ∙ ap both (names_increments box set)

-- What a box did to its innermost counter of a name, which is this one, and with these counters.

abbrev pub change_with : DocumentBox → List ℕ → Option Counter → Change
change_with box name innermost = record {
  creator = option_map_or (λ (counter : Counter). counter.creator) innermost box.id;
  name = name;
  event = event_for name box (option_map_or (λ (counter : Counter). counter.reversed) innermost false);
}

abbrev pub change_from : DocumentBox → List Counter → List ℕ → Change
change_from box set name = change_with box name (last_or None (only name set))

abbrev pub changes_from : DocumentBox × List Counter → List Change
changes_from pair = map (change_from pair.0 pair.1) (changed_names pair.0)

module _ (name : List ℕ) (box : DocumentBox) where
  last_changed : (otherwise : Option Counter) (c : Counter) (cs : List Counter) → option_map_or (λ (counter : Counter). counter.reversed) (last_or otherwise (at_last (changed name box) (c ∷ cs))) false ≡ is_last_reversed (c ∷ cs)
  last_changed otherwise c [] = refl
  last_changed otherwise c (d ∷ cs) = last_changed (Some c) d cs

  changed_flag : (cs : List Counter) → is_last_reversed (at_last (changed name box) cs) ≡ is_last_reversed cs
  changed_flag [] = refl
  changed_flag (c ∷ cs) = last_changed None c cs

  new_flag : (there : Bool) (cs : List Counter) → is_last_reversed (with_new name box there cs) ≡ is_last_reversed cs
  new_flag true [] = refl
  new_flag true (c ∷ cs) = refl
  new_flag false cs = refl

  abbrev creator_in : List Counter → BoxId
  creator_in named = option_map_or (λ (counter : Counter). counter.creator) (last_or None named) box.id

  new_creator : (there : Bool) (cs : List Counter) → creator_in (with_new name box there cs) ≡ creator_in cs
  new_creator true [] = refl
  new_creator true (c ∷ cs) = refl
  new_creator false cs = refl

  module _ (parent inherited : List Counter) where
    -- whether the innermost counter is reversed, and what the box adds to it
    flag_is : is_last_reversed (only name (reset_set parent box inherited)) ≡ is_last_reversed (only name (box_set parent box inherited))
    flag_is =
        let reset = reset_named name box (is_missing_in parent) (only name inherited) in
        ap is_last_reversed (resets_are name box (is_missing_in parent) inherited)
        ∙ sym (ap is_last_reversed (box_is name box parent inherited) ∙ changed_flag (with_new name box (mentions name box) reset) ∙ new_flag (mentions name box) reset)

    added_is : number_for name (increments_of box.is_item box.increments (reset_set parent box inherited)) ≡ increment_for name box (is_last_reversed (only name (box_set parent box inherited)))
    added_is =
        let reset = reset_set parent box inherited in
        ap (option_map (λ (op : CounterOp). op.value)) (increments_found name box.is_item box.increments reset)
        ∙ by_option (increment_for name box (is_last_reversed (only name reset)))
        ∙ ap (increment_for name box) flag_is
      where
        by_option : (by : Option ℤ) → option_map (λ (op : CounterOp). op.value) (option_map (λ value. record { name = name; value = value }) by) ≡ by
        by_option None = refl
        by_option (Some value) = refl

    creator_is : option_map_or (λ (counter : Counter). counter.creator) (innermost (counted_set parent box inherited) name) box.id ≡ creator_in (only name (box_set parent box inherited))
    creator_is =
        let counted = counted_set parent box inherited in
        ap (λ found. option_map_or (λ (counter : Counter). counter.creator) found box.id) (innermost_is name counted)
        ∙ sym (ap creator_in (items_are name box (is_missing_in parent) box.items counted) ∙ new_creator (list_any (uses name) box.items) (only name counted))

    change_is : change_of box.id (increments_of box.is_item box.increments (reset_set parent box inherited)) (last_assigns box.assigns) (counted_set parent box inherited) name ≡ change_from box (box_set parent box inherited) name
    change_is =
        let make : BoxId → Option ℤ → Change = λ creator by. record { creator = creator; name = name; event = record { by = unwrap_or by (pos 0); assigned = number_for name (last_assigns box.assigns) } } in
        ap (λ creator. make creator (number_for name (increments_of box.is_item box.increments (reset_set parent box inherited)))) creator_is
        ∙ ap (make (creator_in (only name (box_set parent box inherited)))) added_is

pub map_same : {A B : Type 0} (f g : A → B) → ((x : A) → f x ≡ g x) → (xs : List A) → map f xs ≡ map g xs
map_same f g same [] = refl
map_same f g same (x ∷ xs) = ap (λ y. y ∷ map f xs) (same x) ∙ ap (λ all. g x ∷ all) (map_same f g same xs)

-- what a box is told to change by its evaluation is told by its counters
counted_acts : (parent inherited : List Counter) (box : DocumentBox)
    → changes_of box.id (increments_of box.is_item box.increments (reset_set parent box inherited)) (last_assigns box.assigns) (counted_set parent box inherited) ≡ changes_from (box, box_set parent box inherited)
counted_acts parent inherited box =
    let before = increments_of box.is_item box.increments (reset_set parent box inherited) in
    let change = change_of box.id before (last_assigns box.assigns) (counted_set parent box inherited) in
    ap (map change) (names_are box (reset_set parent box inherited))
    ∙ map_same change (change_from box (box_set parent box inherited)) (λ name. change_is name box parent inherited) (changed_names box)

-- Trees side by side.

-- a box with its counters, and what it does to counters
abbrev pub box_acts : DocumentBox × List Counter → BoxId × List Change
box_acts pair = (pair.0.id, changes_from pair)

abbrev pub acts : Handed → Forest DocumentBox → List (BoxId × List Change)
acts handed g = map box_acts (sets_from handed g)

acts_both : (handed next : Handed) (f : Forest DocumentBox) → Leaves handed next f → (g : Forest DocumentBox) → acts handed (beside f g) ≡ acts handed f ++ acts next g
acts_both handed next f leaves g = ap (map box_acts) (after_leaves handed next f leaves g) ∙ map-append box_acts (sets_from handed f) (sets_from next g)

abbrev NoLaw : BoxId → List Counter → Type 0
NoLaw box set = Unit {0}

-- the box of a pseudo-element, where there is one
leaf_acts : (handed : Handed) (there : Bool) (box : DocumentBox) (those : List Change) (content : Generated) → those ≡ changes_from (box, own_set handed.parent handed.sibling handed.preceding box) → acts handed (leaf there box) ≡ made_box_changes box.id (cond there (formed_box those content) (no_box handed.depth)).made
leaf_acts handed true box those content e = ap (λ changes. (box.id, changes) ∷ []) (sym e)
leaf_acts handed false box those content e = refl

module _ (table : List CounterStyle) where
  module _ (key : ℕ) (element : Styled) (handed : Handed) where
    marker_acts : acts (around NoLaw table key element handed) (leaf (has_marker element.style) (marker_box key element)) ≡ made_box_changes (box_of key kind.Marker) (marker_of table by_parent key element handed).made
    marker_acts =
        let place = around NoLaw table key element handed in
        leaf_acts place (has_marker element.style) (marker_box key element) [] (marker_content table by_parent key element place) refl

    pseudo_acts : (which : BoxKind) (style : Style) (place : Handed) → acts place (leaf (has_pseudo_box style) (pseudo_box key element which style)) ≡ made_box_changes (box_of key which) (pseudo_formed table by_parent key element which style place).made
    pseudo_acts which style place =
        let box = pseudo_box key element which style in
        let counted = pseudo_counted table by_parent key element which style place in
        leaf_acts place (has_pseudo_box style) box counted.changes (content_of table by_parent key element which style counted.set place) (counted_acts place.parent (inherited_by place) box)

    own_acts : (own_counted table by_parent key element handed).changes ≡ changes_from (own_box key element, own_set handed.parent handed.sibling handed.preceding (own_box key element))
    own_acts = counted_acts handed.parent (inherited_by handed) (own_box key element)

    module _ (behind : Handed) (children : Forest DocumentBox) (leaves : Leaves (children_handed table by_parent key element handed) behind children) where
      -- the boxes in an element's box
      inside_acts : acts (around NoLaw table key element handed) (child_boxes key element children)
          ≡ made_box_changes (box_of key kind.Marker) (marker_of table by_parent key element handed).made
          ++ (made_box_changes (box_of key kind.Before) (before_of table by_parent key element handed).made
          ++ (acts (children_handed table by_parent key element handed) children ++ made_box_changes (box_of key kind.After) (after_of table by_parent key element behind).made))
      inside_acts =
          let place = around NoLaw table key element handed in
          let next = behind_marker table by_parent key element handed in
          let first = children_handed table by_parent key element handed in
          let marker = marker_leaf NoLaw table key element handed in
          let before = before_leaf NoLaw table key element handed in
          let after = after_leaf NoLaw table key element handed in
          acts_both place next marker (marker_done NoLaw table key element handed).leaves (beside before (beside children after))
          ∙ ap (λ all. all ++ acts next (beside before (beside children after))) marker_acts
          ∙ ap (λ all. made_box_changes (box_of key kind.Marker) (marker_of table by_parent key element handed).made ++ all)
          (acts_both next first before (before_done NoLaw table key element handed).leaves (beside children after)
          ∙ ap (λ all. all ++ acts first (beside children after)) (pseudo_acts kind.Before element.style.before next)
          ∙ ap (λ all. made_box_changes (box_of key kind.Before) (before_of table by_parent key element handed).made ++ all)
          (acts_both first behind children leaves after ∙ ap (λ all. acts first children ++ all) (pseudo_acts kind.After element.style.after behind)))

      element_acts : acts handed (Tree (own_box key element) (child_boxes key element children) Empty)
          ≡ first_box_changes table by_parent true key (Element element) handed ++ (acts (children_handed table by_parent key element handed) children ++ last_box_changes table by_parent true key (Element element) behind)
      element_acts =
          let own = own_here NoLaw table key element handed in
          let kids = child_boxes key element children in
          let here : List Change → BoxId × List Change = λ changes. (box_of key kind.Element, changes) in
          let marker = made_box_changes (box_of key kind.Marker) (marker_of table by_parent key element handed).made in
          let before = made_box_changes (box_of key kind.Before) (before_of table by_parent key element handed).made in
          let rest = acts (children_handed table by_parent key element handed) children ++ last_box_changes table by_parent true key (Element element) behind in
          ap (λ pairs. box_acts (own_box key element, own) ∷ map box_acts pairs) (append-nil (sets own None (Some own) kids))
          ∙ ap (λ changes. here changes ∷ acts (around NoLaw table key element handed) kids) (sym own_acts)
          ∙ ap (λ all. here (own_counted table by_parent key element handed).changes ∷ all) (inside_acts ∙ sym (append_assoc marker before rest))

  -- Trees of a document.

  node_unchanged : (has : Bool) (key : ℕ) (label : StyledNode) (children after : Forest (Keyed StyledNode)) (handed : Handed) → has ≡ false → box_changes table by_parent false handed children ≡ [] → box_changes table by_parent false handed after ≡ []
      → (let first = within table by_parent has key label handed in
      let behind = past_trees table by_parent has first children in
      first_box_changes table by_parent has key label handed ++ (box_changes table by_parent has first children ++ (last_box_changes table by_parent has key label behind ++ box_changes table by_parent false (past_node table by_parent has key label handed behind) after)) ≡ [])
  node_unchanged true key label children after handed e below rest = absurd (cc)
  node_unchanged false key (Element element) children after handed e below rest = rw (below, rest) refl
  node_unchanged false key Text children after handed e below rest = rw (below, rest) refl

  -- nothing without a box changes a counter
  unchanged : (trees : Forest (Keyed StyledNode)) (handed : Handed) → box_changes table by_parent false handed trees ≡ []
  unchanged Empty handed = refl
  unchanged (Tree node children after) handed = node_unchanged (is_boxed false node.label) node.key node.label children after handed (not_boxed NoLaw table node.label) (unchanged children handed) (unchanged after handed)

  node_acts : (boxed has : Bool) (key : ℕ) (label : StyledNode) (children after : Forest (Keyed StyledNode)) (handed : Handed) → is_boxed boxed label ≡ has
      → ((place : Handed) → box_changes table by_parent has place children ≡ acts place (boxes_in has children)) → ((place : Handed) → box_changes table by_parent boxed place after ≡ acts place (boxes_in boxed after))
      → (let first = within table by_parent has key label handed in
      let behind = past_trees table by_parent has first children in
      first_box_changes table by_parent has key label handed ++ (box_changes table by_parent has first children ++ (last_box_changes table by_parent has key label behind ++ box_changes table by_parent boxed (past_node table by_parent has key label handed behind) after))
      ≡ acts handed (beside (node_boxes has key label (boxes_in has children)) (boxes_in boxed after)))
  node_acts boxed true key (Element element) children after handed e below rest =
      let first = children_handed table by_parent key element handed in
      let behind = past_trees table by_parent true first children in
      let next = past_node table by_parent true key (Element element) handed behind in
      let boxes = boxes_in true children in
      let leaves = (bridged NoLaw table children true first).leaves in
      let own = own_here NoLaw table key element handed in
      let whole = Tree (own_box key element) (child_boxes key element boxes) Empty in
      let here : Leaves handed next whole = record { parent = refl; sibling = refl; preceding = exit_is NoLaw table key element handed behind boxes leaves } in
      let one = first_box_changes table by_parent true key (Element element) handed in
      let two = acts first boxes in
      let three = last_box_changes table by_parent true key (Element element) behind in
      let four = acts next (boxes_in boxed after) in
      ap (λ all. one ++ (all ++ (three ++ box_changes table by_parent boxed next after))) (below first)
      ∙ ap (λ all. one ++ (two ++ (three ++ all))) (rest next)
      ∙ sym (acts_both handed next whole here (boxes_in boxed after)
      ∙ ap (λ all. all ++ four) (element_acts key element handed behind boxes leaves)
      ∙ append_assoc one (two ++ three) four
      ∙ ap (λ all. one ++ all) (append_assoc two three four))
  node_acts boxed true key Text children after handed e below rest = absurd (cc)
  node_acts boxed false key (Element element) children after handed e below rest = ap (λ all. all ++ box_changes table by_parent boxed handed after) (unchanged children handed) ∙ rest handed
  node_acts boxed false key Text children after handed e below rest = ap (λ all. all ++ box_changes table by_parent boxed handed after) (unchanged children handed) ∙ rest handed

  pub changes_are : (trees : Forest (Keyed StyledNode)) (boxed : Bool) (handed : Handed) → box_changes table by_parent boxed handed trees ≡ acts handed (boxes_in boxed trees)
  changes_are Empty boxed handed = refl
  changes_are (Tree node children after) boxed handed =
      let has = is_boxed boxed node.label in
      node_acts boxed has node.key node.label children after handed refl (λ place. changes_are children has place) (λ place. changes_are after boxed place)
