-- The sets of a document's evaluation are those of its boxes.
use Rattle.std.proofs.Common.{◌≡◌, ◌++◌, ◌∷◌, ℕ, List, [], Bool, true, false, cond, Option, Some, None, refl, sym, ap, subst, ◌∙◌, append_assoc}
use Rattle.std.specs.Prelude.{unwrap_or}
use Rattle.std.specs.List.{AllByRecursion, fold}
use Rattle.forest.specs.Forest.{Forest, Empty, Tree}
use Rattle.forest.specs.Keys.{Keyed}
use Rattle.plain_types.specs.declared.box_id.BoxId.{BoxId}
use Rattle.plain_types.specs.declared.box_kind.BoxKind.{BoxKind}
use Rattle.plain_types.specs.declared.box_kind.BoxKind.TheVariants as kind
use Rattle.plain_types.specs.declared.content.Content.{Content}
use Rattle.plain_types.specs.declared.content.Content.TheVariants as content
use Rattle.plain_types.specs.declared.counter.Counter.{Counter}
use Rattle.plain_types.specs.declared.counter_style.CounterStyle.{CounterStyle}
use Rattle.plain_types.specs.declared.style.Style.{Style}
use Rattle.counter_sets.specs.Sets.{is_missing_in}
use Rattle.content_eval.specs.Contents.{generated, set_behind}
use Rattle.content_eval.specs.declared.generated.Generated.{Generated}
use Rattle.box_eval.specs.declared.change.Change.{Change}
use Rattle.box_eval.specs.declared.element_record.ElementRecord.{ElementRecord}
use Rattle.box_eval.specs.declared.formed.Formed.{Formed}
use Rattle.box_eval.specs.Boxes.{box_of, has_items, has_marker, has_pseudo_box}
use Rattle.box_eval.specs.Elements.{Handed, Styled, after_of, before_of, behind_marker, by_parent, children_handed, content_of, default_content, formed_box, inherited_by, inside, items_of, marker_content, marker_of, no_box, own_counted, past_formed, pseudo_counted, pseudo_formed}
use Rattle.box_eval.specs.Evaluation.{Element, StyledNode, Text, is_boxed, past_node, past_trees, record_of, records, records_of, within}
use Rattle.box_eval.proofs.ListLemmas.{each_append}
use Rattle.counter_scopes.specs.Boxes.{DocumentBox, beside, boxes_in, child_boxes, leaf, marker_box, node_boxes, own_box, pseudo_box}
use Rattle.counter_scopes.specs.Laws.{HoldsOfElement, HoldsOfMade}
use Rattle.counter_scopes.proofs.ToldLemmas.{each_back, each_front, exit_of, exit_some, own_set, sets}

-- Trees side by side.

-- the set of the last root
abbrev pub sibling_of : List Counter → Option (List Counter) → Option (List Counter) → Forest DocumentBox → Option (List Counter)
sibling_of parent sibling preceding Empty = sibling
sibling_of parent sibling preceding (Tree root children after) =
    let own = own_set parent sibling preceding root in
    sibling_of parent (Some own) (exit_of own None (Some own) children) after

sets_beside : (f g : Forest DocumentBox) (parent : List Counter) (sibling preceding : Option (List Counter)) → sets parent sibling preceding (beside f g) ≡ sets parent sibling preceding f ++ sets parent (sibling_of parent sibling preceding f) (exit_of parent sibling preceding f) g
sets_beside Empty g parent sibling preceding = refl
sets_beside (Tree root children after) g parent sibling preceding =
    let own = own_set parent sibling preceding root in
    let exit = exit_of own None (Some own) children in
    ap (λ all. (root, own) ∷ (sets own None (Some own) children ++ all)) (sets_beside after g parent (Some own) exit)
    ∙ ap (λ all. (root, own) ∷ all) (sym (append_assoc (sets own None (Some own) children) (sets parent (Some own) exit after) (sets parent (sibling_of parent (Some own) exit after) (exit_of parent (Some own) exit after) g)))

exit_beside : (f g : Forest DocumentBox) (parent : List Counter) (sibling preceding : Option (List Counter)) → exit_of parent sibling preceding (beside f g) ≡ exit_of parent (sibling_of parent sibling preceding f) (exit_of parent sibling preceding f) g
exit_beside Empty g parent sibling preceding = refl
exit_beside (Tree root children after) g parent sibling preceding = let own = own_set parent sibling preceding root in exit_beside after g parent (Some own) (exit_of own None (Some own) children)

sibling_beside : (f g : Forest DocumentBox) (parent : List Counter) (sibling preceding : Option (List Counter)) → sibling_of parent sibling preceding (beside f g) ≡ sibling_of parent (sibling_of parent sibling preceding f) (exit_of parent sibling preceding f) g
sibling_beside Empty g parent sibling preceding = refl
sibling_beside (Tree root children after) g parent sibling preceding = let own = own_set parent sibling preceding root in sibling_beside after g parent (Some own) (exit_of own None (Some own) children)

-- What is handed on behind boxes is what these leave.

abbrev pub sets_from : Handed → Forest DocumentBox → List (DocumentBox × List Counter)
sets_from handed g = sets handed.parent handed.sibling handed.preceding g

pub record Leaves (handed next : Handed) (g : Forest DocumentBox) : Type 0 where
  pub parent : next.parent ≡ handed.parent
  pub sibling : next.sibling ≡ sibling_of handed.parent handed.sibling handed.preceding g
  pub preceding : next.preceding ≡ exit_of handed.parent handed.sibling handed.preceding g

module _ (handed next : Handed) (f : Forest DocumentBox) (leaves : Leaves handed next f) where
  -- the boxes after them are handed this
  pub after_leaves : (g : Forest DocumentBox) → sets_from handed (beside f g) ≡ sets_from handed f ++ sets_from next g
  after_leaves g =
      sets_beside f g handed.parent handed.sibling handed.preceding
      ∙ ap (λ all. sets_from handed f ++ all)
      (sym (ap (λ parent. sets parent next.sibling next.preceding g) leaves.parent ∙ ap (λ sibling. sets handed.parent sibling next.preceding g) leaves.sibling ∙ ap (λ preceding. sets handed.parent (sibling_of handed.parent handed.sibling handed.preceding f) preceding g) leaves.preceding))

  leaves_both : (last : Handed) (g : Forest DocumentBox) → Leaves next last g → Leaves handed last (beside f g)
  leaves_both last g rest = record {
    parent = rest.parent ∙ leaves.parent;
    sibling =
        rest.sibling
        ∙ ap (λ parent. sibling_of parent next.sibling next.preceding g) leaves.parent ∙ ap (λ sibling. sibling_of handed.parent sibling next.preceding g) leaves.sibling ∙ ap (λ preceding. sibling_of handed.parent (sibling_of handed.parent handed.sibling handed.preceding f) preceding g) leaves.preceding
        ∙ sym (sibling_beside f g handed.parent handed.sibling handed.preceding);
    preceding =
        rest.preceding
        ∙ ap (λ parent. exit_of parent next.sibling next.preceding g) leaves.parent ∙ ap (λ sibling. exit_of handed.parent sibling next.preceding g) leaves.sibling ∙ ap (λ preceding. exit_of handed.parent (sibling_of handed.parent handed.sibling handed.preceding f) preceding g) leaves.preceding
        ∙ sym (exit_beside f g handed.parent handed.sibling handed.preceding);
  }

-- A law of the sets of boxes.
module _ (Holds : BoxId → List Counter → Type 0) where
  abbrev pub HoldsOf : DocumentBox × List Counter → Type 0
  HoldsOf pair = Holds pair.0.id pair.1

  abbrev pub AllHold : Handed → Forest DocumentBox → Type 0
  AllHold handed g = AllByRecursion HoldsOf (sets_from handed g)

  -- the box of a pseudo-element, where there is one
  pub record LeafDone (handed : Handed) (there : Bool) (box : DocumentBox) (formed : Formed) : Type 0 where
    pub leaves : Leaves handed (past_formed box.id formed handed) (leaf there box)
    pub holds : AllHold handed (leaf there box) → HoldsOfMade Holds box.id formed.made

  leaf_done : (handed : Handed) (there : Bool) (box : DocumentBox) (changes : List Change) (content : Generated) → content.set ≡ own_set handed.parent handed.sibling handed.preceding box → LeafDone handed there box (cond there (formed_box changes content) (no_box handed.depth))
  leaf_done handed true box changes content e = record {
    leaves = record { parent = refl; sibling = ap Some e; preceding = ap Some e };
    holds = λ h. subst (Holds box.id) (sym e) h.0;
  }
  leaf_done handed false box changes content e = record { leaves = record { parent = refl; sibling = refl; preceding = refl }; holds = λ h. tt }

  module _ (table : List CounterStyle) where
    marker_set : (key : ℕ) (element : Styled) (handed : Handed) (content : Content)
        → (cond (has_items content) (generated table (items_of content) element.attrs element.style.marker.quotes (box_of key kind.Marker) (is_missing_in handed.parent) (inherited_by handed) handed.depth) (default_content table element.style.own.list_type (inherited_by handed) handed.depth)).set
        ≡ fold (set_behind (is_missing_in handed.parent) (box_of key kind.Marker)) (inherited_by handed) (items_of content)
    marker_set key element handed content.Normal = refl
    marker_set key element handed content.Nothing = refl
    marker_set key element handed (content.Items items) = refl

    module _ (key : ℕ) (element : Styled) (handed : Handed) where
      abbrev pub own_here : List Counter
      own_here = (own_counted table by_parent key element handed).set

      abbrev pub around : Handed
      around = inside own_here handed.depth

      own_same : own_here ≡ own_set handed.parent handed.sibling handed.preceding (own_box key element)
      own_same = refl

      pub marker_done : LeafDone around (has_marker element.style) (marker_box key element) (marker_of table by_parent key element handed)
      marker_done =
          leaf_done around (has_marker element.style) (marker_box key element) []
          (marker_content table by_parent key element around) (marker_set key element around element.style.marker.content)

      pseudo_done : (which : BoxKind) (style : Style) (place : Handed) → LeafDone place (has_pseudo_box style) (pseudo_box key element which style) (pseudo_formed table by_parent key element which style place)
      pseudo_done which style place =
          let counted = pseudo_counted table by_parent key element which style place in
          leaf_done place (has_pseudo_box style) (pseudo_box key element which style) counted.changes (content_of table by_parent key element which style counted.set place) refl

      -- The boxes in an element's box, where those of its children leave this.

      abbrev pub marker_leaf : Forest DocumentBox
      marker_leaf = leaf (has_marker element.style) (marker_box key element)

      abbrev pub before_leaf : Forest DocumentBox
      before_leaf = leaf (has_pseudo_box element.style.before) (pseudo_box key element kind.Before element.style.before)

      abbrev pub after_leaf : Forest DocumentBox
      after_leaf = leaf (has_pseudo_box element.style.after) (pseudo_box key element kind.After element.style.after)

      pub before_done : LeafDone (behind_marker table by_parent key element handed) (has_pseudo_box element.style.before) (pseudo_box key element kind.Before element.style.before) (before_of table by_parent key element handed)
      before_done = pseudo_done kind.Before element.style.before (behind_marker table by_parent key element handed)

      module _ (behind : Handed) (children : Forest DocumentBox) (leaves : Leaves (children_handed table by_parent key element handed) behind children) where
        pub after_done : LeafDone behind (has_pseudo_box element.style.after) (pseudo_box key element kind.After element.style.after) (after_of table by_parent key element behind)
        after_done = pseudo_done kind.After element.style.after behind

        abbrev last : Handed
        last = past_formed (box_of key kind.After) (after_of table by_parent key element behind) behind

        pub inside_leaves : Leaves around last (child_boxes key element children)
        inside_leaves =
            let next = behind_marker table by_parent key element handed in
            let first = children_handed table by_parent key element handed in
            leaves_both around next marker_leaf marker_done.leaves last (beside before_leaf (beside children after_leaf))
            (leaves_both next first before_leaf before_done.leaves last (beside children after_leaf)
            (leaves_both first behind children leaves last after_leaf after_done.leaves))

        pub exit_is : Some (unwrap_or last.preceding []) ≡ exit_of own_here None (Some own_here) (child_boxes key element children)
        exit_is =
            let left = exit_some [] own_here own_here (child_boxes key element children) None in
            ap (λ preceding. Some (unwrap_or preceding [])) (inside_leaves.preceding ∙ left.1) ∙ sym left.1

        pub inside_holds : Holds (box_of key kind.Element) own_here → AllHold around (child_boxes key element children)
            → (HoldsOfElement Holds (key, record_of table by_parent true key element handed behind)) × AllHold (children_handed table by_parent key element handed) children
        inside_holds own all =
            let next = behind_marker table by_parent key element handed in
            let first = children_handed table by_parent key element handed in
            let one = subst (AllByRecursion HoldsOf) (after_leaves around next marker_leaf marker_done.leaves (beside before_leaf (beside children after_leaf))) all in
            let rest = each_back HoldsOf (sets_from around marker_leaf) (sets_from next (beside before_leaf (beside children after_leaf))) one in
            let two = subst (AllByRecursion HoldsOf) (after_leaves next first before_leaf before_done.leaves (beside children after_leaf)) rest in
            let more = each_back HoldsOf (sets_from next before_leaf) (sets_from first (beside children after_leaf)) two in
            let three = subst (AllByRecursion HoldsOf) (after_leaves first behind children leaves after_leaf) more in (
              (λ _. record {
                own = own;
                marker = marker_done.holds (each_front HoldsOf (sets_from around marker_leaf) (sets_from next (beside before_leaf (beside children after_leaf))) one);
                before = before_done.holds (each_front HoldsOf (sets_from next before_leaf) (sets_from first (beside children after_leaf)) two);
                after = after_done.holds (each_back HoldsOf (sets_from first children) (sets_from behind after_leaf) three);
              }),
              each_front HoldsOf (sets_from first children) (sets_from behind after_leaf) three,
            )

    -- Trees of a document.

    abbrev AllRecords : List (ℕ × ElementRecord) → Type 0
    AllRecords all = AllByRecursion (HoldsOfElement Holds) all

    -- elements without a box

    pub not_boxed : (label : StyledNode) → is_boxed false label ≡ false
    not_boxed (Element element) = refl
    not_boxed Text = refl

    node_unboxed : (has : Bool) (key : ℕ) (label : StyledNode) (children after : Forest (Keyed StyledNode)) (handed : Handed) → has ≡ false → AllRecords (records table by_parent false handed children) → AllRecords (records table by_parent false handed after)
        → (let first = within table by_parent has key label handed in
        let behind = past_trees table by_parent has first children in
        AllRecords (records table by_parent has first children ++ (records_of table by_parent has key label handed behind ++ records table by_parent false (past_node table by_parent has key label handed behind) after)))
    node_unboxed true key label children after handed e below rest = absurd (cc)
    node_unboxed false key (Element element) children after handed e below rest = each_append (HoldsOfElement Holds) (records table by_parent false handed children) _ below ((λ h. absurd (cc)), rest)
    node_unboxed false key Text children after handed e below rest = each_append (HoldsOfElement Holds) (records table by_parent false handed children) _ below rest

    unboxed : (trees : Forest (Keyed StyledNode)) (handed : Handed) → AllRecords (records table by_parent false handed trees)
    unboxed Empty handed = tt
    unboxed (Tree node children after) handed = node_unboxed (is_boxed false node.label) node.key node.label children after handed (not_boxed node.label) (unboxed children handed) (unboxed after handed)

    pub record Bridged (boxed : Bool) (handed : Handed) (trees : Forest (Keyed StyledNode)) : Type 0 where
      pub leaves : Leaves handed (past_trees table by_parent boxed handed trees) (boxes_in boxed trees)
      pub holds : AllHold handed (boxes_in boxed trees) → AllRecords (records table by_parent boxed handed trees)

    -- a node, its children and the trees after it
    node_bridged : (boxed has : Bool) (key : ℕ) (label : StyledNode) (children after : Forest (Keyed StyledNode)) (handed : Handed) → is_boxed boxed label ≡ has → ((place : Handed) → Bridged has place children) → ((place : Handed) → Bridged boxed place after)
        → (let first = within table by_parent has key label handed in
        let behind = past_trees table by_parent has first children in
        let next = past_node table by_parent has key label handed behind in
        let boxes = beside (node_boxes has key label (boxes_in has children)) (boxes_in boxed after) in
        Leaves handed (past_trees table by_parent boxed next after) boxes
        × (AllHold handed boxes → AllRecords (records table by_parent has first children ++ (records_of table by_parent has key label handed behind ++ records table by_parent boxed next after))))
    node_bridged boxed true key (Element element) children after handed e below rest =
        let first = children_handed table by_parent key element handed in
        let behind = past_trees table by_parent true first children in
        let next = past_node table by_parent true key (Element element) handed behind in
        let inner = below first in
        let onward = rest next in
        let boxes = boxes_in true children in
        let kids = child_boxes key element boxes in
        let own = own_here key element handed in
        let here : Leaves handed next (Tree (own_box key element) kids Empty) = record { parent = refl; sibling = refl; preceding = exit_is key element handed behind boxes inner.leaves } in (
          leaves_both handed next (Tree (own_box key element) kids Empty) here (past_trees table by_parent boxed next after) (boxes_in boxed after) onward.leaves,
          (λ all.
              let split = subst (AllByRecursion HoldsOf) (after_leaves handed next (Tree (own_box key element) kids Empty) here (boxes_in boxed after)) all in
              let mine = each_front HoldsOf (sets_from handed (Tree (own_box key element) kids Empty)) (sets_from next (boxes_in boxed after)) split in
              let done = inside_holds key element handed behind boxes inner.leaves mine.0 (each_front HoldsOf (sets own None (Some own) kids) [] mine.1) in
              each_append (HoldsOfElement Holds) (records table by_parent true first children) _ (inner.holds done.1)
              (done.0, onward.holds (each_back HoldsOf (sets_from handed (Tree (own_box key element) kids Empty)) (sets_from next (boxes_in boxed after)) split))),
        )
    node_bridged boxed true key Text children after handed e below rest = absurd (cc)
    node_bridged boxed false key (Element element) children after handed e below rest =
        ((rest handed).leaves, (λ all. each_append (HoldsOfElement Holds) (records table by_parent false handed children) _ (unboxed children handed) ((λ h. absurd (cc)), (rest handed).holds all)))
    node_bridged boxed false key Text children after handed e below rest =
        ((rest handed).leaves, (λ all. each_append (HoldsOfElement Holds) (records table by_parent false handed children) _ (unboxed children handed) ((rest handed).holds all)))

    pub bridged : (trees : Forest (Keyed StyledNode)) (boxed : Bool) (handed : Handed) → Bridged boxed handed trees
    bridged Empty boxed handed = record { leaves = record { parent = refl; sibling = refl; preceding = refl }; holds = λ h. tt }
    bridged (Tree node children after) boxed handed =
        let has = is_boxed boxed node.label in
        let both = node_bridged boxed has node.key node.label children after handed refl (λ place. bridged children has place) (λ place. bridged after boxed place) in
        record { leaves = both.0; holds = both.1 }
