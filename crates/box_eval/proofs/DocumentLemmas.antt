-- Whole documents, by the boxes' peers and by their parents' sets.
use Rattle.std.proofs.Common.{◌≡◌, ◌+◌, ◌≤◌, ◌++◌, ◌∷◌, ◌==◌, ℕ, List, [], Bool, true, false, cond, Option, Some, None, refl, sym, ap, subst, ◌∙◌, arith, ℤ, inl, inr}
use Rattle.std.proofs.lemmas.Bool.{and_left, and_right, both_ways, cases_Bool, eq-eqb, eqb-true}
use Rattle.std.proofs.lemmas.Bool.Decides.{nat_tests}
use Rattle.std.specs.Prelude.{unwrap_or}
use Rattle.std.specs.List.{AllByRecursion, list_any}
use Rattle.forest.specs.Forest.{Forest, Empty, Tree}
use Rattle.forest.specs.Keys.{Keyed, HasDistinctKeys, times}
use Rattle.plain_types.specs.declared.box_id.BoxId.{BoxId}
use Rattle.plain_types.specs.declared.box_kind.BoxKind.{BoxKind}
use Rattle.plain_types.specs.declared.box_kind.BoxKind.TheVariants as kind
use Rattle.plain_types.specs.declared.counter.Counter.{Counter}
use Rattle.plain_types.specs.declared.counter_style.CounterStyle.{CounterStyle}
use Rattle.counter_sets.specs.Sets.{is_by_peer, is_missing_in, is_same_box}
use Rattle.box_eval.specs.declared.counting.Counted.{Counted}
use Rattle.box_eval.specs.declared.entry.Closing.{Closing}
use Rattle.box_eval.specs.declared.entry.Entry.{Entry}
use Rattle.box_eval.specs.declared.formed.Formed.{Formed}
use Rattle.box_eval.specs.declared.inputs.Inputs.{Inputs}
use Rattle.box_eval.specs.declared.made.Made.{Made}
use Rattle.box_eval.specs.Boxes.{box_of, has_marker, has_pseudo_box}
use Rattle.box_eval.specs.Elements.{Handed, Styled, after_of, at_root, before_of, behind_marker, by_parent, by_peers, children_handed, closing_of, content_of, entry_of, formed_box, inherited_by, inside, marker_content, marker_of, no_box, own_counted, past, past_formed, pseudo_counted}
use Rattle.box_eval.specs.Laws.{AreBoxesScoped, AreScoped, IsMadeScoped, IsNodeScoped, IsScoped}
use Rattle.box_eval.specs.declared.element_record.ElementRecord.{ElementRecord}
use Rattle.box_eval.specs.Evaluation.{Element, StyledNode, Text, box_changes, changes, changes_in, first_box_changes, first_changes, inputs, inputs_of, is_boxed, last_box_changes, last_changes, made_box_changes, past_node, past_trees, record_of, records, records_of, within}
use Rattle.box_eval.specs.Scopes.{AreEarlier, AreNew, HasNoneOf, first_boxes, last_boxes}
use Rattle.box_eval.proofs.Agreement.{AllAgree}
use Rattle.box_eval.proofs.ElementLemmas.{Holds, IsReady, holds_if, marker_agrees, marker_good, new_after, new_element, own_agrees, own_good, pseudo_agrees, pseudo_good, pseudo_same}
use Rattle.box_eval.proofs.EntryLemmas.{before_is, before_ready, behind_marker_is, children_same, closing_any, closing_same, element_ready, entry_same, marker_is, marker_ready, next_inherits, none_both, none_by_before, none_by_marker, own_is, ready_in}
use Rattle.box_eval.proofs.KeptLemmas.{inherited_good}
use Rattle.box_eval.proofs.ListLemmas.{each_imp, or_none}

-- Which keys stand in trees.

abbrev pub IsOut : Forest (Keyed StyledNode) → Counter → Type 0
IsOut trees counter = times counter.creator.key trees ≡ 0

steady_out : (trees : Forest (Keyed StyledNode)) (counter : Counter) (value : ℤ) → IsOut trees counter → IsOut trees (record counter { value = value })
steady_out trees counter value h = h

module _ (node : Keyed StyledNode) (children after : Forest (Keyed StyledNode)) where
  out_parts : (key : ℕ) → times key (Tree node children after) ≡ 0 → ((node.key == key) ≡ false) × (times key children ≡ 0) × (times key after ≡ 0)
  out_parts key h = elim (cases_Bool (node.key == key)) [
    | inl e ↦ absurd (let one : 1 + (times key children + times key after) ≡ 0 = rw e at h in omega arith)
    | inr e ↦ let none : 0 + (times key children + times key after) ≡ 0 = rw e at h in (e, omega arith, omega arith)
  ]

  apart_parts : HasDistinctKeys (Tree node children after) → (times node.key children ≡ 0) × (times node.key after ≡ 0) × HasDistinctKeys children × HasDistinctKeys after
  apart_parts distinct =
      let here : (node.key == node.key) ≡ true = eq-eqb node.key node.key refl in
      let one : 1 + (times node.key children + times node.key after) ≤ 1 = rw here at (distinct node.key) in
      (omega arith, omega arith, (λ key. let all = distinct key in omega arith), (λ key. let all = distinct key in omega arith))

number_symm : (a b : ℕ) → (a == b) ≡ (b == a)
number_symm a b = grind (arith, nat_tests)

-- a counter that a box of another key created is by none of an element's first boxes
first_list : (creator : BoxId) (key : ℕ) (marker before : Bool) → (creator.key == key) ≡ false → list_any (is_same_box creator) (box_of key kind.Element ∷ (cond marker (box_of key kind.Marker ∷ []) [] ++ cond before (box_of key kind.Before ∷ []) [])) ≡ false
first_list creator key true true e = rw e refl
first_list creator key true false e = rw e refl
first_list creator key false true e = rw e refl
first_list creator key false false e = rw e refl

each_any : {A : Type 0} (P : A → Type 0) → ((x : A) → P x) → (xs : List A) → AllByRecursion P xs
each_any P h [] = tt
each_any P h (x ∷ xs) = (h x, each_any P h xs)

-- What is handed on.

pub record Fits (handed : Handed) : Type 0 where
  pub parent : HasNoneOf handed.earlier handed.parent
  pub sibling : AllByRecursion (λ counter. is_missing_in handed.parent counter ≡ true → is_by_peer handed.earlier counter ≡ true) (unwrap_or handed.sibling [])

-- what holds of each counter of the parent's and of the sibling's set
pub record AreGood (Good : Counter → Type 0) (handed : Handed) : Type 0 where
  pub parent : AllByRecursion Good handed.parent
  pub sibling : AllByRecursion Good (unwrap_or handed.sibling [])

pub record Level (trees : Forest (Keyed StyledNode)) (handed : Handed) : Type 0 where
  pub out : AreGood (IsOut trees) handed
  pub fits : Fits handed

abbrev pub inputs_from : ℕ → Styled → Handed → Inputs
inputs_from key element handed = record { key = key; parent = handed.parent; sibling = handed.sibling; preceding = handed.preceding; depth = handed.depth; starts = element.starts }

past_parent : (box : BoxId) (made : Option Made) (depth : ℕ) (handed : Handed) → (past_formed box (record { made = made; depth = depth }) handed).parent ≡ handed.parent
past_parent box None depth handed = refl
past_parent box (Some made) depth handed = refl

good_next : (Good : Counter → Type 0) (box : BoxId) (made : Option Made) (depth : ℕ) (handed : Handed) → AreGood Good handed → Holds (AllByRecursion Good) made → AreGood Good (past_formed box (record { made = made; depth = depth }) handed)
good_next Good box None depth handed good h = record { parent = good.parent; sibling = good.sibling }
good_next Good box (Some made) depth handed good h = record { parent = good.parent; sibling = h }

fits_next : (box : BoxId) (made : Option Made) (depth : ℕ) (handed : Handed) → Fits handed → Holds (λ _. HasNoneOf (box ∷ []) handed.parent) made → Holds (AllAgree (box ∷ handed.earlier) handed.parent) made → Fits (past_formed box (record { made = made; depth = depth }) handed)
fits_next box None depth handed fits none agrees = record { parent = fits.parent; sibling = fits.sibling }
fits_next box (Some made) depth handed fits none agrees = record {
  parent = none_both box handed.earlier handed.parent none fits.parent;
  sibling =
      each_imp (λ counter. is_by_peer (box ∷ handed.earlier) counter ≡ is_missing_in handed.parent counter) (λ counter. is_missing_in handed.parent counter ≡ true → is_by_peer (box ∷ handed.earlier) counter ≡ true)
      (λ counter h e. h ∙ e) made.set agrees;
}

inherits_good : (Good : Counter → Type 0) → ((counter : Counter) (value : ℤ) → Good counter → Good (record counter { value = value })) → (handed : Handed) → AreGood Good handed → AllByRecursion Good (inherited_by handed)
inherits_good Good steady handed good =
    inherited_good Good steady handed.parent handed.sibling handed.preceding good.parent
    (each_imp Good (λ counter. is_missing_in handed.parent counter ≡ true → Good counter) (λ counter h e. h) (unwrap_or handed.sibling []) good.sibling)

-- An element's boxes.
module _ (table : List CounterStyle) (key : ℕ) (element : Styled) (handed : Handed) where
  abbrev pub own_set : List Counter
  own_set = (own_counted table by_parent key element handed).set

  -- what is good of all that is handed and of all that the element's boxes create is good inside it
  module _ (Good : Counter → Type 0) (steady : (counter : Counter) (value : ℤ) → Good counter → Good (record counter { value = value })) (good : AreGood Good handed) (mine : (which : BoxKind) (counter : Counter) → counter.creator ≡ box_of key which → is_same_box (box_of key which) (box_of key kind.After) ≡ false → Good counter) where
    pub own_is_good : AllByRecursion Good own_set
    own_is_good = own_good Good steady table by_parent key element handed (inherits_good Good steady handed good) (λ counter e. mine kind.Element counter e (and_right (key == key) false refl))

    marker_is_good : Holds (AllByRecursion Good) (marker_of table by_parent key element handed).made
    marker_is_good =
        marker_good Good steady table by_parent key element (inside own_set handed.depth) (inherited_good Good steady own_set None (Some own_set) own_is_good tt)
        (λ _ counter e. mine kind.Marker counter e (and_right (key == key) false refl))

    before_is_good : Holds (AllByRecursion Good) (before_of table by_parent key element handed).made
    before_is_good =
        let marker = marker_of table by_parent key element handed in
        pseudo_good Good steady table by_parent key element kind.Before element.style.before (behind_marker table by_parent key element handed)
        (next_inherits Good steady (box_of key kind.Marker) own_set handed.depth marker.depth marker.made own_is_good marker_is_good)
        (λ _ counter e. mine kind.Before counter e (and_right (key == key) false refl))

    pub children_good : AreGood Good (children_handed table by_parent key element handed)
    children_good =
        let marker = marker_of table by_parent key element handed in
        let before = before_of table by_parent key element handed in
        let first : AreGood Good (inside own_set handed.depth) = record { parent = own_is_good; sibling = tt } in
        good_next Good (box_of key kind.Before) before.made before.depth (behind_marker table by_parent key element handed)
        (good_next Good (box_of key kind.Marker) marker.made marker.depth (inside own_set handed.depth) first marker_is_good) before_is_good

scoped_holds : (box : BoxId) (handed : Handed) (made : Option Made) → Holds (AllAgree (box ∷ handed.earlier) handed.parent) made → IsMadeScoped box handed made
scoped_holds box handed None h = tt
scoped_holds box handed (Some made) h = h

abbrev pub NotAfter : ℕ → Counter → Type 0
NotAfter key counter = is_by_peer (box_of key kind.After ∷ []) counter ≡ false

-- A node of a document, with its children and the trees after it.
module _ (table : List CounterStyle) (node : Keyed StyledNode) (children after : Forest (Keyed StyledNode)) (distinct : HasDistinctKeys (Tree node children after)) (handed : Handed) (level : Level (Tree node children after) handed) where
  out_good : (Good : Counter → Type 0) → ((counter : Counter) → IsOut (Tree node children after) counter → Good counter) → AreGood Good handed
  out_good Good i = record {
    parent = each_imp (IsOut (Tree node children after)) Good i handed.parent level.out.parent;
    sibling = each_imp (IsOut (Tree node children after)) Good i (unwrap_or handed.sibling []) level.out.sibling;
  }

  out_children : AreGood (IsOut children) handed
  out_children = out_good (IsOut children) (λ counter h. (out_parts node children after counter.creator.key h).1)

  out_after : AreGood (IsOut after) handed
  out_after = out_good (IsOut after) (λ counter h. (out_parts node children after counter.creator.key h).2)

  not_after : AreGood (NotAfter node.key) handed
  not_after =
      out_good (NotAfter node.key)
      (λ counter h.
      or_none (is_same_box counter.creator (box_of node.key kind.After)) false
      (and_left (counter.creator.key == node.key) _ (number_symm counter.creator.key node.key ∙ (out_parts node children after counter.creator.key h).0)) refl)

  -- One that is an element with a box.
  module _ (element : Styled) where
    abbrev pub input : Inputs
    input = inputs_from node.key element handed

    abbrev pub own_here : Counted
    own_here = own_counted table by_parent node.key element handed

    fits_here : AreEarlier handed.earlier input
    fits_here = record { parent = level.fits.parent; sibling = level.fits.sibling }

    new_here : AreNew (first_boxes node.key element.style) input
    new_here =
        let boxes = first_boxes node.key element.style in
        let good = out_good (λ counter. is_by_peer boxes counter ≡ false)
        (λ counter h. first_list counter.creator node.key (has_marker element.style) (has_pseudo_box element.style.before) (number_symm counter.creator.key node.key ∙ (out_parts node children after counter.creator.key h).0)) in
        record { parent = good.parent; sibling = good.sibling }

    mine_out : (trees : Forest (Keyed StyledNode)) → times node.key trees ≡ 0 → (which : BoxKind) (counter : Counter) → counter.creator ≡ box_of node.key which → is_same_box (box_of node.key which) (box_of node.key kind.After) ≡ false → IsOut trees counter
    mine_out trees zero which counter e _ = ap (λ (box : BoxId). times box.key trees) e ∙ zero

    mine_not_after : (which : BoxKind) (counter : Counter) → counter.creator ≡ box_of node.key which → is_same_box (box_of node.key which) (box_of node.key kind.After) ≡ false → NotAfter node.key counter
    mine_not_after which counter e differs =
        ap (λ creator. list_any (is_same_box creator) (box_of node.key kind.After ∷ [])) e ∙ or_none (is_same_box (box_of node.key which) (box_of node.key kind.After)) false differs refl

    fits_inside : Fits (children_handed table by_parent node.key element handed)
    fits_inside =
        let marker_box = box_of node.key kind.Marker in
        let before_box = box_of node.key kind.Before in
        let around = inside own_here.set handed.depth in
        let marker = marker_of table by_parent node.key element handed in
        let before = before_of table by_parent node.key element handed in
        let next = behind_marker table by_parent node.key element handed in
        let counted = pseudo_counted table by_parent node.key element kind.Before element.style.before next in
        let first : Fits around = record { parent = each_any (λ counter. is_by_peer [] counter ≡ false) (λ _. refl) own_here.set; sibling = tt } in
        let marker_none : Holds (λ _. HasNoneOf (marker_box ∷ []) own_here.set) marker.made =
        holds_if (λ _. HasNoneOf (marker_box ∷ []) own_here.set) (has_marker element.style) (formed_box [] (marker_content table by_parent node.key element around)) (no_box handed.depth)
        (λ has. none_by_marker table element input handed.earlier fits_here new_here has) (λ _. tt) in
        let before_none : Holds (λ _. HasNoneOf (before_box ∷ []) next.parent) before.made =
        holds_if (λ _. HasNoneOf (before_box ∷ []) next.parent) (has_pseudo_box element.style.before) (formed_box counted.changes (content_of table by_parent node.key element kind.Before element.style.before counted.set next)) (no_box next.depth)
        (λ has. subst (HasNoneOf (before_box ∷ [])) (sym (past_parent marker_box marker.made marker.depth around)) (none_by_before table element input handed.earlier fits_here new_here has)) (λ _. tt) in
        fits_next before_box before.made before.depth next
        (fits_next marker_box marker.made marker.depth around first marker_none (marker_agrees table node.key element around (marker_ready table element input handed.earlier fits_here new_here)))
        before_none (pseudo_agrees table node.key element kind.Before element.style.before next (before_ready table element input handed.earlier fits_here new_here))

    level_inside : Level children (children_handed table by_parent node.key element handed)
    level_inside = record {
      out = children_good table node.key element handed (IsOut children) (steady_out children) out_children (mine_out children (apart_parts node children after distinct).0);
      fits = fits_inside;
    }

    not_after_inside : AreGood (NotAfter node.key) (children_handed table by_parent node.key element handed)
    not_after_inside = children_good table node.key element handed (NotAfter node.key) (λ counter value h. h) not_after mine_not_after

    -- behind its children
    module _ (behind : Handed) (in_it : behind.parent ≡ (children_handed table by_parent node.key element handed).parent) (fits : Fits behind) (none : AllByRecursion (NotAfter node.key) (unwrap_or behind.sibling [])) where
      abbrev pub input_behind : Inputs
      input_behind = inputs_from node.key element behind

      fits_behind : AreEarlier behind.earlier input_behind
      fits_behind = record { parent = fits.parent; sibling = fits.sibling }

      none_listed : (b : Bool) → AreNew (box_of node.key kind.After ∷ []) input_behind → AreNew (cond b (box_of node.key kind.After ∷ []) []) input_behind
      none_listed true new = new
      none_listed false new = record { parent = each_any (λ counter. is_by_peer [] counter ≡ false) (λ _. refl) behind.parent; sibling = each_any (λ counter. is_by_peer [] counter ≡ false) (λ _. refl) (unwrap_or behind.sibling []) }

      new_behind : AreNew (last_boxes node.key element.style) input_behind
      new_behind = none_listed (has_pseudo_box element.style.after) (record { parent = subst (AllByRecursion (NotAfter node.key)) (sym in_it) not_after_inside.parent; sibling = none })

      ready_behind : has_pseudo_box element.style.after ≡ true → IsReady (box_of node.key kind.After) behind
      ready_behind has = ready_in (box_of node.key kind.After) behind.earlier input_behind fits_behind (new_after node.key element.style input_behind has new_behind)

      closing_is : closing_of table by_peers node.key element behind ≡ closing_of table by_parent node.key element behind
      closing_is = closing_same table element input_behind behind.earlier fits_behind new_behind

      own_here_is : own_counted table by_peers node.key element handed ≡ own_here
      own_here_is = own_is table element input handed.earlier fits_here new_here

      boxes_scoped : AreBoxesScoped table by_peers node.key element handed behind
      boxes_scoped =
          let marker_box = box_of node.key kind.Marker in
          let before_box = box_of node.key kind.Before in
          let after_box = box_of node.key kind.After in
          let around = inside own_here.set handed.depth in
          let marker = marker_of table by_parent node.key element handed in
          let before = before_of table by_parent node.key element handed in
          let next = behind_marker table by_parent node.key element handed in
          record {
            own = subst (λ (counted : Counted). IsScoped (box_of node.key kind.Element ∷ handed.earlier) handed.parent counted.set) (sym own_here_is)
                (own_agrees table node.key element handed (element_ready table element input handed.earlier fits_here new_here));
            marker = subst (λ (counted : Counted). IsMadeScoped marker_box (inside counted.set handed.depth) (marker_of table by_peers node.key element handed).made) (sym own_here_is)
                (subst (λ (formed : Formed). IsMadeScoped marker_box around formed.made) (sym (marker_is table element input handed.earlier fits_here new_here))
                (scoped_holds marker_box around marker.made (marker_agrees table node.key element around (marker_ready table element input handed.earlier fits_here new_here))));
            before = subst (λ (now : Handed). IsMadeScoped before_box now (before_of table by_peers node.key element handed).made) (sym (behind_marker_is table element input handed.earlier fits_here new_here))
                (subst (λ (formed : Formed). IsMadeScoped before_box next formed.made) (sym (before_is table element input handed.earlier fits_here new_here))
                (scoped_holds before_box next before.made (pseudo_agrees table node.key element kind.Before element.style.before next (before_ready table element input handed.earlier fits_here new_here))));
            after = subst (λ (formed : Formed). IsMadeScoped after_box behind formed.made) (sym (pseudo_same table node.key element kind.After element.style.after behind ready_behind))
                (scoped_holds after_box behind (after_of table by_parent node.key element behind).made (pseudo_agrees table node.key element kind.After element.style.after behind ready_behind));
          }

      next_is : past_node table by_peers true node.key (Element element) handed behind ≡ past_node table by_parent true node.key (Element element) handed behind
      next_is =
          let make : Counted → Closing → Handed = λ counted closing. past (box_of node.key kind.Element) counted.set closing.exit closing.depth handed in
          ap (λ counted. make counted (closing_of table by_peers node.key element behind)) own_here_is ∙ ap (make own_here) closing_is

      level_next : Level after (past_node table by_parent true node.key (Element element) handed behind)
      level_next =
          let box = box_of node.key kind.Element in
          record {
            out = record {
              parent = out_after.parent;
              sibling = own_is_good table node.key element handed (IsOut after) (steady_out after) out_after (mine_out after (apart_parts node children after distinct).1);
            };
            fits = record {
              parent = none_both box handed.earlier handed.parent (new_element node.key element.style input new_here).parent level.fits.parent;
              sibling = each_imp (λ counter. is_by_peer (box ∷ handed.earlier) counter ≡ is_missing_in handed.parent counter) (λ counter. is_missing_in handed.parent counter ≡ true → is_by_peer (box ∷ handed.earlier) counter ≡ true)
                  (λ counter h e. h ∙ e) own_here.set (own_agrees table node.key element handed (element_ready table element input handed.earlier fits_here new_here));
            };
          }

      record_is : record_of table by_peers true node.key element handed behind ≡ record_of table by_parent true node.key element handed behind
      record_is =
          let make : Entry → Closing → ElementRecord = λ entry closing. record { has_box = true; own = entry.own; exit = closing.exit; depth_before = handed.depth; depth_after = closing.depth; marker = entry.marker; before = entry.before; after = closing.after } in
          ap (λ entry. make entry (closing_of table by_peers node.key element behind)) (entry_same table element input handed.earlier fits_here new_here)
          ∙ ap (make (entry_of table by_parent node.key element handed)) closing_is

  -- Whatever it is.

  pub record BehindTold (has : Bool) (label : StyledNode) (behind : Handed) : Type 0 where
    pub next : past_node table by_peers has node.key label handed behind ≡ past_node table by_parent has node.key label handed behind
    pub onward : Level after (past_node table by_parent has node.key label handed behind)
    pub records : records_of table by_peers has node.key label handed behind ≡ records_of table by_parent has node.key label handed behind
    pub last : last_changes table by_peers has node.key label behind ≡ last_changes table by_parent has node.key label behind
    pub last_box : last_box_changes table by_peers has node.key label behind ≡ last_box_changes table by_parent has node.key label behind
    pub scoped : IsNodeScoped table by_peers has node.key label handed behind

  pub record NodeTold (has : Bool) (label : StyledNode) : Type 0 where
    pub first : within table by_peers has node.key label handed ≡ within table by_parent has node.key label handed
    pub inner : Level children (within table by_parent has node.key label handed)
    pub not_after : AreGood (NotAfter node.key) (within table by_parent has node.key label handed)
    pub changes : first_changes table by_peers has node.key label handed ≡ first_changes table by_parent has node.key label handed
    pub box_changes : first_box_changes table by_peers has node.key label handed ≡ first_box_changes table by_parent has node.key label handed
    pub behind : (behind : Handed) → behind.parent ≡ (within table by_parent has node.key label handed).parent → Fits behind → AllByRecursion (NotAfter node.key) (unwrap_or behind.sibling []) → BehindTold has label behind

  pub node_told : (has : Bool) (label : StyledNode) → NodeTold has label
  node_told true (Element element) = record {
    first = children_same table element (input element) handed.earlier (fits_here element) (new_here element);
    inner = level_inside element;
    not_after = not_after_inside element;
    changes = ap (λ (entry : Entry). entry.changes ++ changes_in entry.before) (entry_same table element (input element) handed.earlier (fits_here element) (new_here element));
    box_changes = ap (λ (entry : Entry). (box_of node.key kind.Element, entry.changes) ∷ (made_box_changes (box_of node.key kind.Marker) entry.marker ++ made_box_changes (box_of node.key kind.Before) entry.before))
        (entry_same table element (input element) handed.earlier (fits_here element) (new_here element));
    behind = λ behind in_it fits none. record {
      next = next_is element behind in_it fits none;
      onward = level_next element behind in_it fits none;
      records = ap (λ told. (node.key, told) ∷ []) (record_is element behind in_it fits none);
      last = ap (λ (closing : Closing). changes_in closing.after) (closing_is element behind in_it fits none);
      last_box = ap (λ (closing : Closing). made_box_changes (box_of node.key kind.After) closing.after) (closing_is element behind in_it fits none);
      scoped = boxes_scoped element behind in_it fits none;
    };
  }
  node_told true Text = record {
    first = refl;
    inner = record { out = out_children; fits = level.fits };
    not_after = not_after;
    changes = refl;
    box_changes = refl;
    behind = λ behind in_it fits none. record { next = refl; onward = record { out = out_after; fits = level.fits }; records = refl; last = refl; last_box = refl; scoped = tt };
  }
  node_told false (Element element) = record {
    first = refl;
    inner = record { out = out_children; fits = level.fits };
    not_after = not_after;
    changes = refl;
    box_changes = refl;
    behind = λ behind in_it fits none. record { next = refl; onward = record { out = out_after; fits = level.fits }; records = refl; last = refl; last_box = refl; scoped = tt };
  }
  node_told false Text = record {
    first = refl;
    inner = record { out = out_children; fits = level.fits };
    not_after = not_after;
    changes = refl;
    box_changes = refl;
    behind = λ behind in_it fits none. record { next = refl; onward = record { out = out_after; fits = level.fits }; records = refl; last = refl; last_box = refl; scoped = tt };
  }

-- What holds of a level still holds behind trees.

module _ (table : List CounterStyle) (Good : Counter → Type 0) (steady : (counter : Counter) (value : ℤ) → Good counter → Good (record counter { value = value })) where
  past_node_good : (has : Bool) (key : ℕ) (label : StyledNode) (handed behind : Handed) → AreGood Good handed → ((counter : Counter) → counter.creator ≡ box_of key kind.Element → Good counter)
      → ((past_node table by_parent has key label handed behind).parent ≡ handed.parent) × AllByRecursion Good (unwrap_or (past_node table by_parent has key label handed behind).sibling [])
  past_node_good true key (Element element) handed behind good mine = (refl, own_good Good steady table by_parent key element handed (inherits_good Good steady handed good) mine)
  past_node_good true key Text handed behind good mine = (refl, good.sibling)
  past_node_good false key (Element element) handed behind good mine = (refl, good.sibling)
  past_node_good false key Text handed behind good mine = (refl, good.sibling)

  not_out : (node : Keyed StyledNode) (children after : Forest (Keyed StyledNode)) (counter : Counter) → counter.creator ≡ box_of node.key kind.Element → IsOut (Tree node children after) counter → ⊥
  not_out node children after counter e out =
      let here : times node.key (Tree node children after) ≡ 0 = subst (λ (box : BoxId). times box.key (Tree node children after) ≡ 0) e out in
      let apart = (out_parts node children after node.key here).0 in
      let same : (node.key == node.key) ≡ true = eq-eqb node.key node.key refl in
      both_ways (node.key == node.key) apart same

  past_good : (trees : Forest (Keyed StyledNode)) (boxed : Bool) (handed : Handed) → AreGood Good handed → ((counter : Counter) → (IsOut trees counter → ⊥) → Good counter)
      → ((past_trees table by_parent boxed handed trees).parent ≡ handed.parent) × AllByRecursion Good (unwrap_or (past_trees table by_parent boxed handed trees).sibling [])
  past_good Empty boxed handed good mine = (refl, good.sibling)
  past_good (Tree node children after) boxed handed good mine =
      let has = is_boxed boxed node.label in
      let behind = past_trees table by_parent has (within table by_parent has node.key node.label handed) children in
      let next = past_node table by_parent has node.key node.label handed behind in
      let here = past_node_good has node.key node.label handed behind good (λ counter e. mine counter (not_out node children after counter e)) in
      let rest = past_good after boxed next (record { parent = subst (AllByRecursion Good) (sym here.0) good.parent; sibling = here.1 })
      (λ counter out. mine counter (λ e. out (out_parts node children after counter.creator.key e).2)) in
      (rest.0 ∙ here.0, rest.1)

-- All trees.

pub join_two : {A : Type 0} (a b c d : List A) → a ≡ b → c ≡ d → a ++ c ≡ b ++ d
join_two a b c d e f = ap (λ xs. xs ++ c) e ∙ ap (λ ys. b ++ ys) f

pub record Told (table : List CounterStyle) (boxed : Bool) (handed : Handed) (trees : Forest (Keyed StyledNode)) : Type 0 where
  pub past : past_trees table by_peers boxed handed trees ≡ past_trees table by_parent boxed handed trees
  pub records : records table by_peers boxed handed trees ≡ records table by_parent boxed handed trees
  pub changes : changes table by_peers boxed handed trees ≡ changes table by_parent boxed handed trees
  pub box_changes : box_changes table by_peers boxed handed trees ≡ box_changes table by_parent boxed handed trees
  pub inputs : inputs table by_peers boxed handed trees ≡ inputs table by_parent boxed handed trees
  pub scoped : AreScoped table by_peers boxed handed trees
  pub fits : Fits (past_trees table by_parent boxed handed trees)

other_key : (key : ℕ) (children : Forest (Keyed StyledNode)) → times key children ≡ 0 → (counter : Counter) → (IsOut children counter → ⊥) → NotAfter key counter
other_key key children zero counter there = elim (cases_Bool (counter.creator.key == key)) [
  | inl e ↦ absurd (there (ap (λ (other : ℕ). times other children) (eqb-true counter.creator.key key e) ∙ zero))
  | inr e ↦ or_none (is_same_box counter.creator (box_of key kind.After)) false (and_left (counter.creator.key == key) _ e) refl
]

pub told : (table : List CounterStyle) (trees : Forest (Keyed StyledNode)) (boxed : Bool) (handed : Handed) → HasDistinctKeys trees → Level trees handed → Told table boxed handed trees
told table Empty boxed handed distinct level = record { past = refl; records = refl; changes = refl; box_changes = refl; inputs = refl; scoped = tt; fits = level.fits }
told table (Tree node children after) boxed handed distinct level =
    let has = is_boxed boxed node.label in
    let key = node.key in
    let here = node_told table node children after distinct handed level has node.label in
    let parts = apart_parts node children after distinct in
    let first = within table by_parent has key node.label handed in
    let first_by_peers = within table by_peers has key node.label handed in
    let below = told table children has first parts.2 here.inner in
    let behind = past_trees table by_parent has first children in
    let behind_by_peers = past_trees table by_peers has first_by_peers children in
    let behind_is : behind_by_peers ≡ behind = ap (λ inner. past_trees table by_peers has inner children) here.first ∙ below.past in
    let kept = past_good table (NotAfter key) (λ counter value h. h) children has first here.not_after (other_key key children parts.0) in
    let back = here.behind behind kept.0 below.fits kept.1 in
    let next = past_node table by_parent has key node.label handed behind in
    let next_is : past_node table by_peers has key node.label handed behind_by_peers ≡ next = ap (past_node table by_peers has key node.label handed) behind_is ∙ back.next in
    let rest = told table after boxed next parts.3 back.onward in
    record {
      past = ap (λ onward. past_trees table by_peers boxed onward after) next_is ∙ rest.past;
      records =
          join_two (records table by_peers has first_by_peers children) (records table by_parent has first children) _ _
          (ap (λ inner. records table by_peers has inner children) here.first ∙ below.records)
          (join_two (records_of table by_peers has key node.label handed behind_by_peers) (records_of table by_parent has key node.label handed behind) _ _
          (ap (records_of table by_peers has key node.label handed) behind_is ∙ back.records)
          (ap (λ onward. records table by_peers boxed onward after) next_is ∙ rest.records));
      changes =
          join_two (first_changes table by_peers has key node.label handed) (first_changes table by_parent has key node.label handed) _ _ here.changes
          (join_two (changes table by_peers has first_by_peers children) (changes table by_parent has first children) _ _
          (ap (λ inner. changes table by_peers has inner children) here.first ∙ below.changes)
          (join_two (last_changes table by_peers has key node.label behind_by_peers) (last_changes table by_parent has key node.label behind) _ _
          (ap (last_changes table by_peers has key node.label) behind_is ∙ back.last)
          (ap (λ onward. changes table by_peers boxed onward after) next_is ∙ rest.changes)));
      box_changes =
          join_two (first_box_changes table by_peers has key node.label handed) (first_box_changes table by_parent has key node.label handed) _ _ here.box_changes
          (join_two (box_changes table by_peers has first_by_peers children) (box_changes table by_parent has first children) _ _
          (ap (λ inner. box_changes table by_peers has inner children) here.first ∙ below.box_changes)
          (join_two (last_box_changes table by_peers has key node.label behind_by_peers) (last_box_changes table by_parent has key node.label behind) _ _
          (ap (last_box_changes table by_peers has key node.label) behind_is ∙ back.last_box)
          (ap (λ onward. box_changes table by_peers boxed onward after) next_is ∙ rest.box_changes)));
      inputs =
          join_two (inputs_of table by_peers boxed key node.label handed) (inputs_of table by_parent boxed key node.label handed) _ _ refl
          (join_two (inputs table by_peers has first_by_peers children) (inputs table by_parent has first children) _ _
          (ap (λ inner. inputs table by_peers has inner children) here.first ∙ below.inputs)
          (ap (λ onward. inputs table by_peers boxed onward after) next_is ∙ rest.inputs));
      scoped = (
        subst (IsNodeScoped table by_peers has key node.label handed) (sym behind_is) back.scoped,
        subst (λ inner. AreScoped table by_peers has inner children) (sym here.first) below.scoped,
        subst (λ onward. AreScoped table by_peers boxed onward after) (sym next_is) rest.scoped,
      );
      fits = rest.fits;
    }

pub root_level : (document : Forest (Keyed StyledNode)) → Level document at_root
root_level document = record {
  out = record { parent = tt; sibling = tt };
  fits = record { parent = tt; sibling = tt };
}

-- By the parent's set nothing depends on the sibling boxes before.

abbrev pub with_earlier : Handed → List BoxId → Handed
with_earlier handed earlier = record handed { earlier = earlier }

-- the second is the first, but for the sibling boxes before
abbrev pub DiffersInEarlier : Handed → Handed → Type 0
DiffersInEarlier first second = (earlier : List BoxId) × (second ≡ with_earlier first earlier)

-- so it is where all else is the same
pub differs_in_earlier : (first second : Handed) → first.parent ≡ second.parent → first.sibling ≡ second.sibling → first.preceding ≡ second.preceding → first.depth ≡ second.depth → DiffersInEarlier first second
differs_in_earlier first second parent sibling preceding depth =
    let handed : List Counter → Option (List Counter) → Option (List Counter) → ℕ → Handed =
    λ counters before behind level. record { parent = counters; earlier = second.earlier; sibling = before; preceding = behind; depth = level } in (
      second.earlier,
      ap (λ counters. handed counters second.sibling second.preceding second.depth) (sym parent)
          ∙ ap (λ before. handed first.parent before second.preceding second.depth) (sym sibling)
          ∙ ap (λ behind. handed first.parent first.sibling behind second.depth) (sym preceding)
          ∙ ap (handed first.parent first.sibling first.preceding) (sym depth),
    )

module _ (table : List CounterStyle) where
  within_any : (has : Bool) (key : ℕ) (label : StyledNode) (handed : Handed) (earlier : List BoxId) → DiffersInEarlier (within table by_parent has key label handed) (within table by_parent has key label (with_earlier handed earlier))
  within_any true key (Element element) handed earlier = ((children_handed table by_parent key element handed).earlier, refl)
  within_any true key Text handed earlier = (earlier, refl)
  within_any false key (Element element) handed earlier = (earlier, refl)
  within_any false key Text handed earlier = (earlier, refl)

  next_any : (has : Bool) (key : ℕ) (label : StyledNode) (handed behind : Handed) (earlier beside : List BoxId) → DiffersInEarlier (past_node table by_parent has key label handed behind) (past_node table by_parent has key label (with_earlier handed earlier) (with_earlier behind beside))
  next_any true key (Element element) handed behind earlier beside =
      let box = box_of key kind.Element in
      let own = (own_counted table by_parent key element handed).set in
      (box ∷ earlier, ap (λ (closing : Closing). past box own closing.exit closing.depth (with_earlier handed earlier)) (sym (closing_any table key element behind beside)))
  next_any true key Text handed behind earlier beside = (earlier, refl)
  next_any false key (Element element) handed behind earlier beside = (earlier, refl)
  next_any false key Text handed behind earlier beside = (earlier, refl)

  record_any : (has : Bool) (key : ℕ) (label : StyledNode) (handed behind : Handed) (earlier beside : List BoxId) → records_of table by_parent has key label handed behind ≡ records_of table by_parent has key label (with_earlier handed earlier) (with_earlier behind beside)
  record_any true key (Element element) handed behind earlier beside =
      let entry = entry_of table by_parent key element handed in
      let make : Closing → ElementRecord = λ closing. record { has_box = true; own = entry.own; exit = closing.exit; depth_before = handed.depth; depth_after = closing.depth; marker = entry.marker; before = entry.before; after = closing.after } in
      ap (λ closing. (key, make closing) ∷ []) (closing_any table key element behind beside)
  record_any true key Text handed behind earlier beside = refl
  record_any false key (Element element) handed behind earlier beside = refl
  record_any false key Text handed behind earlier beside = refl

  first_any : (has : Bool) (key : ℕ) (label : StyledNode) (handed : Handed) (earlier : List BoxId) → first_changes table by_parent has key label handed ≡ first_changes table by_parent has key label (with_earlier handed earlier)
  first_any true key (Element element) handed earlier = refl
  first_any true key Text handed earlier = refl
  first_any false key (Element element) handed earlier = refl
  first_any false key Text handed earlier = refl

  last_any : (has : Bool) (key : ℕ) (label : StyledNode) (behind : Handed) (beside : List BoxId) → last_changes table by_parent has key label behind ≡ last_changes table by_parent has key label (with_earlier behind beside)
  last_any true key (Element element) behind beside = ap (λ (closing : Closing). changes_in closing.after) (closing_any table key element behind beside)
  last_any true key Text behind beside = refl
  last_any false key (Element element) behind beside = refl
  last_any false key Text behind beside = refl

  first_box_any : (has : Bool) (key : ℕ) (label : StyledNode) (handed : Handed) (earlier : List BoxId) → first_box_changes table by_parent has key label handed ≡ first_box_changes table by_parent has key label (with_earlier handed earlier)
  first_box_any true key (Element element) handed earlier = refl
  first_box_any true key Text handed earlier = refl
  first_box_any false key (Element element) handed earlier = refl
  first_box_any false key Text handed earlier = refl

  last_box_any : (has : Bool) (key : ℕ) (label : StyledNode) (behind : Handed) (beside : List BoxId) → last_box_changes table by_parent has key label behind ≡ last_box_changes table by_parent has key label (with_earlier behind beside)
  last_box_any true key (Element element) behind beside = ap (λ (closing : Closing). made_box_changes (box_of key kind.After) closing.after) (closing_any table key element behind beside)
  last_box_any true key Text behind beside = refl
  last_box_any false key (Element element) behind beside = refl
  last_box_any false key Text behind beside = refl

  inputs_any : (boxed : Bool) (key : ℕ) (label : StyledNode) (handed : Handed) (earlier : List BoxId) → inputs_of table by_parent boxed key label handed ≡ inputs_of table by_parent boxed key label (with_earlier handed earlier)
  inputs_any true key (Element element) handed earlier = refl
  inputs_any true key Text handed earlier = refl
  inputs_any false key (Element element) handed earlier = refl
  inputs_any false key Text handed earlier = refl

  pub record SameFor (boxed : Bool) (trees : Forest (Keyed StyledNode)) (first second : Handed) : Type 0 where
    pub past : DiffersInEarlier (past_trees table by_parent boxed first trees) (past_trees table by_parent boxed second trees)
    pub records : records table by_parent boxed first trees ≡ records table by_parent boxed second trees
    pub changes : changes table by_parent boxed first trees ≡ changes table by_parent boxed second trees
    pub box_changes : box_changes table by_parent boxed first trees ≡ box_changes table by_parent boxed second trees
    pub inputs : inputs table by_parent boxed first trees ≡ inputs table by_parent boxed second trees

  pub same_for : (trees : Forest (Keyed StyledNode)) (boxed : Bool) (first second : Handed) → DiffersInEarlier first second → SameFor boxed trees first second
  same_for Empty boxed first second differs = record { past = differs; records = refl; changes = refl; box_changes = refl; inputs = refl }
  same_for (Tree node children after) boxed first second differs =
      let has = is_boxed boxed node.label in
      let key = node.key in
      let inner = within table by_parent has key node.label first in
      let inner_too = within table by_parent has key node.label second in
      let inner_differs : DiffersInEarlier inner inner_too =
      let any = within_any has key node.label first differs.0 in
      (any.0, ap (within table by_parent has key node.label) differs.1 ∙ any.1) in
      let below = same_for children has inner inner_too inner_differs in
      let behind = past_trees table by_parent has inner children in
      let behind_too = past_trees table by_parent has inner_too children in
      let next = past_node table by_parent has key node.label first behind in
      let next_too = past_node table by_parent has key node.label second behind_too in
      let next_differs : DiffersInEarlier next next_too =
      let any = next_any has key node.label first behind differs.0 below.past.0 in
      (any.0, ap (λ handed. past_node table by_parent has key node.label handed behind_too) differs.1 ∙ ap (past_node table by_parent has key node.label (with_earlier first differs.0)) below.past.1 ∙ any.1) in
      let rest = same_for after boxed next next_too next_differs in
      let here : records_of table by_parent has key node.label first behind ≡ records_of table by_parent has key node.label second behind_too =
      record_any has key node.label first behind differs.0 below.past.0
      ∙ sym (ap (λ handed. records_of table by_parent has key node.label handed behind_too) differs.1 ∙ ap (records_of table by_parent has key node.label (with_earlier first differs.0)) below.past.1) in
      record {
        past = rest.past;
        records = join_two (records table by_parent has inner children) (records table by_parent has inner_too children) _ _ below.records
            (join_two (records_of table by_parent has key node.label first behind) (records_of table by_parent has key node.label second behind_too) _ _ here rest.records);
        changes = join_two (first_changes table by_parent has key node.label first) (first_changes table by_parent has key node.label second) _ _
            (first_any has key node.label first differs.0 ∙ sym (ap (first_changes table by_parent has key node.label) differs.1))
            (join_two (changes table by_parent has inner children) (changes table by_parent has inner_too children) _ _ below.changes
            (join_two (last_changes table by_parent has key node.label behind) (last_changes table by_parent has key node.label behind_too) _ _
            (last_any has key node.label behind below.past.0 ∙ sym (ap (last_changes table by_parent has key node.label) below.past.1)) rest.changes));
        box_changes = join_two (first_box_changes table by_parent has key node.label first) (first_box_changes table by_parent has key node.label second) _ _
            (first_box_any has key node.label first differs.0 ∙ sym (ap (first_box_changes table by_parent has key node.label) differs.1))
            (join_two (box_changes table by_parent has inner children) (box_changes table by_parent has inner_too children) _ _ below.box_changes
            (join_two (last_box_changes table by_parent has key node.label behind) (last_box_changes table by_parent has key node.label behind_too) _ _
            (last_box_any has key node.label behind below.past.0 ∙ sym (ap (last_box_changes table by_parent has key node.label) below.past.1)) rest.box_changes));
        inputs = join_two (inputs_of table by_parent boxed key node.label first) (inputs_of table by_parent boxed key node.label second) _ _
            (inputs_any boxed key node.label first differs.0 ∙ sym (ap (inputs_of table by_parent boxed key node.label) differs.1))
            (join_two (inputs table by_parent has inner children) (inputs table by_parent has inner_too children) _ _ below.inputs rest.inputs);
      }
