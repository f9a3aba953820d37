-- One element, by its boxes' peers and by their parents' sets.
use Rattle.std.proofs.Common.{◌≡◌, ◌∷◌, ◌||◌, ◌==◌, ℕ, List, [], true, false, Option, Some, None, refl, sym, ap, ◌∙◌, ℤ}
use Rattle.std.proofs.lemmas.Bool.{and_right, or_right}
use Rattle.std.specs.Prelude.{unwrap_or}
use Rattle.std.specs.List.{AllByRecursion, list_any}
use Rattle.std.specs.Option.{option_map_or}
use Rattle.plain_types.specs.declared.box_id.BoxId.{BoxId}
use Rattle.plain_types.specs.declared.box_kind.BoxKind.{BoxKind}
use Rattle.plain_types.specs.declared.box_kind.BoxKind.TheVariants as kind
use Rattle.plain_types.specs.declared.counter.Counter.{Counter}
use Rattle.plain_types.specs.declared.counter_style.CounterStyle.{CounterStyle}
use Rattle.counter_sets.specs.Sets.{is_by_peer, is_missing_in, is_same_box, is_same_kind}
use Rattle.box_eval.specs.declared.counting.Counted.{Counted}
use Rattle.box_eval.specs.declared.entry.Closing.{Closing}
use Rattle.box_eval.specs.declared.entry.Entry.{Entry}
use Rattle.box_eval.specs.declared.formed.Formed.{Formed}
use Rattle.box_eval.specs.declared.inputs.Inputs.{Inputs}
use Rattle.box_eval.specs.declared.made.Made.{Made}
use Rattle.box_eval.specs.Boxes.{box_of, has_marker, has_pseudo_box}
use Rattle.box_eval.specs.Elements.{Handed, Styled, after_of, before_of, behind_marker, by_parent, by_peers, children_handed, closing_of, entry_of, formed_box, handed_in, inherited_by, inside, marker_content, marker_formed, marker_of, no_box, own_counted, past_formed, pseudo_formed}
use Rattle.box_eval.specs.Scopes.{AreEarlier, AreNew, HasNoneOf, first_boxes, last_boxes}
use Rattle.box_eval.proofs.Agreement.{AllAgree}
use Rattle.box_eval.proofs.ElementLemmas.{Holds, IsReady, holds_if, marker_agrees, marker_good, marker_same, new_after, new_before, new_element, new_inherited, new_marker, own_good, own_same, pseudo_same}
use Rattle.box_eval.proofs.KeptLemmas.{inherited_good}
use Rattle.box_eval.proofs.ListLemmas.{each_both, each_imp, or_none, or_parts}

-- an element is left with the counters of its after box, or of the last box before
pub exit_is : (box : BoxId) (made : Option Made) (depth : ℕ) (handed : Handed) → unwrap_or (past_formed box (record { made = made; depth = depth }) handed).preceding [] ≡ option_map_or (λ (made : Made). made.set) made (unwrap_or handed.preceding [])
exit_is box None depth handed = refl
exit_is box (Some made) depth handed = refl

-- by the parent's set nothing depends on the sibling boxes before
pub closing_any : (table : List CounterStyle) (key : ℕ) (element : Styled) (handed : Handed) (earlier : List BoxId) → closing_of table by_parent key element handed ≡ closing_of table by_parent key element (record handed { earlier = earlier })
closing_any table key element handed earlier =
    let box = box_of key kind.After in
    let after = after_of table by_parent key element handed in
    ap (λ exit. record { after = after.made; exit = exit; depth = after.depth })
    (exit_is box after.made after.depth handed ∙ sym (exit_is box after.made after.depth (record handed { earlier = earlier })))

-- boxes of different kinds are different
pub apart : (key : ℕ) (first second : BoxKind) → is_same_kind first second ≡ false → (is_same_box (box_of key first) (box_of key second) || false) ≡ false
apart key first second e = or_none (is_same_box (box_of key first) (box_of key second)) false (and_right (key == key) (is_same_kind first second) e) refl

-- none by one box and none by others is none by any
pub none_both : (box : BoxId) (boxes : List BoxId) (set : List Counter) → HasNoneOf (box ∷ []) set → HasNoneOf boxes set → HasNoneOf (box ∷ boxes) set
none_both box boxes set h k =
    each_imp (λ counter. (is_by_peer (box ∷ []) counter ≡ false) × (is_by_peer boxes counter ≡ false)) (λ counter. is_by_peer (box ∷ boxes) counter ≡ false)
    (λ counter both. or_none (is_same_box counter.creator box) (is_by_peer boxes counter) (or_parts (is_same_box counter.creator box) false both.0).0 both.1) set
    (each_both (λ counter. is_by_peer (box ∷ []) counter ≡ false) (λ counter. is_by_peer boxes counter ≡ false) set h k)

-- a box of an element that is handed this is ready
pub ready_in : (box : BoxId) (earlier : List BoxId) (inputs : Inputs) → AreEarlier earlier inputs → AreNew (box ∷ []) inputs → IsReady box (handed_in inputs earlier)
ready_in box earlier inputs fits new = record {
  parent = none_both box earlier inputs.parent new.parent fits.parent;
  sibling =
      each_imp (λ counter. is_missing_in inputs.parent counter ≡ true → is_by_peer earlier counter ≡ true) (λ counter. is_missing_in inputs.parent counter ≡ true → is_by_peer (box ∷ earlier) counter ≡ true)
      (λ counter h e. or_right (is_same_box counter.creator box) (is_by_peer earlier counter) (h e)) (unwrap_or inputs.sibling []) fits.sibling;
}

-- the first box in a box is ready, where it created none of that box's counters
pub ready_inside : (box : BoxId) (own : List Counter) (depth : ℕ) → HasNoneOf (box ∷ []) own → IsReady box (inside own depth)
ready_inside box own depth none = record { parent = none; sibling = tt }

-- and so is the next one, behind a box that is there or not
pub ready_next : (box first : BoxId) (own : List Counter) (depth after : ℕ) (made : Option Made) → HasNoneOf (box ∷ []) own → Holds (λ _. HasNoneOf (first ∷ []) own) made → Holds (AllAgree (first ∷ []) own) made → IsReady box (past_formed first (record { made = made; depth = after }) (inside own depth))
ready_next box first own depth after None none others agrees = record { parent = none; sibling = tt }
ready_next box first own depth after (Some made) none others agrees = record {
  parent = none_both box (first ∷ []) own none others;
  sibling =
      each_imp (λ counter. is_by_peer (first ∷ []) counter ≡ is_missing_in own counter) (λ counter. is_missing_in own counter ≡ true → is_by_peer (box ∷ first ∷ []) counter ≡ true)
      (λ counter h e. or_right (is_same_box counter.creator box) (is_by_peer (first ∷ []) counter) (h ∙ e)) made.set agrees;
}

-- what is good of the counters of a box, and of a box at its front, is good of what the next box inherits
pub next_inherits : (Good : Counter → Type 0) → ((counter : Counter) (value : ℤ) → Good counter → Good (record counter { value = value })) → (first : BoxId) (own : List Counter) (depth after : ℕ) (made : Option Made) → AllByRecursion Good own → Holds (AllByRecursion Good) made → AllByRecursion Good (inherited_by (past_formed first (record { made = made; depth = after }) (inside own depth)))
next_inherits Good steady first own depth after None h k = inherited_good Good steady own None (Some own) h tt
next_inherits Good steady first own depth after (Some made) h k =
    inherited_good Good steady own (Some made.set) (Some made.set) h
    (each_imp Good (λ counter. is_missing_in own counter ≡ true → Good counter) (λ counter g e. g) made.set k)

module _ (table : List CounterStyle) (element : Styled) (inputs : Inputs) (earlier : List BoxId) where
  -- an element's own counters are none of another box of it, which is new
  pub none_in_own : (which : BoxKind) → is_same_kind kind.Element which ≡ false → AreNew (box_of inputs.key which ∷ []) inputs → HasNoneOf (box_of inputs.key which ∷ []) (own_counted table by_parent inputs.key element (handed_in inputs earlier)).set
  none_in_own which differs new =
      let box = box_of inputs.key which in
      own_good (λ counter. is_by_peer (box ∷ []) counter ≡ false) (λ counter value h. h) table by_parent inputs.key element (handed_in inputs earlier) (new_inherited box inputs new)
      (λ counter e. ap (λ creator. list_any (is_same_box creator) (box ∷ [])) e ∙ apart inputs.key kind.Element which differs)

  -- nor of the counters that the before box inherits
  pub before_new : AreNew (first_boxes inputs.key element.style) inputs → has_pseudo_box element.style.before ≡ true → HasNoneOf (box_of inputs.key kind.Before ∷ []) (inherited_by (behind_marker table by_parent inputs.key element (handed_in inputs earlier)))
  before_new new has =
      let box = box_of inputs.key kind.Before in
      let Good : Counter → Type 0 = λ counter. is_by_peer (box ∷ []) counter ≡ false in
      let marker = marker_of table by_parent inputs.key element (handed_in inputs earlier) in
      let own = (own_counted table by_parent inputs.key element (handed_in inputs earlier)).set in
      let none = none_in_own kind.Before refl (new_before inputs.key element.style inputs has new) in
      next_inherits Good (λ counter value h. h) (box_of inputs.key kind.Marker) own inputs.depth marker.depth marker.made none
      (marker_good Good (λ counter value h. h) table by_parent inputs.key element (inside own inputs.depth) (inherited_good Good (λ counter value h. h) own None (Some own) none tt)
      (λ _ counter e. ap (λ creator. list_any (is_same_box creator) (box ∷ [])) e ∙ apart inputs.key kind.Marker kind.Before refl))

  module _ (fits : AreEarlier earlier inputs) where
    module _ (new : AreNew (first_boxes inputs.key element.style) inputs) where
      pub element_ready : IsReady (box_of inputs.key kind.Element) (handed_in inputs earlier)
      element_ready = ready_in (box_of inputs.key kind.Element) earlier inputs fits (new_element inputs.key element.style inputs new)

      pub none_by_marker : has_marker element.style ≡ true → HasNoneOf (box_of inputs.key kind.Marker ∷ []) (own_counted table by_parent inputs.key element (handed_in inputs earlier)).set
      none_by_marker has = none_in_own kind.Marker refl (new_marker inputs.key element.style inputs has new)

      pub none_by_before : has_pseudo_box element.style.before ≡ true → HasNoneOf (box_of inputs.key kind.Before ∷ []) (own_counted table by_parent inputs.key element (handed_in inputs earlier)).set
      none_by_before has = none_in_own kind.Before refl (new_before inputs.key element.style inputs has new)

      pub marker_ready : has_marker element.style ≡ true → IsReady (box_of inputs.key kind.Marker) (inside (own_counted table by_parent inputs.key element (handed_in inputs earlier)).set inputs.depth)
      marker_ready has = ready_inside (box_of inputs.key kind.Marker) (own_counted table by_parent inputs.key element (handed_in inputs earlier)).set inputs.depth (none_by_marker has)

      pub before_ready : has_pseudo_box element.style.before ≡ true → IsReady (box_of inputs.key kind.Before) (behind_marker table by_parent inputs.key element (handed_in inputs earlier))
      before_ready has =
          let marker = marker_of table by_parent inputs.key element (handed_in inputs earlier) in
          let around = inside (own_counted table by_parent inputs.key element (handed_in inputs earlier)).set inputs.depth in
          ready_next (box_of inputs.key kind.Before) (box_of inputs.key kind.Marker) (own_counted table by_parent inputs.key element (handed_in inputs earlier)).set inputs.depth marker.depth marker.made (none_by_before has)
          (holds_if (λ _. HasNoneOf (box_of inputs.key kind.Marker ∷ []) (own_counted table by_parent inputs.key element (handed_in inputs earlier)).set) (has_marker element.style) (formed_box [] (marker_content table by_parent inputs.key element around)) (no_box inputs.depth) (λ h. none_by_marker h) (λ _. tt))
          (marker_agrees table inputs.key element around marker_ready)

      pub own_is : own_counted table by_peers inputs.key element (handed_in inputs earlier) ≡ own_counted table by_parent inputs.key element (handed_in inputs earlier)
      own_is = own_same table inputs.key element (handed_in inputs earlier) element_ready

      pub marker_is : marker_of table by_peers inputs.key element (handed_in inputs earlier) ≡ marker_of table by_parent inputs.key element (handed_in inputs earlier)
      marker_is =
          ap (λ (counted : Counted). marker_formed table by_peers inputs.key element (inside counted.set inputs.depth)) own_is
          ∙ marker_same table inputs.key element (inside (own_counted table by_parent inputs.key element (handed_in inputs earlier)).set inputs.depth) marker_ready

      pub behind_marker_is : behind_marker table by_peers inputs.key element (handed_in inputs earlier) ≡ behind_marker table by_parent inputs.key element (handed_in inputs earlier)
      behind_marker_is =
          let box = box_of inputs.key kind.Marker in
          let marker = marker_of table by_parent inputs.key element (handed_in inputs earlier) in
          ap (λ formed. past_formed box formed (inside (own_counted table by_peers inputs.key element (handed_in inputs earlier)).set inputs.depth)) marker_is
          ∙ ap (λ (counted : Counted). past_formed box marker (inside counted.set inputs.depth)) own_is

      pub before_is : before_of table by_peers inputs.key element (handed_in inputs earlier) ≡ before_of table by_parent inputs.key element (handed_in inputs earlier)
      before_is =
          ap (pseudo_formed table by_peers inputs.key element kind.Before element.style.before) behind_marker_is
          ∙ pseudo_same table inputs.key element kind.Before element.style.before (behind_marker table by_parent inputs.key element (handed_in inputs earlier)) before_ready

      -- an element up to its children, and what its children are handed
      pub entry_same : entry_of table by_peers inputs.key element (handed_in inputs earlier) ≡ entry_of table by_parent inputs.key element (handed_in inputs earlier)
      entry_same =
          let make : Counted → Formed → Formed → Entry = λ counted marker before. record { own = counted.set; changes = counted.changes; marker = marker.made; before = before.made; depth = before.depth } in
          let handed = handed_in inputs earlier in
          ap (λ counted. make counted (marker_of table by_peers inputs.key element handed) (before_of table by_peers inputs.key element handed)) own_is
          ∙ ap (λ marker. make (own_counted table by_parent inputs.key element handed) marker (before_of table by_peers inputs.key element handed)) marker_is
          ∙ ap (make (own_counted table by_parent inputs.key element handed) (marker_of table by_parent inputs.key element handed)) before_is

      pub children_same : children_handed table by_peers inputs.key element (handed_in inputs earlier) ≡ children_handed table by_parent inputs.key element (handed_in inputs earlier)
      children_same =
          let box = box_of inputs.key kind.Before in
          ap (λ formed. past_formed box formed (behind_marker table by_peers inputs.key element (handed_in inputs earlier))) before_is
          ∙ ap (past_formed box (before_of table by_parent inputs.key element (handed_in inputs earlier))) behind_marker_is

    pub closing_same : AreNew (last_boxes inputs.key element.style) inputs → closing_of table by_peers inputs.key element (handed_in inputs earlier) ≡ closing_of table by_parent inputs.key element (handed_in inputs earlier)
    closing_same new =
        let box = box_of inputs.key kind.After in
        let close : Formed → Closing = λ after. record { after = after.made; exit = unwrap_or (past_formed box after (handed_in inputs earlier)).preceding []; depth = after.depth } in
        ap close (pseudo_same table inputs.key element kind.After element.style.after (handed_in inputs earlier) (λ has. ready_in box earlier inputs fits (new_after inputs.key element.style inputs has new)))
