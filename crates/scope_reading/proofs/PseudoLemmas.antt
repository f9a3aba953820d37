-- What is read for a counter that the before or after box of an element creates. Throughout, a is that box.
use Rattle.std.proofs.Common.{◌≡◌, ◌==◌, ◌++◌, ◌∷◌, ◌&&◌, ℕ, List, [], Bool, true, false, cond, Option, Some, None, refl, sym, ap, ◌∙◌}
use Rattle.std.specs.Prelude.{unwrap_or}
use Rattle.std.specs.List.{AllByRecursion}
use Rattle.forest.specs.Forest.{Forest}
use Rattle.forest.specs.Keys.{Keyed, times}
use Rattle.plain_types.specs.declared.box_id.BoxId.{BoxId}
use Rattle.plain_types.specs.declared.box_kind.BoxKind.{BoxKind}
use Rattle.plain_types.specs.declared.box_kind.BoxKind.TheVariants as kind
use Rattle.plain_types.specs.declared.counter.Counter.{Counter}
use Rattle.plain_types.specs.declared.counter_style.CounterStyle.{CounterStyle}
use Rattle.counter_sets.specs.Sets.{is_missing_in, is_same_box}
use Rattle.reversed_start.specs.declared.event.Event.{Event}
use Rattle.box_eval.specs.declared.change.Change.{Change}
use Rattle.box_eval.specs.declared.made.Made.{Made}
use Rattle.box_eval.specs.Boxes.{box_of, has_pseudo_box}
use Rattle.box_eval.specs.Elements.{Handed, Styled, before_of, behind_marker, by_parent, children_handed, content_of, formed_box, inherited_by, inside, is_replaced_in, marker_of, no_box, own_counted, past_formed, pseudo_counted}
use Rattle.box_eval.specs.Evaluation.{Element, StyledNode, changes, changes_in, first_changes, last_changes, past_node, past_trees}
use Rattle.box_eval.proofs.DocumentLemmas.{AreGood, children_good}
use Rattle.box_eval.proofs.ElementLemmas.{Holds, marker_good, own_good}
use Rattle.box_eval.proofs.EntryLemmas.{next_inherits}
use Rattle.box_eval.proofs.KeptLemmas.{counted_good, inherited_good}
use Rattle.box_eval.proofs.ListLemmas.{each_imp}
use Rattle.scope_reading.specs.ScopeChanges.{row_changes}
use Rattle.scope_reading.proofs.OtherCounters.{IsOther, IsOfOther, do_nothing, names-other, steady}
use Rattle.scope_reading.proofs.RowLemmas.{its, its-none, its-split, row_is_enough}

and-false : (b : Bool) → (b && false) ≡ false
and-false true = refl
and-false false = refl

other-box : (b c : Bool) → b ≡ false → (b && c) ≡ false
other-box true c h = absurd (cc)
other-box false c h = refl

append-none : {A : Type 0} (xs : List A) → xs ++ [] ≡ xs
append-none [] = refl
append-none (x ∷ xs) = ap (λ ys. x ∷ ys) (append-none xs)

formed-parent : (P : Counter → Type 0) (box : BoxId) (made : Option Made) (depth : ℕ) (handed : Handed) → AllByRecursion P handed.parent → AllByRecursion P (past_formed box (record { made = made; depth = depth }) handed).parent
formed-parent P box None depth handed good = good
formed-parent P box (Some made) depth handed good = good

-- An element and what it is handed, of which a box of another kind than its own creates the counter.
module _ (key : ℕ) (name : List ℕ) (table : List CounterStyle) (element : Styled) (handed : Handed) where
  inherits : (a : BoxId) → AreGood (IsOther a name) handed → AllByRecursion (IsOther a name) (inherited_by handed)
  inherits a good =
      inherited_good (IsOther a name) (steady a name) handed.parent handed.sibling handed.preceding good.parent
      (each_imp (IsOther a name) (λ counter. is_missing_in handed.parent counter ≡ true → IsOther a name counter) (λ counter h e. h) (unwrap_or handed.sibling []) good.sibling)

  made-by : (a : BoxId) (which : BoxKind) → is_same_box (box_of key which) a ≡ false → (counter : Counter) → counter.creator ≡ box_of key which → IsOther a name counter
  made-by a which not counter e = other-box _ _ (ap (λ (box : BoxId). is_same_box box a) e ∙ not)

  own-set : (a : BoxId) → is_same_box (box_of key kind.Element) a ≡ false → AreGood (IsOther a name) handed → AllByRecursion (IsOther a name) (own_counted table by_parent key element handed).set
  own-set a not good = own_good (IsOther a name) (steady a name) table by_parent key element handed (inherits a good) (made-by a kind.Element not)

  pub own-changes : (a : BoxId) → is_same_box (box_of key kind.Element) a ≡ false → AreGood (IsOther a name) handed → AllByRecursion (IsOfOther a name) (own_counted table by_parent key element handed).changes
  own-changes a not good = names-other a name (box_of key kind.Element) _ _ (own_counted table by_parent key element handed).set not (own-set a not good) _

  abbrev first : List Change
  first = first_changes table by_parent true key (Element element) handed

  abbrev before : List Change
  before = changes_in (before_of table by_parent key element handed).made

  module _ (boxed : Bool) (c r : Forest (Keyed StyledNode)) (none_c : times key c ≡ 0) (none_r : times key r ≡ 0) where
    abbrev behind : Handed
    behind = past_trees table by_parent true (children_handed table by_parent key element handed) c

    abbrev last : List Change
    last = last_changes table by_parent true key (Element element) behind

    abbrev next : Handed
    next = past_node table by_parent true key (Element element) handed behind

    abbrev all : List Change
    all = first ++ (changes table by_parent true (children_handed table by_parent key element handed) c ++ (last ++ changes table by_parent boxed next r))

    behind-it : (a : BoxId) → a.key ≡ key → is_same_box (box_of key kind.Element) a ≡ false → AreGood (IsOther a name) handed → its a name (changes table by_parent boxed next r) ≡ []
    behind-it a is not good =
        its-none a name (changes table by_parent boxed next r)
        (do_nothing a name table r boxed next (ap (λ k. times k r) is ∙ none_r) (record { parent = good.parent; sibling = own-set a not good })).changes

    -- Its before box: its children are read as a row is, and its after box.
    pub before_reads : AreGood (IsOther (box_of key kind.Before) name) handed
        → its (box_of key kind.Before) name all
        ≡ its (box_of key kind.Before) name (before ++ (row_changes (box_of key kind.Before) name table true (children_handed table by_parent key element handed) c ++ last))
    before_reads good =
        let a : BoxId = box_of key kind.Before in
        let not : is_same_box (box_of key kind.Element) a ≡ false = and-false (key == key) in
        let children = children_handed table by_parent key element handed in
        let marker = marker_of table by_parent key element handed in
        let formed = before_of table by_parent key element handed in
        let parent = formed-parent (IsOther a name) (box_of key kind.Before) formed.made formed.depth (behind_marker table by_parent key element handed)
        (formed-parent (IsOther a name) (box_of key kind.Marker) marker.made marker.depth (inside (own_counted table by_parent key element handed).set handed.depth) (own-set a not good)) in
        let row = row_is_enough a name table c true children none_c parent in
        let own = (own_counted table by_parent key element handed).changes in
        its-split a name first (changes table by_parent true children c ++ (last ++ changes table by_parent boxed next r))
        ∙ ap (λ (es : List Event). es ++ its a name (changes table by_parent true children c ++ (last ++ changes table by_parent boxed next r)))
        (its-split a name own before ∙ ap (λ (es : List Event). es ++ its a name before) (its-none a name own (own-changes a not good)))
        ∙ ap (λ (es : List Event). its a name before ++ es)
        (its-split a name (changes table by_parent true children c) (last ++ changes table by_parent boxed next r)
        ∙ ap (λ (es : List Event). es ++ its a name (last ++ changes table by_parent boxed next r)) row
        ∙ ap (λ (es : List Event). its a name (row_changes a name table true children c) ++ es)
        (its-split a name last (changes table by_parent boxed next r) ∙ ap (λ (es : List Event). its a name last ++ es) (behind-it a refl not good) ∙ append-none (its a name last))
        ∙ sym (its-split a name (row_changes a name table true children c) last))
        ∙ sym (its-split a name before (row_changes a name table true children c ++ last))

    -- Its after box: that box alone.
    pub after_reads : AreGood (IsOther (box_of key kind.After) name) handed → its (box_of key kind.After) name all ≡ its (box_of key kind.After) name last
    after_reads good =
        let a : BoxId = box_of key kind.After in
        let not : is_same_box (box_of key kind.Element) a ≡ false = and-false (key == key) in
        let children = children_handed table by_parent key element handed in
        let inside_good = children_good table key element handed (IsOther a name) (steady a name) good (λ which counter e apart. made-by a which apart counter e) in
        let marker = marker_of table by_parent key element handed in
        let own = (own_counted table by_parent key element handed) in
        let own_set = own-set a not good in
        let marker_is : Holds (AllByRecursion (IsOther a name)) marker.made =
        marker_good (IsOther a name) (steady a name) table by_parent key element (inside own.set handed.depth) (inherited_good (IsOther a name) (steady a name) own.set None (Some own.set) own_set tt)
        (λ _ counter e. made-by a kind.Marker (and-false (key == key)) counter e) in
        let inherited_before = next_inherits (IsOther a name) (steady a name) (box_of key kind.Marker) own.set handed.depth marker.depth marker.made own_set marker_is in
        let first_none : its a name first ≡ [] =
        its-split a name own.changes before ∙ ap (λ (es : List Event). es ++ its a name before) (its-none a name own.changes (own-changes a not good))
        ∙ its-none a name before (before-other a (and-false (key == key)) (behind_marker table by_parent key element handed) inherited_before (has_pseudo_box element.style.before)) in
        its-split a name first (changes table by_parent true children c ++ (last ++ changes table by_parent boxed next r))
        ∙ ap (λ (es : List Event). es ++ its a name (changes table by_parent true children c ++ (last ++ changes table by_parent boxed next r))) first_none
        ∙ its-split a name (changes table by_parent true children c) (last ++ changes table by_parent boxed next r)
        ∙ ap (λ (es : List Event). es ++ its a name (last ++ changes table by_parent boxed next r))
        (its-none a name (changes table by_parent true children c) (do_nothing a name table c true children none_c inside_good).changes)
        ∙ its-split a name last (changes table by_parent boxed next r) ∙ ap (λ (es : List Event). its a name last ++ es) (behind-it a refl not good) ∙ append-none (its a name last)
      where
        before-other : (a : BoxId) → is_same_box (box_of key kind.Before) a ≡ false → (passed : Handed) → AllByRecursion (IsOther a name) (inherited_by passed) → (b : Bool)
            → AllByRecursion (IsOfOther a name) (changes_in (cond b (formed_box (pseudo_counted table by_parent key element kind.Before element.style.before passed).changes (content_of table by_parent key element kind.Before element.style.before (pseudo_counted table by_parent key element kind.Before element.style.before passed).set passed)) (no_box passed.depth)).made)
        before-other a not passed h true =
            names-other a name (box_of key kind.Before) _ _ (pseudo_counted table by_parent key element kind.Before element.style.before passed).set not
            (counted_good (IsOther a name) (steady a name) (is_replaced_in table by_parent key element kind.Before passed) (box_of key kind.Before) (made-by a kind.Before not) element.starts false element.style.before (inherited_by passed) h) _
        before-other a not passed h false = tt
