-- The values that are told at a box: those that the boxes up to it made of the first ones.
use Rattle.std.proofs.Common.{◌≡◌, ◌<◌, ◌++◌, ◌∷◌, ◌||◌, ℕ, pos, List, [], Bool, true, false, cond, Option, Some, None, map, refl, sym, ap, subst, ◌∙◌, inl, inr, arith, append-nil, append_assoc, ◌&&◌, not}
use Rattle.std.proofs.lemmas.Bool.{cases_Bool}
use Rattle.std.proofs.lemmas.List.Elements.{filter-append}
use Rattle.std.specs.List.{AllByRecursion, fold, last_or, list_any}
use Rattle.std.specs.Option.{option_map_or}
use Rattle.forest.specs.Forest.{Forest, Empty, Tree, labels}
use Rattle.plain_types.specs.declared.box_id.BoxId.{BoxId}
use Rattle.plain_types.specs.declared.counter.Counter.{Counter}
use Rattle.counter_sets.specs.Sets.{is_same_box}
use Rattle.box_eval.proofs.BoxLemmas.{box_eq, box_self}
use Rattle.box_eval.proofs.ListLemmas.{each_append, or_parts}
use Rattle.counter_scopes.specs.Boxes.{DocumentBox}
use Rattle.plain_types.specs.declared.style.ResetOp.{ResetOp}
use Rattle.box_eval.specs.Properties.{first_value}
use Rattle.counter_scopes.specs.Counting.{created, mentions, reset_for, resets}
use Rattle.counter_scopes.specs.Scopes.{creators, creators_around, innermost_creator, is_in_scope}
use Rattle.counter_scopes.specs.Values.{boxes_up_to, counter_at}
use Rattle.counter_scopes.proofs.CountLemmas.{changed}
use Rattle.counter_scopes.proofs.EventLemmas.{boxes_from, changed_at, counter_told, creator_around, creator_item, is_innermost}
use Rattle.counter_scopes.proofs.ToldLemmas.{AreApart, AreOut, HasDistinctBoxes, Worth, Worths, begun, below_once, beside_once, box_not, change, counter_of, creates_here, edit, first, in_append, is_in, listed, listing, next, out_after, out_children, put, root_new, times, told, worth, worth_after, missing}
use Rattle.counter_scopes.proofs.OrderLemmas.{IsItem, each_filter, item_in, labels_apart, scope_up_to, up_past}
use Rattle.counter_scopes.proofs.ScopeLemmas.{Stand, around, at_root, creators_are, fold_append, here, later_below, later_root, made, root_stand, stand_below, stand_beside}

and_false : (b : Bool) → (b && false) ≡ false
and_false true = refl
and_false false = refl

module _ (name : List ℕ) (whole : Forest DocumentBox) where
  -- What a box does to worths, told by the scopes alone.

  abbrev pub creates_one : DocumentBox → Bool
  creates_one box = is_in box.id (creators_around name whole box.id)

  -- where it creates one
  abbrev pub IsAlone : DocumentBox → Type 0
  IsAlone box = creates_one box ≡ (resets name box || (mentions name box && not (list_any (λ (creator : DocumentBox). not (is_same_box creator.id box.id)) (creators_around name whole box.id))))

  abbrev pub step : Worths → DocumentBox → Worths
  step worths box = edit (innermost_creator name whole box.id) (change name box) (cond (creates_one box) (put box.id (first name box) worths) worths)

  -- the boxes of a list one after the other, each with the counters in whose scope it is
  abbrev pub trace : Worths → List DocumentBox → List (DocumentBox × List Counter)
  trace worths [] = []
  trace worths (box ∷ boxes) = (box, listing name (step worths box) (creators_around name whole box.id)) ∷ trace (step worths box) boxes

  trace_append : (xs ys : List DocumentBox) (worths : Worths) → trace worths (xs ++ ys) ≡ trace worths xs ++ trace (fold step worths xs) ys
  trace_append [] ys worths = refl
  trace_append (box ∷ xs) ys worths = ap (λ all. (box, listing name (step worths box) (creators_around name whole box.id)) ∷ all) (trace_append xs ys (step worths box))

  -- A box of the whole forest.
  module _ (box : DocumentBox) (outer : List DocumentBox) (latest : Option DocumentBox) (worths : Worths) (new : is_in box.id (outer ++ listed latest) ≡ false) (told_here : creators_around name whole box.id ≡ outer ++ listed (next name outer latest box)) where
    parent_new : is_in box.id outer ≡ false
    parent_new = (or_parts (is_in box.id outer) (is_in box.id (listed latest)) (sym (in_append box.id outer (listed latest)) ∙ new)).0

    creates_is : creates_one box ≡ creates_here name outer latest box
    creates_is =
        ap (is_in box.id) told_here
        ∙ elim (cases_Bool (creates_here name outer latest box)) [
          | inl e ↦ rw (e, in_append box.id outer (box ∷ []), parent_new, box_self box.id) refl
          | inr e ↦ rw (e, new) refl
        ]

    pub step_is : worth name outer latest box worths ≡ step worths box
    step_is =
        sym (ap (λ t. edit (innermost_creator name whole box.id) (change name box) (cond t (put box.id (first name box) worths) worths)) creates_is
        ∙ ap (λ all. edit (last_or None all) (change name box) (begun name outer latest box worths)) told_here)

    -- the counters that are handed in are others
    other_any : (xs : List DocumentBox) (x : DocumentBox) (rest : List DocumentBox) → xs ≡ x ∷ rest → is_in box.id xs ≡ false → list_any (λ (creator : DocumentBox). not (is_same_box creator.id box.id)) xs ≡ true
    other_any [] x rest e h = absurd (cc)
    other_any (y ∷ ys) x rest e h = let parts = or_parts (is_same_box y.id box.id) (is_in box.id ys) h in rw parts.0 refl

    alone : (outer : List DocumentBox) (latest : Option DocumentBox) (names : Bool) → is_in box.id (outer ++ listed latest) ≡ false
        → missing outer latest names ≡ (names && not (list_any (λ (creator : DocumentBox). not (is_same_box creator.id box.id)) (outer ++ listed (cond (missing outer latest names) (Some box) latest))))
    alone [] None true h = rw (box_self box.id) refl
    alone [] None false h = refl
    alone [] (Some x) names h = sym (ap (λ t. names && not t) (other_any (x ∷ []) x [] refl h) ∙ and_false names)
    alone (x ∷ outer) latest names h = sym (ap (λ t. names && not t) (other_any (x ∷ (outer ++ listed latest)) x (outer ++ listed latest) refl h) ∙ and_false names)

    pub created_alone : IsAlone box
    created_alone =
        let others : List DocumentBox → Bool = λ xs. list_any (λ (creator : DocumentBox). not (is_same_box creator.id box.id)) xs in
        creates_is
        ∙ elim (cases_Bool (resets name box)) [
          | inl e ↦ rw e refl
          | inr e ↦
              let around : creators_around name whole box.id ≡ outer ++ listed (cond (missing outer latest (mentions name box)) (Some box) latest) =
              told_here ∙ ap (λ t. outer ++ listed (cond (t || missing outer latest (mentions name box)) (Some box) latest)) e in
              rw e (alone outer latest (mentions name box) new ∙ sym (ap (λ xs. mentions name box && not (others xs)) around))
        ]

  -- trees in the whole forest
  pub record Traced (trees : Forest DocumentBox) (outer : List DocumentBox) (latest : Option DocumentBox) (worths : Worths) : Type 0 where
    pub boxes : told name outer latest worths trees ≡ trace worths (labels trees)
    pub created : AllByRecursion IsAlone (labels trees)
    pub final : worth_after name outer latest worths trees ≡ fold step worths (labels trees)

  pub traced : (trees : Forest DocumentBox) (outer : List DocumentBox) (latest : Option DocumentBox) (worths : Worths) (earlier later : List DocumentBox) → HasDistinctBoxes trees → AreOut trees (outer ++ listed latest) → Stand name whole trees outer latest earlier → ((b : BoxId) → 0 < times b trees → around name whole b later ≡ []) → creators name whole ≡ earlier ++ (made name outer latest trees ++ later) → Traced trees outer latest worths
  traced Empty outer latest worths earlier later distinct out stand none all = record { boxes = refl; created = tt; final = refl }
  traced (Tree root children after) outer latest worths earlier later distinct out stand none all =
      let xs = outer ++ listed (next name outer latest root) in
      let now = earlier ++ here name outer latest root in
      let below = made name xs None children in
      let rest = made name outer (next name outer latest root) after in
      let stands : 0 < times root.id (Tree root children after) = rw (box_self root.id) (omega arith) in
      let split : creators name whole ≡ now ++ ((below ++ rest) ++ later) =
      all ∙ ap (λ zs. earlier ++ zs) (append_assoc (here name outer latest root) (below ++ rest) later) ∙ sym (append_assoc earlier (here name outer latest root) ((below ++ rest) ++ later)) in
      let split_below : creators name whole ≡ now ++ (below ++ (rest ++ later)) = split ∙ ap (λ zs. now ++ zs) (append_assoc below rest later) in
      let split_beside : creators name whole ≡ (now ++ below) ++ (rest ++ later) = split_below ∙ sym (append_assoc now below (rest ++ later)) in
      let told_here : creators_around name whole root.id ≡ xs =
      ap (around name whole root.id) split
      ∙ filter-append (λ (creator : DocumentBox). is_in_scope name whole creator.id root.id) now ((below ++ rest) ++ later)
      ∙ ap (λ zs. around name whole root.id now ++ zs) (later_root name whole root children after outer latest earlier distinct stand later (none root.id stands))
      ∙ append-nil (around name whole root.id now)
      ∙ at_root name whole root children after outer latest earlier distinct stand in
      let is = step_is root outer latest worths (root_new root children after (outer ++ listed latest) out) told_here in
      let w = worth_after name xs None (worth name outer latest root worths) children in
      let inner = traced children xs None (worth name outer latest root worths) now (rest ++ later) (below_once root children after distinct) (out_children name root children after outer latest distinct out) (stand_below name whole root children after outer latest earlier distinct stand)
      (λ b h. later_below name whole root children after outer latest earlier distinct stand later b h (none b (omega arith))) split_below in
      let onward = traced after outer (next name outer latest root) w (now ++ below) later (beside_once root children after distinct) (out_after name root children after outer latest distinct out) (stand_beside name whole root children after outer latest earlier distinct stand)
      (λ b h. none b (omega arith)) split_beside in
      let inside : w ≡ fold step (step worths root) (labels children) = inner.final ∙ ap (λ u. fold step u (labels children)) is in
      record {
        boxes =
            ap (λ zs. (root, listing name (worth name outer latest root worths) zs) ∷ (told name xs None (worth name outer latest root worths) children ++ told name outer (next name outer latest root) w after)) (sym told_here)
            ∙ ap (λ zs. (root, listing name (worth name outer latest root worths) (creators_around name whole root.id)) ∷ (zs ++ told name outer (next name outer latest root) w after)) inner.boxes
            ∙ ap (λ zs. (root, listing name (worth name outer latest root worths) (creators_around name whole root.id)) ∷ (trace (worth name outer latest root worths) (labels children) ++ zs)) (onward.boxes ∙ ap (λ u. trace u (labels after)) inside)
            ∙ ap (λ u. (root, listing name u (creators_around name whole root.id)) ∷ (trace u (labels children) ++ trace (fold step (step worths root) (labels children)) (labels after))) is
            ∙ ap (λ zs. (root, listing name (step worths root) (creators_around name whole root.id)) ∷ zs) (sym (trace_append (labels children) (labels after) (step worths root)));
        created = (created_alone root outer latest worths (root_new root children after (outer ++ listed latest) out) told_here, each_append IsAlone (labels children) (labels after) inner.created onward.created);
        final = onward.final ∙ ap (λ u. fold step u (labels after)) inside ∙ sym (fold_append step (labels children) (labels after) (step worths root));
      }

  pub traced_all : HasDistinctBoxes whole → (worths : Worths) → Traced whole [] None worths
  traced_all distinct worths = traced whole [] None worths [] [] distinct tt (root_stand name whole) (λ b h. refl) (creators_are name whole distinct ∙ sym (append-nil (made name [] None whole)))

  pub traced_root : HasDistinctBoxes whole → (worths : Worths) → told name [] None worths whole ≡ trace worths (labels whole)
  traced_root distinct worths = (traced_all distinct worths).boxes

  -- From the first worth of a counter on.

  -- one step, seen by the counter that a box created
  step_at : (worths : Worths) (box : DocumentBox) (a : BoxId) (now : Worth) → cond (creates_one box) (put box.id (first name box) worths) worths a ≡ now → counter_of name (step worths box) a ≡ changed_at name whole a (record { name = name; creator = a; reversed = now.reversed; value = now.value }) box
  step_at worths box a worth e =
      let begins = cond (creates_one box) (put box.id (first name box) worths) worths in
      let make : Worth → Counter = λ w. record { name = name; creator = a; reversed = w.reversed; value = w.value } in
      by_innermost (innermost_creator name whole box.id) begins ∙ ap (λ w. cond (is_innermost name whole a box.id) (changed name box (make w)) (make w)) e
    where
      by_innermost : (o : Option DocumentBox) (u : Worths) → counter_of name (edit o (change name box) u) a ≡ cond (option_map_or (λ (innermost : DocumentBox). is_same_box innermost.id a) o false) (changed name box (counter_of name u a)) (counter_of name u a)
      by_innermost None u = refl
      by_innermost (Some i) u = elim (cases_Bool (is_same_box i.id a)) [
        | inl t ↦ rw t (ap (λ other. let w = change name box (u other) in record { name = name; creator = a; reversed = w.reversed; value = w.value }) (box_eq i.id a t))
        | inr t ↦ rw t refl
      ]

  begins_other : (worths : Worths) (box : DocumentBox) (a : BoxId) → is_same_box box.id a ≡ false → cond (creates_one box) (put box.id (first name box) worths) worths a ≡ worths a
  begins_other worths box a h = elim (cases_Bool (creates_one box)) [ inl e ↦ rw (e, h) refl | inr e ↦ rw e refl ]

  -- boxes after its creator
  steps_after : (boxes : List DocumentBox) (worths : Worths) (a : BoxId) → is_in a boxes ≡ false → counter_of name (fold step worths boxes) a ≡ fold (changed_at name whole a) (counter_of name worths a) boxes
  steps_after [] worths a h = refl
  steps_after (box ∷ boxes) worths a h =
      let parts = or_parts (is_same_box box.id a) (is_in a boxes) h in
      steps_after boxes (step worths box) a parts.1 ∙ ap (λ c. fold (changed_at name whole a) c boxes) (step_at worths box a (worths a) (begins_other worths box a parts.0))

  up_none : (boxes : List DocumentBox) (a b : BoxId) → is_in a boxes ≡ false → is_in a (boxes_up_to b boxes) ≡ false
  up_none [] a b h = refl
  up_none (box ∷ boxes) a b h =
      let parts = or_parts (is_same_box box.id a) (is_in a boxes) h in
      elim (cases_Bool (is_same_box box.id b)) [ inl e ↦ rw (e, parts.0) refl | inr e ↦ rw (e, parts.0) (up_none boxes a b parts.1) ]

  -- all boxes up to one
  counter_is : (boxes : List DocumentBox) (worths : Worths) (b : BoxId) (x : DocumentBox) → AreApart boxes → IsItem x boxes → creates_one x ≡ true → is_in x.id (boxes_up_to b boxes) ≡ true
      → counter_of name (fold step worths (boxes_up_to b boxes)) x.id ≡ fold (changed_at name whole x.id) (created name x) (boxes_up_to b (boxes_from x.id boxes))
  counter_is [] worths b x apart item makes there = absurd item
  counter_is (box ∷ boxes) worths b x apart item makes there =
      let rest : Bool → List DocumentBox = λ t. cond t [] (boxes_up_to b boxes) in
      elim (cases_Bool (is_same_box box.id x.id)) [
        | inl e ↦
            let none_later : is_in x.id boxes ≡ false = ap (λ box. is_in box boxes) (sym (box_eq box.id x.id e)) ∙ apart.0 in
            let same : box ≡ x = the_one item none_later in
            let begins : cond (creates_one box) (put box.id (first name box) worths) worths x.id ≡ first name x =
            ap (λ (z : DocumentBox). cond (creates_one z) (put z.id (first name z) worths) worths x.id) same
            ∙ ap (λ t. cond t (put x.id (first name x) worths) worths x.id) makes ∙ ap (λ t. cond t (first name x) (worths x.id)) (box_self x.id) in
            let none_rest : (t : Bool) → is_in x.id (rest t) ≡ false = λ t. elim t as (λ t. is_in x.id (rest t) ≡ false) [ true ↦ refl | false ↦ up_none boxes x.id b none_later ] in
            steps_after (rest (is_same_box box.id b)) (step worths box) x.id (none_rest (is_same_box box.id b))
            ∙ ap (λ c. fold (changed_at name whole x.id) c (rest (is_same_box box.id b))) (step_at worths box x.id (first name x) begins ∙ ap (λ c. changed_at name whole x.id c box) (created_is x))
            ∙ sym (ap (λ t. fold (changed_at name whole x.id) (created name x) (boxes_up_to b (cond t (box ∷ boxes) (boxes_from x.id boxes)))) e)
        | inr e ↦ elim (cases_Bool (is_same_box box.id b)) [
          | inl f ↦ absurd (let bad : (is_same_box box.id x.id || is_in x.id []) ≡ true = subst (λ t. (is_same_box box.id x.id || is_in x.id (rest t)) ≡ true) f there in let no : (is_same_box box.id x.id || is_in x.id []) ≡ false = rw e refl in cc)
          | inr f ↦
              ap (λ t. counter_of name (fold step (step worths box) (rest t)) x.id) f
              ∙ counter_is boxes (step worths box) b x apart.1 (other_one item e) makes (in_rest e f there)
              ∙ sym (ap (λ t. fold (changed_at name whole x.id) (created name x) (boxes_up_to b (cond t (box ∷ boxes) (boxes_from x.id boxes)))) e)
        ]
      ]
    where
      the_one : IsItem x (box ∷ boxes) → is_in x.id boxes ≡ false → box ≡ x
      the_one (inl e) h = e
      the_one (inr i) h = absurd (let yes = item_in x boxes i in cc)

      other_one : IsItem x (box ∷ boxes) → is_same_box box.id x.id ≡ false → IsItem x boxes
      other_one (inl e) h = absurd (let yes : is_same_box box.id x.id ≡ true = subst (λ (z : DocumentBox). is_same_box box.id z.id ≡ true) e (box_self box.id) in cc)
      other_one (inr i) h = i

      in_rest : is_same_box box.id x.id ≡ false → is_same_box box.id b ≡ false → (is_same_box box.id x.id || is_in x.id (cond (is_same_box box.id b) [] (boxes_up_to b boxes))) ≡ true → is_in x.id (boxes_up_to b boxes) ≡ true
      in_rest e f h = rw f at (rw e at h)

      created_is : (x : DocumentBox) → record { name = name; creator = x.id; reversed = (created name x).reversed; value = (created name x).value } ≡ created name x
      created_is x = by_reset (reset_for name x)
        where
          by_reset : (reset : Option ResetOp) → (let c : Counter = option_map_or (λ (reset : ResetOp). record { name = name; creator = x.id; reversed = reset.reversed; value = first_value x.starts x.id reset }) reset (record { name = name; creator = x.id; reversed = false; value = pos 0 }) in record { name = name; creator = x.id; reversed = c.reversed; value = c.value } ≡ c)
          by_reset None = refl
          by_reset (Some reset) = refl

  -- The whole forest, box for box.
  module _ (distinct : HasDistinctBoxes whole) (worths : Worths) where
    item_creates : (x : DocumentBox) → IsItem x (creators name whole) → (IsItem x (labels whole)) × (creates_one x ≡ true)
    item_creates x i = (creator_item name whole distinct x i, creator_around name whole distinct x i)

    listing_map : (u : Worths) (f : DocumentBox → Counter) (xs : List DocumentBox) → AllByRecursion (λ (x : DocumentBox). counter_of name u x.id ≡ f x) xs → listing name u xs ≡ map f xs
    listing_map u f [] h = refl
    listing_map u f (x ∷ xs) h = ap (λ c. c ∷ listing name u xs) h.0 ∙ ap (λ all. f x ∷ all) (listing_map u f xs h.1)

    listing_is : (box : DocumentBox) → listing name (fold step worths (boxes_up_to box.id (labels whole))) (creators_around name whole box.id) ≡ map (counter_at whole name box.id) (creators_around name whole box.id)
    listing_is box =
        let u = fold step worths (boxes_up_to box.id (labels whole)) in
        listing_map u (counter_at whole name box.id) (creators_around name whole box.id)
        (each_filter (λ (x : DocumentBox). counter_of name u x.id ≡ counter_at whole name box.id x) (λ (creator : DocumentBox). is_in_scope name whole creator.id box.id) (creators name whole)
        (λ x i scope. let both = item_creates x i in let up = scope_up_to name whole x.id box.id distinct scope in counter_is (labels whole) worths box.id x (labels_apart whole distinct) both.0 both.1 up ∙ counter_told name whole distinct x i box.id up))

    abbrev pub told_box : DocumentBox → DocumentBox × List Counter
    told_box box = (box, map (counter_at whole name box.id) (creators_around name whole box.id))

    not_before : (before boxes : List DocumentBox) (box : DocumentBox) → AreApart (before ++ box ∷ boxes) → is_in box.id before ≡ false
    not_before [] boxes box apart = refl
    not_before (x ∷ before) boxes box apart =
        let parts = or_parts (is_in x.id before) (is_in x.id (box ∷ boxes)) (sym (in_append x.id before (box ∷ boxes)) ∙ apart.0) in
        let here = or_parts (is_same_box box.id x.id) (is_in x.id boxes) parts.1 in
        rw (box_not box.id x.id here.0) (not_before before boxes box apart.1)

    trace_is : (rest before : List DocumentBox) → labels whole ≡ before ++ rest → trace (fold step worths before) rest ≡ map told_box rest
    trace_is [] before split = refl
    trace_is (box ∷ boxes) before split =
        let here : fold step worths (before ++ box ∷ []) ≡ step (fold step worths before) box = fold_append step before (box ∷ []) worths in
        let apart : is_in box.id before ≡ false = not_before before boxes box (subst AreApart split (labels_apart whole distinct)) in
        let up : boxes_up_to box.id (labels whole) ≡ before ++ box ∷ [] = ap (boxes_up_to box.id) split ∙ up_past box.id before (box ∷ boxes) apart ∙ ap (λ t. before ++ box ∷ cond t [] (boxes_up_to box.id boxes)) (box_self box.id) in
        let own : listing name (step (fold step worths before) box) (creators_around name whole box.id) ≡ map (counter_at whole name box.id) (creators_around name whole box.id) =
        ap (λ u. listing name u (creators_around name whole box.id)) (sym here ∙ sym (ap (fold step worths) up)) ∙ listing_is box in
        ap (λ named. (box, named) ∷ trace (step (fold step worths before) box) boxes) own
        ∙ ap (λ u. told_box box ∷ trace u boxes) (sym here)
        ∙ ap (λ all. told_box box ∷ all) (trace_is boxes (before ++ box ∷ []) (split ∙ sym (append_assoc before (box ∷ []) boxes)))

    pub told_boxes : told name [] None worths whole ≡ map told_box (labels whole)
    told_boxes = traced_root distinct worths ∙ trace_is (labels whole) [] refl
