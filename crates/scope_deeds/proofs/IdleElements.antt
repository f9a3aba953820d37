-- An element does nothing to a counter that the sets of its boxes lack. Throughout, a is the box that creates the counter, n a node, c
-- what is under it, r what is after it.
use Rattle.std.proofs.Common.{◌≡◌, ◌==◌, ◌++◌, ◌∷◌, ◌||◌, ℕ, Bool, true, false, cond, pos, List, [], Option, Some, None, remove, refl, ap, ◌∙◌, subst}
use Rattle.std.proofs.lemmas.Bool.{eqb-true}
use Rattle.std.proofs.lemmas.Option.{same_Some}
use Rattle.std.specs.Prelude.{IfSome, is_some, unwrap_or}
use Rattle.std.specs.List.{AllByRecursion, fold}
use Rattle.std.specs.Option.{option_map_or}
use Rattle.forest.specs.Forest.{Forest, Empty, Tree}
use Rattle.forest.specs.Keys.{Keyed}
use Rattle.plain_types.specs.declared.box_id.BoxId.{BoxId}
use Rattle.plain_types.specs.declared.box_kind.BoxKind.{BoxKind}
use Rattle.plain_types.specs.declared.box_kind.BoxKind.TheVariants as kind
use Rattle.plain_types.specs.declared.content.Item.{Item}
use Rattle.plain_types.specs.declared.content.Item.TheVariants as item
use Rattle.plain_types.specs.declared.counter.Counter.{Counter}
use Rattle.plain_types.specs.declared.counter_style.CounterStyle.{CounterStyle}
use Rattle.plain_types.specs.declared.style.Style.{Style}
use Rattle.counter_sets.specs.Sets.{innermost, innermost_place, with_counter}
use Rattle.content_eval.specs.Contents.{set_behind}
use Rattle.counter_scopes.proofs.ToldLemmas.{each_front}
use Rattle.box_eval.specs.declared.element_record.ElementRecord.{ElementRecord}
use Rattle.box_eval.specs.Boxes.{box_of, has_pseudo_box}
use Rattle.box_eval.specs.Elements.{Handed, Styled, before_of, after_of, behind_marker, by_parent, content_of, formed_box, is_replaced_in, items_of, no_box, own_counted, pseudo_counted, pseudo_formed}
use Rattle.box_eval.specs.Evaluation.{Element, StyledNode, Text, changes_in, is_boxed}
use Rattle.box_eval.proofs.ElementLemmas.{Holds}
use Rattle.box_eval.proofs.ListLemmas.{each_append}
use Rattle.merged_walk.specs.Entries.{first_at}
use Rattle.merged_walk.specs.Evaluators.{past_all, told, told_all}
use Rattle.surroundings.specs.declared.surroundings.Surroundings.{Surroundings}
use Rattle.surroundings.specs.declared.told.Told.{Told}
use Rattle.surroundings.specs.StyledEvaluators.{inside_node, is_element, kept_of, own_changes_in, past_styled, said_in, styled_evaluator}
use Rattle.surroundings.specs.Surroundings.{handed_by}
use Rattle.scope_reading.specs.ScopeChanges.{has_it}
use Rattle.scope_reading.proofs.OtherCounters.{IsOther, IsOfOther, names-other, not-box}
use Rattle.scope_reading.proofs.RowLemmas.{its, its-none}
use Rattle.scope_deeds.specs.Counting.{own_set}
use Rattle.scope_deeds.specs.Reversed.{counting_told}

-- A box's content takes no counter away.
module _ (P : Counter → Type 0) (is_replaced : Counter → Bool) (box : BoxId) where
  with-counter : (set : List Counter) (name : List ℕ) → AllByRecursion P (with_counter is_replaced box set name) → AllByRecursion P set
  with-counter set name h = by (innermost set name) h
    where
      new : Counter
      new = record { name = name; creator = box; reversed = false; value = pos 0 }

      by : (found : Option Counter)
          → AllByRecursion P (cond (is_some found) set (option_map_or (remove set) (cond (option_map_or is_replaced found false) (innermost_place set name) None) set ++ record { name = name; creator = box; reversed = false; value = pos 0 } ∷ []))
          → AllByRecursion P set
      by None h = each_front P set (record { name = name; creator = box; reversed = false; value = pos 0 } ∷ []) h
      by (Some counter) h = h

  behind-item : (set : List Counter) (first : Item) → AllByRecursion P (set_behind is_replaced box set first) → AllByRecursion P set
  behind-item set (item.Chars text) h = h
  behind-item set (item.Attr name) h = h
  behind-item set (item.Quote kind) h = h
  behind-item set (item.Counter name style) h = with-counter set name h
  behind-item set (item.Counters name between style) h = with-counter set name h
  behind-item set (item.TargetCounter url name style) h = h
  behind-item set (item.TargetCounters url name between style) h = h
  behind-item set (item.TargetText url part) h = h

  before-content : (items : List Item) (set : List Counter) → AllByRecursion P (fold (set_behind is_replaced box) set items) → AllByRecursion P set
  before-content [] set h = h
  before-content (first ∷ items) set h = behind-item set first (before-content items (set_behind is_replaced box set first) h)

-- what holds of what is kept of each node holds of all that is told
pub each-told : (table : List CounterStyle) (P : ℕ × Told → Type 0) → ((node : Keyed StyledNode) (handed behind : Option Surroundings) → P (node.key, kept_of table node handed behind))
    → (handed : Option Surroundings) (g : Forest (Keyed StyledNode)) → AllByRecursion P (told_all (styled_evaluator table) handed g)
each-told table P each handed Empty = tt
each-told table P each handed (Tree n c r) =
    let inside : Option Surroundings = inside_node table n handed in
    let behind : Option Surroundings = past_all (styled_evaluator table) inside c in
    let next : Option Surroundings = past_styled table n handed behind in
    each_append P (told_all (styled_evaluator table) inside c) (told (styled_evaluator table) n handed behind ++ told_all (styled_evaluator table) next r) (each-told table P each inside c)
    (each_append P (told (styled_evaluator table) n handed behind) (told_all (styled_evaluator table) next r) (own (is_element n.label) behind) (each-told table P each next r))
  where
    own : (b : Bool) (behind : Option Surroundings) → AllByRecursion P (cond b ((n.key, kept_of table n handed behind) ∷ []) [])
    own true behind = (each n handed behind, tt)
    own false behind = tt

-- and of the first under a key
pub each-first : {R : Type 0} (P : ℕ × R → Type 0) (entries : List (ℕ × R)) → AllByRecursion P entries → (key : ℕ) (its : R) → first_at entries key ≡ Some its → P (key, its)
each-first P [] h key its is = absurd (cc)
each-first P (entry ∷ entries) h key its is = by (entry.0 == key) refl (each-first P entries h.1 key its)
  where
    by : (b : Bool) → (entry.0 == key) ≡ b → (first_at entries key ≡ Some its → P (key, its)) → P (key, its)
    by true same later =
        let here : Some entry.1 ≡ Some its = rw same at is in
        let at_key : entry.0 ≡ key = eqb-true entry.0 key same in
        let value : entry.1 ≡ its = same_Some entry.1 its here in
        subst P (λ i. (at_key i, value i)) h.0
    by false other later = later (rw other at is)

module _ (a : BoxId) (name : List ℕ) where
  abbrev pub AllOther : List Counter → Type 0
  AllOther set = AllByRecursion (IsOther a name) set

  pub lacks-set : (set : List Counter) → AllOther set → has_it a name set ≡ false
  lacks-set [] h = refl
  lacks-set (counter ∷ set) h = ap (λ b. b || has_it a name set) h.0 ∙ lacks-set set h.1

  -- the sets of an element's boxes lack the counter; its marker is not looked at
  pub record LackIt (said : ElementRecord) : Type 0 where
    pub own : AllOther said.own
    pub before : Holds AllOther said.before
    pub after : Holds AllOther said.after

  -- an element does nothing to it
  pub record IsIdle (told : Told) : Type 0 where
    pub before : its a name (counting_told told).deeds.before_children ≡ []
    pub after : its a name (counting_told told).deeds.after_children ≡ []
    pub own : IfSome (own_set told.said) (λ own. has_it a name own ≡ false)

  module _ (table : List CounterStyle) where
    pseudo-idle : (key : ℕ) (element : Styled) (apart : (key == a.key) ≡ false) (which : BoxKind) (style : Style) (handed : Handed)
        → Holds AllOther (pseudo_formed table by_parent key element which style handed).made → AllByRecursion (IsOfOther a name) (changes_in (pseudo_formed table by_parent key element which style handed).made)
    pseudo-idle key element apart which style handed h = by (has_pseudo_box style) h
      where
        set : List Counter
        set = (pseudo_counted table by_parent key element which style handed).set

        by : (b : Bool) → Holds AllOther (cond b (formed_box (pseudo_counted table by_parent key element which style handed).changes (content_of table by_parent key element which style set handed)) (no_box handed.depth)).made
            → AllByRecursion (IsOfOther a name) (changes_in (cond b (formed_box (pseudo_counted table by_parent key element which style handed).changes (content_of table by_parent key element which style set handed)) (no_box handed.depth)).made)
        by true h =
            names-other a name (box_of key which) _ _ set (not-box a name table key element apart which)
            (before-content (IsOther a name) (is_replaced_in table by_parent key element which handed) (box_of key which) (items_of style.content) set h) _
        by false h = tt

    -- a node that is not the creator's
    abbrev told_in : Bool → ℕ → StyledNode → (handed behind : Handed) → ElementRecord
    told_in has key label handed behind = said_in table has key label handed behind

    record IsIdleNode (has : Bool) (key : ℕ) (label : StyledNode) (handed behind : Handed) : Type 0 where
      pub before : its a name (own_changes_in table has key label handed ++ changes_in (told_in has key label handed behind).before) ≡ []
      pub after : its a name (changes_in (told_in has key label handed behind).after) ≡ []
      pub own : IfSome (own_set (told_in has key label handed behind)) (λ own. has_it a name own ≡ false)

    idle-node : (has : Bool) (key : ℕ) (label : StyledNode) (handed behind : Handed) → (key == a.key) ≡ false
        → ((told_in has key label handed behind).has_box ≡ true → LackIt (told_in has key label handed behind)) → IsIdleNode has key label handed behind
    idle-node true key (Element element) handed behind apart lack =
        let sets = lack refl in
        let own : AllByRecursion (IsOfOther a name) (own_counted table by_parent key element handed).changes =
        names-other a name (box_of key kind.Element) _ _ (own_counted table by_parent key element handed).set (not-box a name table key element apart kind.Element) sets.own _ in
        let before = pseudo-idle key element apart kind.Before element.style.before (behind_marker table by_parent key element handed) sets.before in
        let after = pseudo-idle key element apart kind.After element.style.after behind sets.after in
        record {
          before = its-none a name ((own_counted table by_parent key element handed).changes ++ changes_in (before_of table by_parent key element handed).made)
              (each_append (IsOfOther a name) (own_counted table by_parent key element handed).changes (changes_in (before_of table by_parent key element handed).made) own before);
          after = its-none a name (changes_in (after_of table by_parent key element behind).made) after;
          own = lacks-set (own_counted table by_parent key element handed).set sets.own;
        }
    idle-node true key Text handed behind apart lack = record { before = refl; after = refl; own = tt }
    idle-node false key (Element element) handed behind apart lack = record { before = refl; after = refl; own = tt }
    idle-node false key Text handed behind apart lack = record { before = refl; after = refl; own = tt }

    -- and an element, by what is told of it
    abbrev pub IsIdleWhereLacking : ℕ × Told → Type 0
    IsIdleWhereLacking entry = (entry.0 == a.key) ≡ false → (entry.1.said.has_box ≡ true → LackIt entry.1.said) → IsIdle entry.1

    idle-told : (node : Keyed StyledNode) (handed behind : Option Surroundings) → IsIdleWhereLacking (node.key, kept_of table node handed behind)
    idle-told node None behind apart lack = record { before = refl; after = refl; own = tt }
    idle-told node (Some around) behind apart lack =
        let here = idle-node (is_boxed true node.label) node.key node.label (handed_by around) (handed_by (unwrap_or behind around)) apart lack in
        record { before = here.before; after = here.after; own = here.own }

    pub each-idle : (handed : Option Surroundings) (g : Forest (Keyed StyledNode)) → AllByRecursion IsIdleWhereLacking (told_all (styled_evaluator table) handed g)
    each-idle handed g = each-told table IsIdleWhereLacking idle-told handed g
