-- Elements that are handed a counter by none, and do not create it, do nothing to it. Throughout, a is the box that creates it.
use Rattle.std.proofs.Common.{◌≡◌, ◌==◌, ◌∷◌, ◌&&◌, ◌+◌, ℕ, ℤ, List, [], Bool, true, false, not, cond, map, Option, Some, None, slice_get, refl, ap, ◌∙◌, inl, inr, suc, arith}
use Rattle.std.proofs.lemmas.Bool.{cases_Bool}
use Rattle.std.specs.Prelude.{IfSome, unwrap_or}
use Rattle.std.specs.List.{AllByRecursion}
use Rattle.std.specs.Option.{option_and_then, option_map_or}
use Rattle.std.specs.Str.{bytes_eq}
use Rattle.forest.specs.Forest.{Forest, Empty, Tree}
use Rattle.forest.specs.Keys.{Keyed, times}
use Rattle.plain_types.specs.declared.box_id.BoxId.{BoxId}
use Rattle.plain_types.specs.declared.box_kind.BoxKind.{BoxKind}
use Rattle.plain_types.specs.declared.box_kind.BoxKind.TheVariants as kind
use Rattle.plain_types.specs.declared.counter.Counter.{Counter}
use Rattle.plain_types.specs.declared.counter_style.CounterStyle.{CounterStyle}
use Rattle.plain_types.specs.declared.style.CounterOp.{CounterOp}
use Rattle.plain_types.specs.declared.style.Style.{Style}
use Rattle.counter_sets.specs.Sets.{innermost, is_named, is_same_box, is_missing_in, last_place}
use Rattle.counter_scopes.proofs.NameLemmas.{name_eq}
use Rattle.box_eval.specs.declared.change.Change.{Change}
use Rattle.box_eval.specs.Boxes.{box_of, has_pseudo_box}
use Rattle.box_eval.specs.Elements.{Handed, Styled, before_of, behind_marker, by_parent, children_handed, closing_of, content_of, formed_box, inherited_by, inside, is_replaced_in, marker_of, no_box, own_counted, pseudo_counted}
use Rattle.box_eval.specs.Evaluation.{Element, StyledNode, Text, changes, changes_in, first_changes, is_boxed, last_changes, past_node, past_trees, within}
use Rattle.box_eval.specs.Properties.{change_of}
use Rattle.box_eval.proofs.DocumentLemmas.{AreGood, children_good, own_is_good}
use Rattle.box_eval.proofs.ElementLemmas.{marker_good}
use Rattle.box_eval.proofs.EntryLemmas.{next_inherits}
use Rattle.box_eval.proofs.KeptLemmas.{counted_good, inherited_good}
use Rattle.box_eval.proofs.ListLemmas.{each_append, each_imp}

-- The innermost counter of a name is one of the set, of that name.

pub found : (P : Counter → Type 0) (name : List ℕ) (set : List Counter) → AllByRecursion P set → IfSome (innermost set name) (λ c. P c × (is_named name c ≡ true))
found P name [] h = tt
found P name (c ∷ set) h = by-place (last_place (is_named name) set) (found P name set h.1)
  where
    by-here : (b : Bool) → is_named name c ≡ b → IfSome (option_and_then (slice_get (c ∷ set)) (cond b (Some 0) None)) (λ c. P c × (is_named name c ≡ true))
    by-here true is = (h.0, is)
    by-here false is = tt

    by-place : (o : Option ℕ) → IfSome (option_and_then (slice_get set) o) (λ c. P c × (is_named name c ≡ true))
        → IfSome (option_and_then (slice_get (c ∷ set)) (option_map_or (λ place. Some (suc place)) o (cond (is_named name c) (Some 0) None))) (λ c. P c × (is_named name c ≡ true))
    by-place None h = by-here (is_named name c) refl
    by-place (Some place) h = h

same-name : (xs ys : List ℕ) → bytes_eq xs ys ≡ true → (zs : List ℕ) → bytes_eq xs zs ≡ bytes_eq ys zs
same-name xs ys h zs = ap (λ (names : List ℕ). bytes_eq names zs) (name_eq xs ys h)

module _ (a : BoxId) (name : List ℕ) where
  -- another counter than this one
  abbrev pub IsOther : Counter → Type 0
  IsOther counter = (is_same_box counter.creator a && bytes_eq counter.name name) ≡ false

  abbrev pub IsOfOther : Change → Type 0
  IsOfOther change = (is_same_box change.creator a && bytes_eq change.name name) ≡ false

  pub steady : (counter : Counter) (value : ℤ) → IsOther counter → IsOther (record counter { value = value })
  steady counter value h = h

  and-false : (b c : Bool) → b ≡ false → (b && c) ≡ false
  and-false true c h = absurd (cc)
  and-false false c h = refl

  change-other : (box : BoxId) (increments assigns : List CounterOp) (set : List Counter) (other : List ℕ) → is_same_box box a ≡ false
      → (o : Option Counter) → IfSome o (λ c. IsOther c × (is_named other c ≡ true)) → (is_same_box (option_map_or (λ (c : Counter). c.creator) o box) a && bytes_eq other name) ≡ false
  change-other box increments assigns set other not None h = and-false _ _ not
  change-other box increments assigns set other not (Some c) h = ap (λ b. is_same_box c.creator a && b) (same-name other c.name h.1 name) ∙ h.0

  pub names-other : (box : BoxId) (increments assigns : List CounterOp) (set : List Counter) → is_same_box box a ≡ false → AllByRecursion IsOther set
      → (names : List (List ℕ)) → AllByRecursion IsOfOther (map (change_of box increments assigns set) names)
  names-other box increments assigns set not good [] = tt
  names-other box increments assigns set not good (other ∷ names) =
      (change-other box increments assigns set other not (innermost set other) (found IsOther other set good), names-other box increments assigns set not good names)

  module _ (table : List CounterStyle) where
    module _ (key : ℕ) (element : Styled) (apart : (key == a.key) ≡ false) where
      pub not-box : (which : BoxKind) → is_same_box (box_of key which) a ≡ false
      not-box which = and-false _ _ apart

      pub mine : (which : BoxKind) (counter : Counter) → counter.creator ≡ box_of key which → IsOther counter
      mine which counter e = and-false _ _ (ap (λ (box : BoxId). is_same_box box a) e ∙ not-box which)

      pub own-other : (handed : Handed) → AreGood IsOther handed → AllByRecursion IsOfOther (own_counted table by_parent key element handed).changes
      own-other handed good =
          names-other (box_of key kind.Element) _ _ (own_counted table by_parent key element handed).set (not-box kind.Element)
          (own_is_good table key element handed IsOther steady good (λ which counter e _. mine which counter e)) _

      pub formed-other : (which : BoxKind) (style : Style) (handed : Handed) → AllByRecursion IsOther (inherited_by handed) → (b : Bool)
          → AllByRecursion IsOfOther (changes_in (cond b (formed_box (pseudo_counted table by_parent key element which style handed).changes (content_of table by_parent key element which style (pseudo_counted table by_parent key element which style handed).set handed)) (no_box handed.depth)).made)
      formed-other which style handed good true =
          names-other (box_of key which) _ _ (pseudo_counted table by_parent key element which style handed).set (not-box which)
          (counted_good IsOther steady (is_replaced_in table by_parent key element which handed) (box_of key which) (mine which) element.starts false style (inherited_by handed) good) _
      formed-other which style handed good false = tt

      pub handed-good : (handed : Handed) → AreGood IsOther handed → AllByRecursion IsOther (inherited_by handed)
      handed-good handed good =
          inherited_good IsOther steady handed.parent handed.sibling handed.preceding good.parent
          (each_imp IsOther (λ counter. is_missing_in handed.parent counter ≡ true → IsOther counter) (λ counter h e. h) (unwrap_or handed.sibling []) good.sibling)

      inside-good : (handed : Handed) → AreGood IsOther handed → AreGood IsOther (children_handed table by_parent key element handed)
      inside-good handed good = children_good table key element handed IsOther steady good (λ which counter e _. mine which counter e)

      before-other : (handed : Handed) → AreGood IsOther handed → AllByRecursion IsOfOther (changes_in (before_of table by_parent key element handed).made)
      before-other handed good =
          let own = (own_counted table by_parent key element handed).set in
          let own_good = own_is_good table key element handed IsOther steady good (λ which counter e _. mine which counter e) in
          let marker = marker_of table by_parent key element handed in
          let marker_is = marker_good IsOther steady table by_parent key element (inside own handed.depth) (inherited_good IsOther steady own None (Some own) own_good tt) (λ _ counter e. mine kind.Marker counter e) in
          formed-other kind.Before element.style.before (behind_marker table by_parent key element handed)
          (next_inherits IsOther steady (box_of key kind.Marker) own handed.depth marker.depth marker.made own_good marker_is) (has_pseudo_box element.style.before)

      pub after-other : (behind : Handed) → AreGood IsOther behind → AllByRecursion IsOfOther (changes_in (closing_of table by_parent key element behind).after)
      after-other behind good = formed-other kind.After element.style.after behind (handed-good behind good) (has_pseudo_box element.style.after)

      pub next-good : (handed behind : Handed) → AreGood IsOther handed → AreGood IsOther (past_node table by_parent true key (Element element) handed behind)
      next-good handed behind good = record { parent = good.parent; sibling = own_is_good table key element handed IsOther steady good (λ which counter e _. mine which counter e) }

    -- Trees side by side of which no node creates the counter, and which are handed it by no one: they do nothing to it,
    -- and don't hand it on.
    pub record DoNothing (boxed : Bool) (handed : Handed) (trees : Forest (Keyed StyledNode)) : Type 0 where
      pub changes : AllByRecursion IsOfOther (changes table by_parent boxed handed trees)
      pub past : AreGood IsOther (past_trees table by_parent boxed handed trees)

    pub node-step : (has : Bool) (k : ℕ) (l : StyledNode) (handed : Handed) → (k == a.key) ≡ false → AreGood IsOther handed
        → AllByRecursion IsOfOther (first_changes table by_parent has k l handed) × AreGood IsOther (within table by_parent has k l handed)
        × ((behind : Handed) → AreGood IsOther behind → AllByRecursion IsOfOther (last_changes table by_parent has k l behind) × AreGood IsOther (past_node table by_parent has k l handed behind))
    node-step true k (Element element) handed apart good = (
      each_append IsOfOther (own_counted table by_parent k element handed).changes (changes_in (before_of table by_parent k element handed).made) (own-other k element apart handed good) (before-other k element apart handed good),
      inside-good k element apart handed good,
      λ behind behind_good. (after-other k element apart behind behind_good, next-good k element apart handed behind good),
    )
    node-step true k Text handed apart good = (tt, good, λ behind behind_good. (tt, good))
    node-step false k (Element element) handed apart good = (tt, good, λ behind behind_good. (tt, good))
    node-step false k Text handed apart good = (tt, good, λ behind behind_good. (tt, good))

    pub apart-parts : (k : ℕ) (l : StyledNode) (c r : Forest (Keyed StyledNode)) → times a.key (Tree (record { key = k; label = l }) c r) ≡ 0 → ((k == a.key) ≡ false) × (times a.key c ≡ 0) × (times a.key r ≡ 0)
    apart-parts k l c r h = elim (cases_Bool (k == a.key)) [
      | inl e ↦ absurd (let one : 1 + (times a.key c + times a.key r) ≡ 0 = rw e at h in omega arith)
      | inr e ↦ let none : 0 + (times a.key c + times a.key r) ≡ 0 = rw e at h in (e, omega arith, omega arith)
    ]

    pub do_nothing : (trees : Forest (Keyed StyledNode)) (boxed : Bool) (handed : Handed) → times a.key trees ≡ 0 → AreGood IsOther handed → DoNothing boxed handed trees
    do_nothing Empty boxed handed none good = record { changes = tt; past = good }
    do_nothing (Tree n c r) boxed handed none good =
        let parts = apart-parts n.key n.label c r none in
        let has = is_boxed boxed n.label in
        let here = node-step has n.key n.label handed parts.0 good in
        let below = do_nothing c has (within table by_parent has n.key n.label handed) parts.1 here.1 in
        let behind = past_trees table by_parent has (within table by_parent has n.key n.label handed) c in
        let left = here.2 behind below.past in
        let beside = do_nothing r boxed (past_node table by_parent has n.key n.label handed behind) parts.2 left.1 in
        record {
          changes = each_append IsOfOther (first_changes table by_parent has n.key n.label handed) _ here.0
              (each_append IsOfOther (changes table by_parent has (within table by_parent has n.key n.label handed) c) _ below.changes
              (each_append IsOfOther (last_changes table by_parent has n.key n.label behind) _ left.0 beside.changes));
          past = beside.past;
        }
