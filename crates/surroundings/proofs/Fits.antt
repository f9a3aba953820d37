-- Each node of a document with distinct keys can be opened and closed with what it is handed.
use Rattle.std.proofs.Common.{◌≡◌, ◌==◌, ◌||◌, ◌+◌, ◌<◌, inl, inr, ℕ, ℤ, Bool, true, false, cond, List, [], Option, Some, None, refl, sym, ap, subst, ◌∙◌, arith, eq-eqb, eqb-true}
use Rattle.std.proofs.lemmas.Bool.{cases_Bool}
use Rattle.std.proofs.lemmas.Bool.Decides.{nat_tests}
use Rattle.std.specs.Prelude.{unwrap_or}
use Rattle.forest.specs.Forest.{Forest, Empty, Tree}
use Rattle.forest.specs.Keys.{Keyed, HasDistinctKeys, times}
use Rattle.forest.proofs.SpotLaws.{distinct-parts, root-once}
use Rattle.plain_types.specs.declared.box_id.BoxId.{BoxId}
use Rattle.plain_types.specs.declared.box_kind.BoxKind.TheVariants as kind
use Rattle.plain_types.specs.declared.counter.Counter.{Counter}
use Rattle.plain_types.specs.declared.counter_style.CounterStyle.{CounterStyle}
use Rattle.counter_sets.specs.Sets.{is_same_box}
use Rattle.box_eval.specs.declared.made.Made.{Made}
use Rattle.box_eval.specs.Boxes.{box_of, generates_box}
use Rattle.box_eval.specs.Elements.{Handed, Styled, at_root, by_parent, children_handed, before_of, inside, marker_of, own_counted, past_formed}
use Rattle.box_eval.specs.Evaluation.{StyledNode, Element, Text, is_boxed, past_node, past_trees, within}
use Rattle.box_eval.proofs.DocumentLemmas.{AreGood, IsOut, NotAfter, children_good, own_is_good, root_level}
use Rattle.box_eval.proofs.ListLemmas.{each_imp}
use Rattle.merged_walk.specs.Evaluators.{Evaluator, AllFit, past_all}
use Rattle.surroundings.specs.declared.surroundings.Surroundings.{Surroundings}
use Rattle.surroundings.specs.declared.told.Told.{Told}
use Rattle.surroundings.specs.Surroundings.{HandsOn, IsBehindBox, IsByOther, handed_by, surroundings_of}
use Rattle.surroundings.specs.StyledEvaluators.{closes_styled, root_surroundings, styled_asks, styled_evaluator}
use Rattle.surroundings.proofs.Said.{agrees, past-nothing}

weaker : (Good Better : Counter → Type 0) → ((counter : Counter) → Good counter → Better counter) → (handed : Handed) → AreGood Good handed → AreGood Better handed
weaker Good Better i handed h = record { parent = each_imp Good Better i handed.parent h.parent; sibling = each_imp Good Better i (unwrap_or handed.sibling []) h.sibling }

hands : (Good : Counter → Type 0) (handed : Handed) → AreGood Good handed → HandsOn Good (surroundings_of handed)
hands Good handed h = record { parent = h.parent; sibling = h.sibling }

-- Keys of trees, and of the boxes that created counters.

number_symm : (a b : ℕ) → (a == b) ≡ (b == a)
number_symm a b = grind (arith, nat_tests)

not_if : (b : Bool) (x y : ℕ) → cond {A = ℕ} b 1 0 + (x + y) ≡ 0 → b ≡ false
not_if true x y h = absurd (omega (arith, h))
not_if false x y h = refl

parts : (b : Bool) (x y : ℕ) → cond {A = ℕ} b 1 0 + (x + y) ≡ 0 → (x ≡ 0) × (y ≡ 0)
parts b x y h = (omega (arith, h), omega (arith, h))

or_none : (b : Bool) → b ≡ false → (b || false) ≡ false
or_none b h = rw h refl

-- a key that isn't in a tree isn't its root's
not_root : (n : Keyed StyledNode) (c r : Forest (Keyed StyledNode)) (counter : Counter) → IsOut (Tree n c r) counter → IsByOther n.key counter
not_root n c r counter h = number_symm counter.creator.key n.key ∙ not_if (n.key == counter.creator.key) (times counter.creator.key c) (times counter.creator.key r) h

-- a key that is in trees is another than one that isn't
other_key : (key : ℕ) (c : Forest (Keyed StyledNode)) (counter : Counter) → times key c ≡ 0 → 0 < times counter.creator.key c → IsByOther key counter
other_key key c counter none there = elim (cases_Bool (counter.creator.key == key)) [
  | inl same ↦ absurd (let zero_times : times counter.creator.key c ≡ 0 = ap (λ k. times k c) (eqb-true counter.creator.key key same) ∙ none in omega (arith, zero_times, there))
  | inr other ↦ other
]

not_here : (counter : Counter) (key : ℕ) → IsByOther key counter → is_same_box counter.creator (box_of key kind.After) ≡ false
not_here counter key h = rw h refl

other_box : (counter : Counter) (key : ℕ) → IsByOther key counter → NotAfter key counter
other_box counter key h = or_none (is_same_box counter.creator (box_of key kind.After)) (not_here counter key h)

module _ (table : List CounterStyle) where
  -- what holds of a level, and of what its boxes create, holds behind it
  module _ (Good : Counter → Type 0) (steady : (counter : Counter) (value : ℤ) → Good counter → Good (record counter { value = value })) where
    next_good : (b : Bool) (n : Keyed StyledNode) (element : Styled) (handed behind : Handed) → AreGood Good handed → ((counter : Counter) → counter.creator.key ≡ n.key → Good counter) → AreGood Good (past_node table by_parent b n.key (Element element) handed behind)
    next_good true n element handed behind good mine = record { parent = good.parent; sibling = own_is_good table n.key element handed Good steady good (λ which counter e differs. mine counter (ap (λ (box : BoxId). box.key) e)) }
    next_good false n element handed behind good mine = record { parent = good.parent; sibling = good.sibling }

    past_node_good : (n : Keyed StyledNode) (label : StyledNode) → n.label ≡ label → (c r : Forest (Keyed StyledNode)) (handed : Handed) → AreGood Good handed → ((counter : Counter) → 0 < times counter.creator.key (Tree n c r) → Good counter)
        → ((next : Handed) → AreGood Good next → ((counter : Counter) → 0 < times counter.creator.key r → Good counter) → AreGood Good (past_trees table by_parent true next r))
        → AreGood Good (past_trees table by_parent true (past_node table by_parent (is_boxed true label) n.key label handed (past_trees table by_parent (is_boxed true label) (within table by_parent (is_boxed true label) n.key label handed) c)) r)
    past_node_good n Text is c r handed good mine rest = rest handed good (λ counter h. mine counter (omega (arith, h)))
    past_node_good n (Element element) is c r handed good mine rest =
        rest _ (next_good (generates_box element.style) n element handed _ good (λ counter e. mine counter (subst (λ k. 0 < times k (Tree n c r)) (sym e) (rw (eq-eqb n.key n.key refl) (omega arith))))) (λ counter h. mine counter (omega (arith, h)))

    past_good : (trees : Forest (Keyed StyledNode)) (handed : Handed) → AreGood Good handed → ((counter : Counter) → 0 < times counter.creator.key trees → Good counter) → AreGood Good (past_trees table by_parent true handed trees)
    past_good Empty handed good mine = good
    past_good (Tree n c r) handed good mine = past_node_good n n.label refl c r handed good mine (past_good r)

  -- a box was before, and so is behind trees
  behind_node : (b : Bool) (n : Keyed StyledNode) (element : Styled) (handed behind : Handed) → IsBehindBox (surroundings_of handed) → IsBehindBox (surroundings_of (past_node table by_parent b n.key (Element element) handed behind))
  behind_node true n element handed behind h = inl (refl, refl)
  behind_node false n element handed behind h = h

  behind_first : (n : Keyed StyledNode) (label : StyledNode) (c r : Forest (Keyed StyledNode)) (handed : Handed) → IsBehindBox (surroundings_of handed)
      → ((next : Handed) → IsBehindBox (surroundings_of next) → IsBehindBox (surroundings_of (past_trees table by_parent true next r)))
      → IsBehindBox (surroundings_of (past_trees table by_parent true (past_node table by_parent (is_boxed true label) n.key label handed (past_trees table by_parent (is_boxed true label) (within table by_parent (is_boxed true label) n.key label handed) c)) r))
  behind_first n Text c r handed h rest = rest handed h
  behind_first n (Element element) c r handed h rest = rest _ (behind_node (generates_box element.style) n element handed _ h)

  behind_all : (trees : Forest (Keyed StyledNode)) (handed : Handed) → IsBehindBox (surroundings_of handed) → IsBehindBox (surroundings_of (past_trees table by_parent true handed trees))
  behind_all Empty handed h = h
  behind_all (Tree n c r) handed h = behind_first n n.label c r handed h (behind_all r)

  -- the children of an element come behind its own box, or behind its marker or before box
  behind_made : (key : ℕ) (own : List Counter) (depth : ℕ) (marker before : Option Made) (marker_depth before_depth : ℕ)
      → IsBehindBox (surroundings_of (past_formed (box_of key kind.Before) (record { made = before; depth = before_depth }) (past_formed (box_of key kind.Marker) (record { made = marker; depth = marker_depth }) (inside own depth))))
  behind_made key own depth None None marker_depth before_depth = inr refl
  behind_made key own depth None (Some before) marker_depth before_depth = inl (refl, refl)
  behind_made key own depth (Some marker) None marker_depth before_depth = inl (refl, refl)
  behind_made key own depth (Some marker) (Some before) marker_depth before_depth = inl (refl, refl)

  behind_within : (key : ℕ) (element : Styled) (handed : Handed) → IsBehindBox (surroundings_of (children_handed table by_parent key element handed))
  behind_within key element handed =
      let marker = marker_of table by_parent key element handed in
      let before = before_of table by_parent key element handed in
      behind_made key (own_counted table by_parent key element handed).set handed.depth marker.made before.made marker.depth before.depth

  abbrev e : Evaluator StyledNode Told (Option Surroundings)
  e = styled_evaluator table

  -- where nothing is handed, nothing is asked
  pub fits_none : (trees : Forest (Keyed StyledNode)) → AllFit e styled_asks None trees
  fits_none Empty = tt
  fits_none (Tree n c r) = (tt, fits_none c, subst (closes_styled n None) (sym (past-nothing table c)) tt, fits_none r)

  fits_text : (key : ℕ) (c r : Forest (Keyed StyledNode)) (handed : Handed) → AreGood (IsOut (Tree (record { key = key; label = Text }) c r)) handed → AllFit e styled_asks (Some (surroundings_of handed)) r
      → AllFit e styled_asks (Some (surroundings_of handed)) (Tree (record { key = key; label = Text }) c r)
  fits_text key c r handed out rest =
      let n : Keyed StyledNode = record { key = key; label = Text } in (
        hands (IsByOther key) handed (weaker (IsOut (Tree n c r)) (IsByOther key) (not_root n c r) handed out),
        fits_none c,
        subst (closes_styled n (Some (surroundings_of handed))) (sym (past-nothing table c)) tt,
        rest,
      )

  -- the claim of an element, by whether it has a box
  abbrev FitIf : ℕ → Styled → Forest (Keyed StyledNode) → Forest (Keyed StyledNode) → Handed → Bool → Type 0
  FitIf key element c r handed b =
      let around = surroundings_of handed in
      let inner = cond b (Some (surroundings_of (children_handed table by_parent key element (handed_by around)))) None in
      HandsOn (IsByOther key) around
      × AllFit e styled_asks inner c
      × closes_styled (record { key = key; label = Element element }) (Some around) (past_all e inner c)
      × AllFit e styled_asks (Some (surroundings_of (past_node table by_parent b key (Element element) (handed_by around) (handed_by (unwrap_or (past_all e inner c) around))))) r

  fits_if : (key : ℕ) (element : Styled) (c r : Forest (Keyed StyledNode)) (handed : Handed)
      → HasDistinctKeys (Tree (record { key = key; label = Element element }) c r) → AreGood (IsOut (Tree (record { key = key; label = Element element }) c r)) handed
      → ((inner : Handed) → AreGood (IsOut c) inner → AllFit e styled_asks (Some (surroundings_of inner)) c)
      → ((next : Handed) → AreGood (IsOut r) next → AllFit e styled_asks (Some (surroundings_of next)) r)
      → (b : Bool) → FitIf key element c r handed b
  fits_if key element c r handed distinct out below beside true =
      let n : Keyed StyledNode = record { key = key; label = Element element } in
      let around = surroundings_of handed in
      let first = children_handed table by_parent key element handed in
      let behind = past_trees table by_parent true first c in
      let past : past_all e (Some (surroundings_of first)) c ≡ Some (surroundings_of behind) = (agrees table c first).past in
      let once = root-once n c r distinct in
      let out_c = weaker (IsOut (Tree n c r)) (IsOut c) (λ counter h. (parts (n.key == counter.creator.key) _ _ h).0) handed out in
      let out_r = weaker (IsOut (Tree n c r)) (IsOut r) (λ counter h. (parts (n.key == counter.creator.key) _ _ h).1) handed out in
      let not_after = weaker (IsOut (Tree n c r)) (NotAfter key) (λ counter h. other_box counter key (not_root n c r counter h)) handed out in
      let inner : AreGood (IsOut c) first = children_good table key element handed (IsOut c) (λ counter value h. h) out_c (λ which counter e differs. ap (λ (box : BoxId). times box.key c) e ∙ once.0) in
      let inner_after : AreGood (NotAfter key) first = children_good table key element handed (NotAfter key) (λ counter value h. h) not_after (λ which counter e differs. or_none (is_same_box counter.creator (box_of key kind.After)) (ap (λ (box : BoxId). is_same_box box (box_of key kind.After)) e ∙ differs)) in
      let end_after : AreGood (NotAfter key) behind = past_good (NotAfter key) (λ counter value h. h) c first inner_after (λ counter there. other_box counter key (other_key key c counter once.0 there)) in
      let next = past_node table by_parent true key (Element element) (handed_by around) (handed_by (surroundings_of behind)) in
      let out_next : AreGood (IsOut r) next = next_good (IsOut r) (λ counter value h. h) true n element (handed_by around) (handed_by (surroundings_of behind)) (record { parent = out_r.parent; sibling = out_r.sibling }) (λ counter e. ap (λ k. times k r) e ∙ once.1) in (
        hands (IsByOther key) handed (weaker (IsOut (Tree n c r)) (IsByOther key) (not_root n c r) handed out),
        below first inner,
        subst (closes_styled n (Some around)) (sym past) (record { others = hands (NotAfter key) behind end_after; box = behind_all c first (behind_within key element handed) }),
        subst (λ x. AllFit e styled_asks (Some (surroundings_of (past_node table by_parent true key (Element element) (handed_by around) (handed_by (unwrap_or x around))))) r) (sym past) (beside next out_next),
      )
  fits_if key element c r handed distinct out below beside false =
      let n : Keyed StyledNode = record { key = key; label = Element element } in (
        hands (IsByOther key) handed (weaker (IsOut (Tree n c r)) (IsByOther key) (not_root n c r) handed out),
        fits_none c,
        subst (closes_styled n (Some (surroundings_of handed))) (sym (past-nothing table c)) tt,
        beside handed (weaker (IsOut (Tree n c r)) (IsOut r) (λ counter h. (parts (n.key == counter.creator.key) _ _ h).1) handed out),
      )

  fits_node : (key : ℕ) (label : StyledNode) (c r : Forest (Keyed StyledNode)) (handed : Handed)
      → HasDistinctKeys (Tree (record { key = key; label = label }) c r) → AreGood (IsOut (Tree (record { key = key; label = label }) c r)) handed
      → ((inner : Handed) → AreGood (IsOut c) inner → AllFit e styled_asks (Some (surroundings_of inner)) c)
      → ((next : Handed) → AreGood (IsOut r) next → AllFit e styled_asks (Some (surroundings_of next)) r)
      → AllFit e styled_asks (Some (surroundings_of handed)) (Tree (record { key = key; label = label }) c r)
  fits_node key Text c r handed distinct out below beside =
      fits_text key c r handed out (beside handed (weaker (IsOut (Tree (record { key = key; label = Text }) c r)) (IsOut r) (λ counter h. (parts (key == counter.creator.key) _ _ h).1) handed out))
  fits_node key (Element element) c r handed distinct out below beside = fits_if key element c r handed distinct out below beside (generates_box element.style)

  -- each node of trees with distinct keys can be opened and closed, where no box of theirs created a counter that they are handed
  pub fits : (trees : Forest (Keyed StyledNode)) (handed : Handed) → HasDistinctKeys trees → AreGood (IsOut trees) handed → AllFit e styled_asks (Some (surroundings_of handed)) trees
  fits Empty handed distinct out = tt
  fits (Tree n c r) handed distinct out =
      fits_node n.key n.label c r handed distinct out (λ inner. fits c inner (distinct-parts n c r distinct).0) (λ next. fits r next (distinct-parts n c r distinct).1)

  pub fits_document : (trees : Forest (Keyed StyledNode)) → HasDistinctKeys trees → AllFit e styled_asks root_surroundings trees
  fits_document trees distinct = fits trees at_root distinct (root_level trees).out
