-- The way to an element that stays, and the stops of a merge where such elements are turned. Throughout, n is a node, c what
-- is under it, r what is after it, m a merge, k a key, p the parent of a level and e the nodes of the level before it.
use Rattle.std.proofs.Common.{◌≡◌, ◌==◌, ◌<◌, ◌≤◌, ◌+◌, ◌&&◌, ℕ, Bool, true, false, cond, List, [], ◌∷◌, ◌++◌, length, length-append, Option, Some, None, refl, sym, ap, subst, ◌∙◌, inl, inr, arith, eqb-true, le-ltb, lt-ltb}
use Rattle.std.specs.Prelude.{All, option_map, unwrap_or}
use Rattle.std.specs.Option.{option_or}
use Rattle.std.proofs.lemmas.Bool.{and_from, cases_Bool}
use Rattle.std.proofs.lemmas.List.Elements.{All-head, All-tail, All-weaker}
use Rattle.forest.specs.Forest.{Forest, Empty, Tree}
use Rattle.forest.specs.Keys.{Keyed, HasDistinctKeys, times}
use Rattle.forest.specs.Spots.{Spot, index_of, spot_of}
use Rattle.forest.proofs.SpotLaws.{distinct-parts, not-root, spot-child, spot-next, spot-root, the_spot}
use Rattle.merged_walk.specs.Merges.{Merge, End, Kept, Turned, Gone, Come, new_of}
use Rattle.merged_walk.specs.Stops.{stops_of}
use Rattle.merged_walk.specs.TurnedNodes.{AreLater, IsLater, Reaches, turn_node, with_way}
use Rattle.merged_walk.proofs.LawLemmas.{turned_nodes_stop}
use Rattle.surroundings.specs.MergedLevels.{HasLeaves}
use Rattle.edit_work.specs.KeyedSources.{is_among}
use Rattle.start_reach.specs.Laws.{TurnedElementsStop}
use Rattle.start_reach.specs.TurnedElements.{is_earlier, stays, turned_where, way_in, way_to, with_ways_to}
use Rattle.start_reach.proofs.TurnedLaws.{absent-turned, absent-way, at_node, kept-cases, key-flipped, leaves-turned, new-turned, none-turned, not-turned, stays-counted, stays-turned, turned-both}

module _ {L : Type 0} (whole : Forest (Keyed L)) (distinct : HasDistinctKeys whole) where
  -- trees stand in the document, under this parent and after these siblings
  abbrev pub Stands : Option ℕ → List (Keyed L) → Forest (Keyed L) → Type 0
  Stands p e Empty = Unit {0}
  Stands p e (Tree n c r) = spot_of whole n.key ≡ Some (the_spot p e n.label c r)

  pub stands-top : (g : Forest (Keyed L)) → whole ≡ g → Stands None [] g
  stands-top Empty is = tt
  stands-top (Tree n c r) is = ap (λ g. spot_of g n.key) is ∙ spot-root None [] n c r

  stands-below : (p : Option ℕ) (e : List (Keyed L)) (n : Keyed L) (c r : Forest (Keyed L)) → Stands p e (Tree n c r) → (g : Forest (Keyed L)) → c ≡ g → Stands (Some n.key) [] g
  stands-below p e n c r at Empty is = tt
  stands-below p e n c r at (Tree m d s) is = spot-child whole None [] n.key (the_spot p e n.label c r) m d s distinct at is

  stands-beside : (p : Option ℕ) (e : List (Keyed L)) (n : Keyed L) (c r : Forest (Keyed L)) → Stands p e (Tree n c r) → (g : Forest (Keyed L)) → r ≡ g → Stands p (e ++ n ∷ []) g
  stands-beside p e n c r at Empty is = tt
  stands-beside p e n c r at (Tree m d s) is = spot-next whole None [] n.key (the_spot p e n.label c r) m d s distinct at is

  -- a root has as many siblings before it
  index-first : (p : Option ℕ) (e : List (Keyed L)) (n : Keyed L) (c r : Forest (Keyed L)) → Stands p e (Tree n c r) → index_of whole n.key ≡ length e
  index-first p e n c r at = ap (λ (o : Option (Spot L)). length (unwrap_or (option_map (λ (s : Spot L). s.earlier) o) [])) at

  one-more : (e : List (Keyed L)) (n : Keyed L) → length (e ++ n ∷ []) ≡ length e + 1
  one-more e n = length-append e (n ∷ [])

  -- nodes from here on stand behind one with fewer siblings before it
  is-later : (top : ℕ) (n : Keyed L) (i : ℕ) → index_of whole n.key ≡ i → index_of whole top < i → IsLater (is_earlier whole) top n.key
  is-later top n i index low = (
    le-ltb (index_of whole n.key) (index_of whole top) (omega (arith, index, low)),
    elim (cases_Bool (n.key == top)) [
      | inl is ↦ absurd (let same : index_of whole n.key ≡ index_of whole top = ap (index_of whole) (eqb-true n.key top is) in omega (arith, same, index, low))
      | inr not ↦ not
    ],
  )

  are-later : (top : ℕ) (m : Merge L) (p : Option ℕ) (e : List (Keyed L)) → Stands p e (new_of m) → index_of whole top < length e → AreLater (is_earlier whole) top m
  are-later top End p e at low = tt
  are-later top (Kept n c r) p e at low = (
    is-later top n (length e) (index-first p e n (new_of c) (new_of r) at) low,
    are-later top r p (e ++ n ∷ []) (stands-beside p e n (new_of c) (new_of r) at (new_of r) refl) (omega (arith, one-more e n, low)),
  )
  are-later top (Turned was n c r) p e at low = (
    is-later top n (length e) (index-first p e n (new_of c) (new_of r) at) low,
    are-later top r p (e ++ n ∷ []) (stands-beside p e n (new_of c) (new_of r) at (new_of r) refl) (omega (arith, one-more e n, low)),
  )
  are-later top (Gone n c r) p e at low = are-later top r p e at low
  are-later top (Come n c r) p e at low = (
    is-later top n (length e) (index-first p e n c (new_of r) at) low,
    are-later top r p (e ++ n ∷ []) (stands-beside p e n c (new_of r) at (new_of r) refl) (omega (arith, one-more e n, low)),
  )

  module _ (is_element : L → Bool) (k : ℕ) where
    abbrev turned : Merge L → Merge L
    turned m = turned_where is_element (λ q. k == q) m

    -- the way to the element from this level on, and that to turn it is to turn the node at the end of that way
    pub record Way (m : Merge L) (e : List (Keyed L)) : Type 0 where
      pub top : ℕ
      pub rest : List ℕ
      pub is : way_in (new_of m) k ≡ Some (top ∷ rest)
      pub from : length e ≤ index_of whole top
      pub reaches : Reaches is_element (is_earlier whole) (top ∷ rest) m
      pub turns : turn_node is_element (is_earlier whole) (λ n. n) (top ∷ rest) m reaches ≡ turned m

    -- the way in a tree whose root is another node, by where it goes on
    way-below : (n : Keyed L) (c r : Forest (Keyed L)) (way : List ℕ) → (n.key == k) ≡ false → way_in c k ≡ Some way → way_in (Tree n c r) k ≡ Some (n.key ∷ way)
    way-below n c r way not is =
        ap (λ b. cond b (Some (n.key ∷ [])) (option_or (option_map (λ way. n.key ∷ way) (way_in c k)) (way_in r k))) not
        ∙ ap (λ o. option_or (option_map (λ way. n.key ∷ way) o) (way_in r k)) is

    way-beside : (n : Keyed L) (c r : Forest (Keyed L)) (way : List ℕ) → (n.key == k) ≡ false → times k c ≡ 0 → way_in r k ≡ Some way → way_in (Tree n c r) k ≡ Some way
    way-beside n c r way not none is =
        ap (λ b. cond b (Some (n.key ∷ [])) (option_or (option_map (λ way. n.key ∷ way) (way_in c k)) (way_in r k))) not
        ∙ ap (λ o. option_or (option_map (λ way. n.key ∷ way) o) (way_in r k)) (absent-way is_element k c none)
        ∙ is

    way-here : (n : Keyed L) (c r : Forest (Keyed L)) → (n.key == k) ≡ true → way_in (Tree n c r) k ≡ Some (n.key ∷ [])
    way-here n c r here = ap (λ b. cond b (Some (n.key ∷ [])) (option_or (option_map (λ way. n.key ∷ way) (way_in c k)) (way_in r k))) here

    -- a tree has its root's key once
    alone-here : (n : Keyed L) (c r : Forest (Keyed L)) → HasDistinctKeys (Tree n c r) → (n.key == k) ≡ true → (times k c ≡ 0) × (times k r ≡ 0)
    alone-here n c r d here = let few : times k (Tree n c r) ≤ 1 = d k in let one : 1 + (times k c + times k r) ≤ 1 = rw here at few in (omega (arith, one), omega (arith, one))

    few-below : (n : Keyed L) (c r : Forest (Keyed L)) → HasDistinctKeys (Tree n c r) → (times k c + times k r) ≤ 1
    few-below n c r d = omega (arith, d k)

    -- a node that has something under it is an element
    has-children : (n : Keyed L) (c : Merge L) → (is_element n.label ≡ false → c ≡ End) → stays is_element k c ≡ true → is_element n.label ≡ true
    has-children n c text below = elim (cases_Bool (is_element n.label)) [
      | inl is ↦ is
      | inr not ↦ absurd (let never : true ≡ false = sym below ∙ ap (stays is_element k) (text not) in cc)
    ]

    earlier-than : (n : Keyed L) (e : List (Keyed L)) (top : ℕ) → index_of whole n.key ≡ length e → length (e ++ n ∷ []) ≤ index_of whole top → is_earlier whole n.key top ≡ true
    earlier-than n e top index from = lt-ltb (index_of whole n.key) (index_of whole top) (omega (arith, index, from, one-more e n))

    -- What is said of a level once something is known of its parts.

    kept-here : (n : Keyed L) (c r : Merge L) (p : Option ℕ) (e : List (Keyed L)) → Stands p e (new_of (Kept n c r)) → HasDistinctKeys (new_of (Kept n c r))
        → is_element n.label ≡ true → (n.key == k) ≡ true → Way (Kept n c r) e
    kept-here n c r p e at d element here =
        let index = index-first p e n (new_of c) (new_of r) at in
        let none = alone-here n (new_of c) (new_of r) d here in
        let below = absent-turned is_element k c none.0 in
        let beside = absent-turned is_element k r none.1 in
        let test : (is_element n.label && (k == n.key)) ≡ true = and_from (is_element n.label) (k == n.key) element (key-flipped k n.key ∙ here) in
        record {
          top = n.key;
          rest = [];
          is = way-here n (new_of c) (new_of r) here;
          from = omega (arith, index);
          reaches =
              inl (
                refl,
                element,
                are-later n.key r p (e ++ n ∷ []) (stands-beside p e n (new_of c) (new_of r) at (new_of r) refl) (omega (arith, index, one-more e n)),
                tt,
              );
          turns = sym (ap (λ b. at_node is_element b n (turned c) (turned r)) test ∙ (λ x. Turned n n (below x) (beside x)));
        }

    kept-below : (n : Keyed L) (c r : Merge L) (p : Option ℕ) (e : List (Keyed L)) → Stands p e (new_of (Kept n c r)) → HasDistinctKeys (new_of (Kept n c r))
        → is_element n.label ≡ true → 0 < times k (new_of c) → Way c [] → Way (Kept n c r) e
    kept-below n c r p e at d element some w =
        let index = index-first p e n (new_of c) (new_of r) at in
        let not = not-root n (new_of c) (new_of r) k d (omega (arith, some)) in
        let beside = absent-turned is_element k r (omega (arith, few-below n (new_of c) (new_of r) d, some)) in
        let inner = w.turns in
        record {
          top = n.key;
          rest = w.top ∷ w.rest;
          is = way-below n (new_of c) (new_of r) (w.top ∷ w.rest) not w.is;
          from = omega (arith, index);
          reaches =
              inl (
                refl,
                element,
                are-later n.key r p (e ++ n ∷ []) (stands-beside p e n (new_of c) (new_of r) at (new_of r) refl) (omega (arith, index, one-more e n)),
                w.reaches,
              );
          turns =
              (λ x. Kept n (inner x) (sym beside x))
              ∙ sym (ap (λ b. at_node is_element b n (turned c) (turned r)) (not-turned is_element k n not));
        }

    kept-beside : (n : Keyed L) (c r : Merge L) (p : Option ℕ) (e : List (Keyed L)) → Stands p e (new_of (Kept n c r)) → HasDistinctKeys (new_of (Kept n c r))
        → 0 < times k (new_of r) → Way r (e ++ n ∷ []) → Way (Kept n c r) e
    kept-beside n c r p e at d some w =
        let index = index-first p e n (new_of c) (new_of r) at in
        let not = not-root n (new_of c) (new_of r) k d (omega (arith, some)) in
        let none : times k (new_of c) ≡ 0 = omega (arith, few-below n (new_of c) (new_of r) d, some) in
        let below = absent-turned is_element k c none in
        let later = w.turns in
        record {
          top = w.top;
          rest = w.rest;
          is = way-beside n (new_of c) (new_of r) (w.top ∷ w.rest) not none w.is;
          from = omega (arith, w.from, one-more e n);
          reaches = inr (earlier-than n e w.top index w.from, w.reaches);
          turns =
              (λ x. Kept n (sym below x) (later x))
              ∙ sym (ap (λ b. at_node is_element b n (turned c) (turned r)) (not-turned is_element k n not));
        }

    turned-here : (was n : Keyed L) (c r : Merge L) (p : Option ℕ) (e : List (Keyed L)) → Stands p e (new_of (Turned was n c r)) → HasDistinctKeys (new_of (Turned was n c r))
        → is_element was.label ≡ true → was.key ≡ n.key → (n.key == k) ≡ true → Way (Turned was n c r) e
    turned-here was n c r p e at d element same here =
        let index = index-first p e n (new_of c) (new_of r) at in
        let none = alone-here n (new_of c) (new_of r) d here in
        let below = absent-turned is_element k c none.0 in
        let beside = absent-turned is_element k r none.1 in
        record {
          top = n.key;
          rest = [];
          is = way-here n (new_of c) (new_of r) here;
          from = omega (arith, index);
          reaches = inl (refl, element, same, tt);
          turns = λ x. Turned was n (sym below x) (sym beside x);
        }

    turned-below : (was n : Keyed L) (c r : Merge L) (p : Option ℕ) (e : List (Keyed L)) → Stands p e (new_of (Turned was n c r)) → HasDistinctKeys (new_of (Turned was n c r))
        → is_element was.label ≡ true → was.key ≡ n.key → 0 < times k (new_of c) → Way c [] → Way (Turned was n c r) e
    turned-below was n c r p e at d element same some w =
        let index = index-first p e n (new_of c) (new_of r) at in
        let beside = absent-turned is_element k r (omega (arith, few-below n (new_of c) (new_of r) d, some)) in
        let inner = w.turns in
        record {
          top = n.key;
          rest = w.top ∷ w.rest;
          is = way-below n (new_of c) (new_of r) (w.top ∷ w.rest) (not-root n (new_of c) (new_of r) k d (omega (arith, some))) w.is;
          from = omega (arith, index);
          reaches = inl (refl, element, same, w.reaches);
          turns = λ x. Turned was n (inner x) (sym beside x);
        }

    turned-beside : (was n : Keyed L) (c r : Merge L) (p : Option ℕ) (e : List (Keyed L)) → Stands p e (new_of (Turned was n c r)) → HasDistinctKeys (new_of (Turned was n c r))
        → 0 < times k (new_of r) → Way r (e ++ n ∷ []) → Way (Turned was n c r) e
    turned-beside was n c r p e at d some w =
        let index = index-first p e n (new_of c) (new_of r) at in
        let none : times k (new_of c) ≡ 0 = omega (arith, few-below n (new_of c) (new_of r) d, some) in
        let below = absent-turned is_element k c none in
        let later = w.turns in
        record {
          top = w.top;
          rest = w.rest;
          is = way-beside n (new_of c) (new_of r) (w.top ∷ w.rest) (not-root n (new_of c) (new_of r) k d (omega (arith, some))) none w.is;
          from = omega (arith, w.from, one-more e n);
          reaches = inr (earlier-than n e w.top index w.from, w.reaches);
          turns = λ x. Turned was n (sym below x) (later x);
        }

    -- So there is a way to each element that stays.
    pub the-way : (m : Merge L) (p : Option ℕ) (e : List (Keyed L)) → Stands p e (new_of m) → HasDistinctKeys (new_of m) → HasLeaves is_element m → stays is_element k m ≡ true → Way m e
    the-way End p e at d leaves it = absurd (cc it)
    the-way (Kept n c r) p e at d leaves it =
        let parts = distinct-parts n (new_of c) (new_of r) d in
        elim (kept-cases is_element k (is_element n.label) (n.key == k) (stays is_element k c) (stays is_element k r) it) [
          | inl here ↦ kept-here n c r p e at d here.0 here.1
          | inr (inl below) ↦
              kept-below n c r p e at d (has-children n c leaves.0 below) (stays-counted is_element k c below)
              (the-way c (Some n.key) [] (stands-below p e n (new_of c) (new_of r) at (new_of c) refl) parts.0 leaves.1 below)
          | inr (inr beside) ↦
              kept-beside n c r p e at d (stays-counted is_element k r beside)
              (the-way r p (e ++ n ∷ []) (stands-beside p e n (new_of c) (new_of r) at (new_of r) refl) parts.1 leaves.2 beside)
        ]
    the-way (Turned was n c r) p e at d leaves it =
        let parts = distinct-parts n (new_of c) (new_of r) d in
        elim (kept-cases is_element k (is_element n.label) (n.key == k) (stays is_element k c) (stays is_element k r) it) [
          | inl here ↦ turned-here was n c r p e at d leaves.0 leaves.2 here.1
          | inr (inl below) ↦
              turned-below was n c r p e at d leaves.0 leaves.2 (stays-counted is_element k c below)
              (the-way c (Some n.key) [] (stands-below p e n (new_of c) (new_of r) at (new_of c) refl) parts.0 leaves.3 below)
          | inr (inr beside) ↦
              turned-beside was n c r p e at d (stays-counted is_element k r beside)
              (the-way r p (e ++ n ∷ []) (stands-beside p e n (new_of c) (new_of r) at (new_of r) refl) parts.1 leaves.4 beside)
        ]
    the-way (Gone n c r) p e at d leaves it =
        let w = the-way r p e at d leaves it in
        record { top = w.top; rest = w.rest; is = w.is; from = w.from; reaches = w.reaches; turns = ap (Gone n c) w.turns }
    the-way (Come n c r) p e at d leaves it =
        let some = stays-counted is_element k r it in
        let parts = distinct-parts n c (new_of r) d in
        let none : times k c ≡ 0 = omega (arith, few-below n c (new_of r) d, some) in
        let w = the-way r p (e ++ n ∷ []) (stands-beside p e n c (new_of r) at (new_of r) refl) parts.1 leaves.2 it in
        record {
          top = w.top;
          rest = w.rest;
          is = way-beside n c (new_of r) (w.top ∷ w.rest) (not-root n c (new_of r) k d (omega (arith, some))) none w.is;
          from = omega (arith, w.from, one-more e n);
          reaches = (earlier-than n e w.top (index-first p e n c (new_of r) at) w.from, w.reaches);
          turns = ap (Come n c) w.turns;
        }

  -- The stops of a merge where one element is turned, and where all of these are.

  not-itself : (key : ℕ) → is_earlier whole key key ≡ false
  not-itself key = le-ltb (index_of whole key) (index_of whole key) (omega arith)

  module _ (is_element : L → Bool) where
    one-turned : (k : ℕ) (m : Merge L) → new_of m ≡ whole → HasLeaves is_element m → stays is_element k m ≡ true
        → stops_of is_element 0 (turned_where is_element (λ q. k == q) m) ≡ with_way (is_earlier whole) 0 (way_to whole k) (stops_of is_element 0 m)
    one-turned k m is leaves it =
        let w = the-way is_element k m None [] (stands-top (new_of m) (sym is)) (subst HasDistinctKeys (sym is) distinct) leaves it in
        let way : w.top ∷ w.rest ≡ way_to whole k = sym (ap (λ o. unwrap_or o []) w.is) ∙ ap (λ g. way_to g k) is in
        ap (stops_of is_element 0) (sym w.turns)
        ∙ turned_nodes_stop L is_element (is_earlier whole) (λ n. n) not-itself (λ n. refl) (w.top ∷ w.rest) m w.reaches
        ∙ ap (λ way. with_way (is_earlier whole) 0 way (stops_of is_element 0 m)) way

    pub all-turned : (keys : List ℕ) (m : Merge L) → new_of m ≡ whole → HasLeaves is_element m → All (λ key. stays is_element key m ≡ true) keys
        → stops_of is_element 0 (turned_where is_element (is_among keys) m) ≡ with_ways_to whole keys (stops_of is_element 0 m)
    all-turned [] m is leaves they = ap (stops_of is_element 0) (none-turned is_element m)
    all-turned (k ∷ keys) m is leaves they =
        let first = turned_where is_element (λ q. k == q) m in
        let still = All-weaker (λ key. stays is_element key m ≡ true) (λ key. stays is_element key first ≡ true)
        (λ key it. stays-turned is_element (λ q. k == q) key m ∙ it) keys (All-tail (λ key. stays is_element key m ≡ true) k keys they) in
        ap (stops_of is_element 0) (sym (turned-both is_element (λ q. k == q) (is_among keys) m))
        ∙ all-turned keys first (new-turned is_element (λ q. k == q) m ∙ is) (leaves-turned is_element (λ q. k == q) m leaves) still
        ∙ ap (with_ways_to whole keys) (one-turned k m is leaves (All-head (λ key. stays is_element key m ≡ true) k keys they))

pub turned_elements_stop : (L : Type 0) → TurnedElementsStop L
turned_elements_stop L is_element merge leaves distinct keys they = all-turned (new_of merge) distinct is_element keys merge refl leaves they
