-- Which stops stand before the one into a node, and which behind it. Throughout, d is the depth of the node and key its
-- key, n is a node, c what is under it, r what is after it, and m a merge.
use Rattle.std.proofs.Common.{◌≡◌, ◌==◌, ◌&&◌, ◌<◌, ℕ, suc, nat_lt, Bool, true, false, cond, List, [], ◌∷◌, ◌++◌, Option, Some, None, refl, sym, ap, ◌∙◌, inl, inr, arith, append_assoc}
use Rattle.std.specs.Prelude.{IfSome, not}
use Rattle.std.specs.Option.{option_map_or}
use Rattle.std.proofs.lemmas.Bool.{and_from, and_left, and_right, eq-eqb, le-ltb, lt-ltb, ne_eqb, or_from, or_left, or_right}
use Rattle.forest.specs.Spots.{first_key}
use Rattle.merged_walk.specs.declared.stop.Stop.{Stop}
use Rattle.merged_walk.specs.declared.stop.Way.{Way}
use Rattle.merged_walk.specs.declared.stop.Way.TheVariants.{Past, Inside, Anew}
use Rattle.merged_walk.specs.Merges.{Merge, End, Kept, Turned, Gone, Come, has_place, new_of, old_of}
use Rattle.merged_walk.specs.Stops.{first_element, is_inside, stop_at, stops_of}
use Rattle.merged_walk.specs.EditStops.{stop_inside}
use Rattle.merged_walk.specs.TurnedNodes.{AreLater, IsLater, Reaches, is_link_before, is_stop_before, is_stop_into, stops_after, stops_before, with_way}
use Rattle.merged_walk.proofs.ShallowStops.{IsShallow, by_test}

module _ (earlier : ℕ → ℕ → Bool) (d key : ℕ) where
  abbrev pub IsBefore : Stop → Type 0
  IsBefore stop = is_stop_before earlier d key stop ≡ true

  abbrev pub AllBefore : List Stop → Type 0
  AllBefore [] = Unit {0}
  AllBefore (stop ∷ stops) = IsBefore stop × AllBefore stops

  -- it stands behind the stop into the node
  abbrev pub IsBehind : Stop → Type 0
  IsBehind stop = (is_stop_before earlier d key stop ≡ false) × (is_stop_into earlier d key stop ≡ false)

  abbrev pub BeginsBehind : List Stop → Type 0
  BeginsBehind [] = Unit {0}
  BeginsBehind (stop ∷ stops) = IsBehind stop

  all-both : (xs ys : List Stop) → AllBefore xs → AllBefore ys → AllBefore (xs ++ ys)
  all-both [] ys h k = k
  all-both (x ∷ xs) ys h k = (h.0, all-both xs ys h.1 k)

  not-deeper : nat_lt d d ≡ false
  not-deeper = le-ltb d d (omega arith)

  -- a stop at the node's depth stands before the node's where its link does
  pub before-link : (link : Option ℕ) (way : Way) (from : Option ℕ) → option_map_or (is_link_before earlier key (is_inside way)) link false ≡ true → IsBefore (record { depth = d; link = link; way = way; from = from })
  before-link link way from h = or_right (nat_lt d d) _ (and_from (d == d) _ (eq-eqb d d refl) h)

  -- and behind it where its link does
  behind-link : (link : Option ℕ) (way : Way) (from : Option ℕ) → IfSome link (IsLater earlier key) → IsBehind (record { depth = d; link = link; way = way; from = from })
  behind-link None way from h = (or_from (nat_lt d d) (d == d && false) not-deeper (and_right (d == d) false refl), and_right (d == d) false refl)
  behind-link (Some l) way from h = (
    or_from (nat_lt d d) _ not-deeper (and_right (d == d) _ (or_from (earlier l key) (l == key && not (is_inside way)) h.0 (and_left (l == key) (not (is_inside way)) h.1))),
    and_right (d == d) (l == key && is_inside way) (and_left (l == key) (is_inside way) h.1),
  )

  -- what is above the node's level stands behind it
  behind-shallow : (rest : List Stop) → IsShallow d rest → BeginsBehind rest
  behind-shallow [] h = tt
  behind-shallow (stop ∷ rest) h =
      let other : (stop.depth == d) ≡ false = ne_eqb stop.depth d (λ is. omega (arith, h, is)) in
      (or_from (nat_lt d stop.depth) _ (le-ltb d stop.depth (omega (arith, h))) (and_left (stop.depth == d) _ other), and_left (stop.depth == d) _ other)

  module _ {L : Type 0} (is_element : L → Bool) where
    -- what is below the node's level, under siblings before the node, stands before it
    pub before-deeper : (k : ℕ) (m : Merge L) → d < k → AllBefore (stops_of is_element k m)
    before-deeper k End lt = tt
    before-deeper k (Kept n c r) lt =
        by_test (has_place c) (λ b. AllBefore (cond b (stop_at is_element k Inside (Kept n c r) ∷ stops_of is_element (suc k) c) [] ++ stops_of is_element k r))
        (λ _. (or_left (nat_lt d k) _ (lt-ltb d k lt), all-both (stops_of is_element (suc k) c) (stops_of is_element k r) (before-deeper (suc k) c (omega (arith, lt))) (before-deeper k r lt)))
        (λ _. before-deeper k r lt)
    before-deeper k (Turned was n c r) lt =
        (or_left (nat_lt d k) _ (lt-ltb d k lt), all-both (stops_of is_element (suc k) c) (stops_of is_element k r) (before-deeper (suc k) c (omega (arith, lt))) (before-deeper k r lt))
    before-deeper k (Gone n c r) lt = (or_left (nat_lt d k) _ (lt-ltb d k lt), before-deeper k r lt)
    before-deeper k (Come n c r) lt = (or_left (nat_lt d k) _ (lt-ltb d k lt), before-deeper k r lt)

    later-first : (m : Merge L) → AreLater earlier key m → IfSome (first_key (new_of m)) (IsLater earlier key)
    later-first End h = tt
    later-first (Kept n c r) h = h.0
    later-first (Turned was n c r) h = h.0
    later-first (Gone n c r) h = later-first r h
    later-first (Come n c r) h = h.0

    -- the stops of siblings behind the node stand behind it
    pub behind-level : (m : Merge L) (rest : List Stop) → AreLater earlier key m → IsShallow d rest → BeginsBehind (stops_of is_element d m ++ rest)
    behind-level End rest h low = behind-shallow rest low
    behind-level (Kept n c r) rest h low =
        by_test (has_place c) (λ b. BeginsBehind ((cond b (stop_at is_element d Inside (Kept n c r) ∷ stops_of is_element (suc d) c) [] ++ stops_of is_element d r) ++ rest))
        (λ _. behind-link (Some n.key) Inside (first_element is_element (old_of (Kept n c r))) h.0)
        (λ _. behind-level r rest h.1 low)
    behind-level (Turned was n c r) rest h low = behind-link (Some n.key) Inside (first_element is_element (old_of (Turned was n c r))) h.0
    behind-level (Gone n c r) rest h low = behind-link (first_key (new_of r)) Past (first_element is_element (old_of (Gone n c r))) (later-first r h)
    behind-level (Come n c r) rest h low = behind-link (Some n.key) Anew (first_element is_element (old_of (Come n c r))) h.0

    -- a way that reaches a level begins at its first new node or at a later one
    pub reaches-first : (way : List ℕ) (m : Merge L) → Reaches is_element earlier (key ∷ way) m → option_map_or (is_link_before earlier key false) (first_key (new_of m)) false ≡ true
    reaches-first way End h = absurd h
    reaches-first way (Kept n c r) (inl h) = or_right (earlier n.key key) (n.key == key && true) (and_from (n.key == key) true (eq-eqb n.key key h.0) refl)
    reaches-first way (Kept n c r) (inr h) = or_left (earlier n.key key) (n.key == key && true) h.0
    reaches-first way (Turned was n c r) (inl h) = or_right (earlier n.key key) (n.key == key && true) (and_from (n.key == key) true (eq-eqb n.key key h.0) refl)
    reaches-first way (Turned was n c r) (inr h) = or_left (earlier n.key key) (n.key == key && true) h.0
    reaches-first way (Gone n c r) h = reaches-first way r h
    reaches-first way (Come n c r) h = or_left (earlier n.key key) (n.key == key && true) h.0

  -- How stops on a way are put among others, by whether the first of these stands before the node or behind it.
  module _ (way : List ℕ) where
    abbrev added : List Stop → List Stop
    added stops = with_way earlier d (key ∷ way) stops

    -- the rest of the way, where these stops are behind the node's
    abbrev below : List Stop → List Stop
    below stops = with_way earlier (suc d) way stops

    pub added-behind : (stops : List Stop) → BeginsBehind stops → added stops ≡ stop_inside d key ∷ below stops
    added-behind [] h = refl
    added-behind (s ∷ stops) h =
        ap (λ b. cond b (s ∷ stops_before earlier d key stops) [] ++ (stop_inside d key ∷ below (cond b (stops_after earlier d key stops) (cond (is_stop_into earlier d key s) stops (s ∷ stops))))) h.0
        ∙ ap (λ b. stop_inside d key ∷ below (cond b stops (s ∷ stops))) h.1

    added-one : (s : Stop) (stops : List Stop) → IsBefore s → added (s ∷ stops) ≡ s ∷ added stops
    added-one s stops h =
        ap (λ b. cond b (s ∷ stops_before earlier d key stops) [] ++ (stop_inside d key ∷ below (cond b (stops_after earlier d key stops) (cond (is_stop_into earlier d key s) stops (s ∷ stops))))) h

    added-all : (xs ys : List Stop) → AllBefore xs → added (xs ++ ys) ≡ xs ++ added ys
    added-all [] ys h = refl
    added-all (x ∷ xs) ys h = added-one x (xs ++ ys) h.0 ∙ ap (λ zs. x ∷ zs) (added-all xs ys h.1)

    -- a tree before the node, with its own stop it, those under it, and those after it now and before
    pub added-tree : (now it : Stop) (under after_now after rest : List Stop) → now ≡ it → IsBefore it → AllBefore under → after_now ++ rest ≡ added (after ++ rest)
        → (now ∷ (under ++ after_now)) ++ rest ≡ added ((it ∷ (under ++ after)) ++ rest)
    added-tree now it under after_now after rest is before all h =
        ap (λ (s : Stop). s ∷ ((under ++ after_now) ++ rest)) is
        ∙ ap (λ zs. it ∷ zs) (append_assoc under after_now rest ∙ ap (λ zs. under ++ zs) h ∙ sym (added-all under (after ++ rest) all) ∙ ap (λ zs. added zs) (sym (append_assoc under after rest)))
        ∙ sym (added-one it ((under ++ after) ++ rest) before)

    -- the node itself, where it has its stop already
    pub added-here : earlier key key ≡ false → (it : Stop) (under after rest : List Stop) → it ≡ stop_inside d key
        → added ((it ∷ (under ++ after)) ++ rest) ≡ stop_inside d key ∷ below (under ++ (after ++ rest))
    added-here irreflexive it under after rest is =
        let zs = (under ++ after) ++ rest in
        let own = stop_inside d key in
        let not_before : is_stop_before earlier d key own ≡ false =
        or_from (nat_lt d d) _ not-deeper (and_right (d == d) _ (or_from (earlier key key) (key == key && false) irreflexive (and_right (key == key) false refl))) in
        let into : is_stop_into earlier d key own ≡ true = and_from (d == d) _ (eq-eqb d d refl) (and_from (key == key) true (eq-eqb key key refl) refl) in
        ap (λ (s : Stop). added (s ∷ zs)) is
        ∙ ap (λ b. cond b (own ∷ stops_before earlier d key zs) [] ++ (own ∷ below (cond b (stops_after earlier d key zs) (cond (is_stop_into earlier d key own) zs (own ∷ zs))))) not_before
        ∙ ap (λ b. own ∷ below (cond b zs (own ∷ zs))) into
        ∙ ap (λ ws. own ∷ below ws) (append_assoc under after rest)
