-- The stops of a merge in which one node more is turned are those of the merge, and those on the way to the node.
-- Throughout, d is a depth, n a node, c what is under it, r what is after it, m a merge, and h says that a way
-- reaches its end.
use Rattle.std.proofs.Common.{◌≡◌, ℕ, suc, Bool, true, false, cond, List, [], ◌∷◌, ◌++◌, Option, Some, refl, sym, ap, ◌∙◌, inl, inr, arith, append_assoc}
use Rattle.std.proofs.lemmas.Bool.{or_left}
use Rattle.forest.specs.Forest.{Forest, Tree}
use Rattle.forest.specs.Keys.{Keyed}
use Rattle.forest.specs.Spots.{first_key}
use Rattle.merged_walk.specs.declared.stop.Stop.{Stop}
use Rattle.merged_walk.specs.declared.stop.Way.{Way}
use Rattle.merged_walk.specs.declared.stop.Way.TheVariants.{Past, Inside, Anew}
use Rattle.merged_walk.specs.Merges.{Merge, End, Kept, Turned, Gone, Come, has_place, new_of, old_of}
use Rattle.merged_walk.specs.Stops.{first_element, stop_at, stops_of}
use Rattle.merged_walk.specs.EditStops.{stop_inside}
use Rattle.merged_walk.specs.TurnedNodes.{AreLater, Reaches, at_end, turn_node, with_way}
use Rattle.merged_walk.proofs.StopLaws.{stops-none}
use Rattle.merged_walk.proofs.ShallowStops.{IsShallow, by_test, shallow-level}
use Rattle.merged_walk.proofs.TurnedMerges.{first_key-turn_node, has_place-turn_node, old-turn_node}
use Rattle.merged_walk.proofs.WayOrder.{added-behind, added-here, added-tree, before-deeper, before-link, behind-level, reaches-first}

module _ {L : Type 0} (is_element : L → Bool) (earlier : ℕ → ℕ → Bool) (irreflexive : (key : ℕ) → earlier key key ≡ false) (change : Keyed L → Keyed L) (same : (n : Keyed L) → (change n).key ≡ n.key) where
  abbrev turned : (way : List ℕ) (m : Merge L) → Reaches is_element earlier way m → Merge L
  turned way m h = turn_node is_element earlier change way m h

  -- the stop of the node that the way is at, as it is entered
  own-stop : (d key : ℕ) (n : Keyed L) (f g : Forest (Keyed L)) (l : ℕ) → n.key ≡ key → is_element n.label ≡ true → l ≡ key
      → (it : Stop) → it ≡ record { depth = d; link = Some l; way = Inside; from = first_element is_element (Tree n f g) } → it ≡ stop_inside d key
  own-stop d key n f g l its element link it is =
      is ∙ ap (λ b. record { depth = d; link = Some l; way = Inside; from = cond b (Some n.key) (first_element is_element g) }) element
      ∙ ap (λ k. record { depth = d; link = Some l; way = Inside; from = Some k }) its
      ∙ ap (λ k. record { depth = d; link = Some k; way = Inside; from = Some key }) link

  same-stop : (d : ℕ) (link : Option ℕ) (way : Way) (f g : Forest (Keyed L)) → f ≡ g
      → (one other : Stop) → one ≡ record { depth = d; link = link; way = way; from = first_element is_element f } → other ≡ record { depth = d; link = link; way = way; from = first_element is_element g } → one ≡ other
  same-stop d link way f g is one other h k = h ∙ ap (λ x. record { depth = d; link = link; way = way; from = first_element is_element x }) is ∙ sym k

  -- what is under a node and behind it, with the rest of the way in it
  abbrev rest_of : ℕ → List ℕ → (c r : Merge L) → List Stop → List Stop
  rest_of d way c r rest = with_way earlier (suc d) way (stops_of is_element (suc d) c ++ (stops_of is_element d r ++ rest))

  abbrev Adds : List ℕ → Merge L → ℕ → Type 0
  Adds way m d = (rest : List Stop) (h : Reaches is_element earlier way m) → IsShallow d rest → stops_of is_element d (turned way m h) ++ rest ≡ with_way earlier d way (stops_of is_element d m ++ rest)

  -- the node itself is turned, or one under it
  adds-kept : (d key : ℕ) (n : Keyed L) (c r : Merge L) (rest : List Stop) → n.key ≡ key → is_element n.label ≡ true → IsShallow d rest → (way : List ℕ) (h : Reaches is_element earlier way c) → Adds way c (suc d)
      → stops_of is_element d (at_end way (Turned n (change n) c r) (Kept n (turned way c h) r)) ++ rest ≡ stop_inside d key ∷ rest_of d way c r rest
  adds-kept d key n c r rest its element low [] h adds =
      ap (λ (s : Stop). s ∷ ((stops_of is_element (suc d) c ++ stops_of is_element d r) ++ rest))
      (own-stop d key n (old_of c) (old_of r) (change n).key its element (same n ∙ its) (stop_at is_element d Inside (Turned n (change n) c r)) refl)
      ∙ ap (λ zs. stop_inside d key ∷ zs) (append_assoc (stops_of is_element (suc d) c) (stops_of is_element d r) rest)
  adds-kept d key n c r rest its element low (next ∷ way) h adds =
      let inner = turned (next ∷ way) c h in
      ap (λ b. (cond b (stop_at is_element d Inside (Kept n inner r) ∷ stops_of is_element (suc d) inner) [] ++ stops_of is_element d r) ++ rest) (has_place-turn_node is_element earlier change next way c h)
      ∙ ap (λ (s : Stop). s ∷ ((stops_of is_element (suc d) inner ++ stops_of is_element d r) ++ rest))
      (own-stop d key n (old_of inner) (old_of r) n.key its element its (stop_at is_element d Inside (Kept n inner r)) refl)
      ∙ ap (λ zs. stop_inside d key ∷ zs)
      (append_assoc (stops_of is_element (suc d) inner) (stops_of is_element d r) rest ∙ adds (stops_of is_element d r ++ rest) h (shallow-level is_element d r rest low))

  adds-turned : (d key : ℕ) (was n : Keyed L) (c r : Merge L) (rest : List Stop) → n.key ≡ key → is_element was.label ≡ true → was.key ≡ key → IsShallow d rest → (way : List ℕ) (h : Reaches is_element earlier way c) → Adds way c (suc d)
      → stops_of is_element d (at_end way (Turned was (change n) c r) (Turned was n (turned way c h) r)) ++ rest ≡ stop_inside d key ∷ rest_of d way c r rest
  adds-turned d key was n c r rest its element its_was low [] h adds =
      ap (λ (s : Stop). s ∷ ((stops_of is_element (suc d) c ++ stops_of is_element d r) ++ rest))
      (own-stop d key was (old_of c) (old_of r) (change n).key its_was element (same n ∙ its) (stop_at is_element d Inside (Turned was (change n) c r)) refl)
      ∙ ap (λ zs. stop_inside d key ∷ zs) (append_assoc (stops_of is_element (suc d) c) (stops_of is_element d r) rest)
  adds-turned d key was n c r rest its element its_was low (next ∷ way) h adds =
      let inner = turned (next ∷ way) c h in
      ap (λ (s : Stop). s ∷ ((stops_of is_element (suc d) inner ++ stops_of is_element d r) ++ rest))
      (own-stop d key was (old_of inner) (old_of r) n.key its_was element its (stop_at is_element d Inside (Turned was n inner r)) refl)
      ∙ ap (λ zs. stop_inside d key ∷ zs)
      (append_assoc (stops_of is_element (suc d) inner) (stops_of is_element d r) rest ∙ adds (stops_of is_element d r ++ rest) h (shallow-level is_element d r rest low))

  -- a kept node that the way is at has its stop in the merge already, or has none there
  kept-here : (d key : ℕ) (way : List ℕ) (n : Keyed L) (c r : Merge L) (rest : List Stop) → n.key ≡ key → is_element n.label ≡ true → AreLater earlier key r → IsShallow d rest
      → with_way earlier d (key ∷ way) (stops_of is_element d (Kept n c r) ++ rest) ≡ stop_inside d key ∷ rest_of d way c r rest
  kept-here d key way n c r rest its element later low =
      let it = stop_at is_element d Inside (Kept n c r) in
      by_test (has_place c)
      (λ b. with_way earlier d (key ∷ way) ((cond b (it ∷ stops_of is_element (suc d) c) [] ++ stops_of is_element d r) ++ rest) ≡ stop_inside d key ∷ rest_of d way c r rest)
      (λ _. added-here earlier d key way (irreflexive key) it (stops_of is_element (suc d) c) (stops_of is_element d r) rest (own-stop d key n (old_of c) (old_of r) n.key its element its it refl))
      (λ none. added-behind earlier d key way (stops_of is_element d r ++ rest) (behind-level earlier d key is_element r rest later low)
      ∙ ap (λ (under : List Stop). stop_inside d key ∷ with_way earlier (suc d) way (under ++ (stops_of is_element d r ++ rest))) (sym (stops-none is_element (suc d) c none)))

  -- a turned node that the way is at has its stop already
  turned-here : (d key : ℕ) (way : List ℕ) (was n : Keyed L) (c r : Merge L) (rest : List Stop) → n.key ≡ key → is_element was.label ≡ true → was.key ≡ key
      → with_way earlier d (key ∷ way) (stops_of is_element d (Turned was n c r) ++ rest) ≡ stop_inside d key ∷ rest_of d way c r rest
  turned-here d key way was n c r rest its element its_was =
      let it = stop_at is_element d Inside (Turned was n c r) in
      added-here earlier d key way (irreflexive key) it (stops_of is_element (suc d) c) (stops_of is_element d r) rest (own-stop d key was (old_of c) (old_of r) n.key its_was element its it refl)

  -- siblings before the node are passed
  pub adds : (way : List ℕ) (m : Merge L) (d : ℕ) → Adds way m d
  adds [] m d rest h low = refl
  adds (key ∷ way) End d rest h low = absurd h
  adds (key ∷ way) (Kept n c r) d rest (inl h) low = adds-kept d key n c r rest h.0 h.1 low way h.3 (adds way c (suc d)) ∙ sym (kept-here d key way n c r rest h.0 h.1 h.2 low)
  adds (key ∷ way) (Kept n c r) d rest (inr h) low =
      let next = turned (key ∷ way) r h.1 in
      let now = stop_at is_element d Inside (Kept n c next) in
      let it = stop_at is_element d Inside (Kept n c r) in
      let under = stops_of is_element (suc d) c in
      let after = adds (key ∷ way) r d rest h.1 low in
      by_test (has_place c)
      (λ b. (cond b (now ∷ under) [] ++ stops_of is_element d next) ++ rest ≡ with_way earlier d (key ∷ way) ((cond b (it ∷ under) [] ++ stops_of is_element d r) ++ rest))
      (λ _. added-tree earlier d key way now it under (stops_of is_element d next) (stops_of is_element d r) rest
      (same-stop d (Some n.key) Inside (Tree n (old_of c) (old_of next)) (Tree n (old_of c) (old_of r)) (ap (λ f. Tree n (old_of c) f) (old-turn_node is_element earlier change (key ∷ way) r h.1)) now it refl refl)
      (before-link earlier d key (Some n.key) Inside it.from (or_left (earlier n.key key) _ h.0)) (before-deeper earlier d key is_element (suc d) c (omega arith)) after)
      (λ _. after)
  adds (key ∷ way) (Turned was n c r) d rest (inl h) low = adds-turned d key was n c r rest h.0 h.1 h.2 low way h.3 (adds way c (suc d)) ∙ sym (turned-here d key way was n c r rest h.0 h.1 h.2)
  adds (key ∷ way) (Turned was n c r) d rest (inr h) low =
      let next = turned (key ∷ way) r h.1 in
      let now = stop_at is_element d Inside (Turned was n c next) in
      let it = stop_at is_element d Inside (Turned was n c r) in
      added-tree earlier d key way now it (stops_of is_element (suc d) c) (stops_of is_element d next) (stops_of is_element d r) rest
      (same-stop d (Some n.key) Inside (Tree was (old_of c) (old_of next)) (Tree was (old_of c) (old_of r)) (ap (λ f. Tree was (old_of c) f) (old-turn_node is_element earlier change (key ∷ way) r h.1)) now it refl refl)
      (before-link earlier d key (Some n.key) Inside it.from (or_left (earlier n.key key) _ h.0)) (before-deeper earlier d key is_element (suc d) c (omega arith)) (adds (key ∷ way) r d rest h.1 low)
  adds (key ∷ way) (Gone n c r) d rest h low =
      let next = turned (key ∷ way) r h in
      let now = stop_at is_element d Past (Gone n c next) in
      let it = stop_at is_element d Past (Gone n c r) in
      added-tree earlier d key way now it [] (stops_of is_element d next) (stops_of is_element d r) rest
      (same-stop d (first_key (new_of r)) Past (Tree n c (old_of next)) (Tree n c (old_of r)) (ap (λ f. Tree n c f) (old-turn_node is_element earlier change (key ∷ way) r h)) now it
      (ap (λ link. record { depth = d; link = link; way = Past; from = first_element is_element (Tree n c (old_of next)) }) (first_key-turn_node is_element earlier change same (key ∷ way) r h)) refl)
      (before-link earlier d key (first_key (new_of r)) Past it.from (reaches-first earlier d key is_element way r h)) tt (adds (key ∷ way) r d rest h low)
  adds (key ∷ way) (Come n c r) d rest h low =
      let next = turned (key ∷ way) r h.1 in
      let now = stop_at is_element d Anew (Come n c next) in
      let it = stop_at is_element d Anew (Come n c r) in
      added-tree earlier d key way now it [] (stops_of is_element d next) (stops_of is_element d r) rest
      (same-stop d (Some n.key) Anew (old_of next) (old_of r) (old-turn_node is_element earlier change (key ∷ way) r h.1) now it refl refl)
      (before-link earlier d key (Some n.key) Anew it.from (or_left (earlier n.key key) _ h.0)) tt (adds (key ∷ way) r d rest h.1 low)
