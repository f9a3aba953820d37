-- How much goes and comes of a merge where what is reached does. Throughout, w is a weight of a tree at a depth d, n a
-- node, c what is under it, r what is after it, g trees, and m a merge.
use Rattle.std.proofs.Common.{◌≡◌, ◌==◌, ◌+◌, ◌≤◌, ◌<◌, ◌||◌, ℕ, zero, suc, ◌*◌, Bool, true, false, cond, List, [], ◌∷◌, length, Some, refl, sym, ap, subst, ◌∙◌, inl, inr, arith, eqb-true, eq-eqb}
use Rattle.std.proofs.lemmas.Option.{same_Some}
use Rattle.forest.specs.Forest.{Forest, Empty, IsOneTree, Tree}
use Rattle.forest.specs.Keys.{Keyed, HasDistinctKeys, times}
use Rattle.forest.specs.Paths.{on_path, path_of, trees_from}
use Rattle.forest.specs.Spots.{first_key}
use Rattle.forest.proofs.PathLaws.{key_at-path_of, path-counted}
use Rattle.forest.proofs.SpotLaws.{counted-live, distinct-parts, not-root, some_or_none}
use Rattle.plain_types.specs.declared.node.Node.{Node}
use Rattle.node_arena.specs.Changes.{alone}
use Rattle.merged_walk.specs.Merges.{Merge, End, Kept, Turned, Gone, Come, has_place, new_of, old_of}
use Rattle.merged_walk.specs.Counts.{led_count, place_count, weigh_places}
use Rattle.merged_walk.specs.EditStops.{on_way}
use Rattle.style_reach.specs.declared.extent.Reach.TheVariants.{Own, Under, Both}
use Rattle.styled_merge.specs.Reached.{begins_at, reached}
use Rattle.styled_merge.specs.Stays.{IsUnturned}
use Rattle.styled_merge.proofs.ReachedLaws.{at_kept}

-- a weight of a tree whose root is at a depth
abbrev pub Weight : Type 0
Weight = ℕ → Forest (Keyed Node) → ℕ

-- the weights of the outermost trees whose roots are reached, where the first root is at this depth
abbrev pub weigh_reached : (ℕ → Bool) → Weight → ℕ → Forest (Keyed Node) → ℕ
weigh_reached is_reached w d Empty = 0
weigh_reached is_reached w d (Tree n c r) =
    cond (is_reached n.key) (w d (Tree n c Empty) + weigh_reached is_reached w d r) (weigh_reached is_reached w (suc d) c + weigh_reached is_reached w d r)

module _ (is_reached : ℕ → Bool) where
  more-after : (w : Weight) (d : ℕ) (n : Keyed Node) (c r : Forest (Keyed Node)) → weigh_reached is_reached w d r ≤ weigh_reached is_reached w d (Tree n c r)
  more-after w d n c r =
      elim (is_reached n.key) as (λ b. weigh_reached is_reached w d r ≤ cond b (w d (Tree n c Empty) + weigh_reached is_reached w d r) (weigh_reached is_reached w (suc d) c + weigh_reached is_reached w d r)) [
        | true ↦ omega arith
        | false ↦ omega arith
      ]

  -- what goes and comes weighs no more than what did before, and what is reached in both forests
  module _ (gone come : Forest (Keyed Node) → ℕ) where
    abbrev reached_old : ℕ → Forest (Keyed Node) → ℕ
    reached_old d g = weigh_reached is_reached (λ _. gone) d g

    abbrev reached_new : ℕ → Forest (Keyed Node) → ℕ
    reached_new d g = weigh_reached is_reached (λ _. come) d g

    pub weigh-reached : (d : ℕ) (m : Merge Node) → IsUnturned m → weigh_places gone come (reached is_reached m) ≤ weigh_places gone come m + (reached_old d (old_of m) + reached_new d (new_of m))
    weigh-reached d End h = omega arith
    weigh-reached d (Kept n c r) h =
        elim (is_reached n.key) as (λ b. weigh_places gone come (at_kept is_reached b n c r)
        ≤ weigh_places gone come (Kept n c r)
        + (cond b (gone (Tree n (old_of c) Empty) + reached_old d (old_of r)) (reached_old (suc d) (old_of c) + reached_old d (old_of r))
        + cond b (come (Tree n (new_of c) Empty) + reached_new d (new_of r)) (reached_new (suc d) (new_of c) + reached_new d (new_of r)))) [
          | true ↦ omega (arith, weigh-reached d r h.1)
          | false ↦ omega (arith, weigh-reached (suc d) c h.0, weigh-reached d r h.1)
        ]
    weigh-reached d (Turned was n c r) h = absurd h.0
    weigh-reached d (Gone n c r) h = omega (arith, weigh-reached d r h, more-after (λ _. gone) d n c (old_of r))
    weigh-reached d (Come n c r) h = omega (arith, weigh-reached d r h, more-after (λ _. come) d n c (new_of r))

  -- two places more for each outermost node that is reached
  abbrev pub count_reached : ℕ → Forest (Keyed Node) → ℕ
  count_reached d g = weigh_reached is_reached (λ _ _. 1) d g

  pub places-reached : (d : ℕ) (m : Merge Node) → IsUnturned m → place_count (reached is_reached m) ≤ place_count m + (count_reached d (old_of m) + count_reached d (old_of m))
  places-reached d End h = omega arith
  places-reached d (Kept n c r) h =
      elim (is_reached n.key) as (λ b. place_count (at_kept is_reached b n c r)
      ≤ place_count (Kept n c r)
      + (cond b (1 + count_reached d (old_of r)) (count_reached (suc d) (old_of c) + count_reached d (old_of r))
      + cond b (1 + count_reached d (old_of r)) (count_reached (suc d) (old_of c) + count_reached d (old_of r)))) [
        | true ↦ omega (arith, places-reached d r h.1)
        | false ↦ omega (arith, places-reached (suc d) c h.0, places-reached d r h.1)
      ]
  places-reached d (Turned was n c r) h = absurd h.0
  places-reached d (Gone n c r) h = omega (arith, places-reached d r h, more-after (λ _ _. 1) d n c (old_of r))
  places-reached d (Come n c r) h = omega (arith, places-reached d r h)

  -- Nodes are led to as before, or to get to a node that is reached.

  abbrev pub depths_reached : ℕ → Forest (Keyed Node) → ℕ
  depths_reached d g = weigh_reached is_reached (λ d _. d) d g

  pub deeper : (d : ℕ) (g : Forest (Keyed Node)) → depths_reached (suc d) g ≡ depths_reached d g + count_reached d g
  deeper d Empty = refl
  deeper d (Tree n c r) =
      elim (is_reached n.key) as (λ b. cond b (suc d + depths_reached (suc d) r) (depths_reached (suc (suc d)) c + depths_reached (suc d) r)
      ≡ cond b (d + depths_reached d r) (depths_reached (suc d) c + depths_reached d r) + cond b (1 + count_reached d r) (count_reached (suc d) c + count_reached d r)) [
        | true ↦ omega (arith, deeper d r)
        | false ↦ omega (arith, deeper (suc d) c, deeper d r)
      ]

  abbrev one : Bool → ℕ
  one b = cond {A = ℕ} b 1 0

  one-or : (a b : Bool) → one (a || b) ≤ one a + one b
  one-or true b = omega arith
  one-or false b = omega arith

  or-one : (a b : Bool) → (one a ≤ one (a || b)) × (one b ≤ one (a || b))
  or-one true true = (omega arith, omega arith)
  or-one true false = (omega arith, omega arith)
  or-one false b = (omega arith, omega arith)

  one-few : (b : Bool) → one b ≤ 1
  one-few true = omega arith
  one-few false = omega arith

  split : (a b x y : Bool) (k l : ℕ) → one x ≤ one a + k → one y ≤ one b + l → one (x || y) ≤ one (a || b) + (k + l)
  split a b true y k l h i = omega (arith, h, (or-one a b).0)
  split a b false y k l h i = omega (arith, i, (or-one a b).1)

  place-one : (d : ℕ) (m : Merge Node) → IsUnturned m → one (has_place (reached is_reached m)) ≤ one (has_place m) + count_reached d (old_of m)
  place-one d End h = omega arith
  place-one d (Kept n c r) h =
      elim (is_reached n.key) as (λ b. one (has_place (at_kept is_reached b n c r))
      ≤ one (has_place c || has_place r) + cond b (1 + count_reached d (old_of r)) (count_reached (suc d) (old_of c) + count_reached d (old_of r))) [
        | true ↦ omega arith
        | false ↦ split (has_place c) (has_place r) (has_place (reached is_reached c)) (has_place (reached is_reached r)) (count_reached (suc d) (old_of c)) (count_reached d (old_of r)) (place-one (suc d) c h.0) (place-one d r h.1)
      ]
  place-one d (Turned was n c r) h = absurd h.0
  place-one d (Gone n c r) h = omega arith
  place-one d (Come n c r) h = omega arith

  pub same-count : (d k : ℕ) (g : Forest (Keyed Node)) → count_reached d g ≡ count_reached k g
  same-count d k Empty = refl
  same-count d k (Tree n c r) =
      let below = same-count (suc d) (suc k) c in
      let beside = same-count d k r in λ x. cond (is_reached n.key) (1 + beside x) (below x + beside x)

  pub led-within : (m : Merge Node) → IsUnturned m → led_count (reached is_reached m) ≤ led_count m + depths_reached 0 (old_of m)
  led-within End h = omega arith
  led-within (Kept n c r) h =
      elim (is_reached n.key) as (λ b. led_count (at_kept is_reached b n c r)
      ≤ led_count (Kept n c r) + cond b (0 + depths_reached 0 (old_of r)) (depths_reached 1 (old_of c) + depths_reached 0 (old_of r))) [
        | true ↦ omega (arith, led-within r h.1)
        | false ↦ omega (arith, led-within c h.0, led-within r h.1, deeper 0 (old_of c), place-one 0 c h.0)
      ]
  led-within (Turned was n c r) h = absurd h.0
  led-within (Gone n c r) h = omega (arith, led-within r h, more-after (λ d _. d) 0 n c (old_of r))
  led-within (Come n c r) h = omega (arith, led-within r h)

-- What two reach weighs no more than what each does.

either-sum : (a b : Bool) (tree below beside first_below first_beside second_below second_beside : ℕ) → below ≤ first_below + second_below → beside ≤ first_beside + second_beside
    → cond (a || b) (tree + beside) (below + beside) ≤ cond a (tree + first_beside) (first_below + first_beside) + cond b (tree + second_beside) (second_below + second_beside)
either-sum true true tree below beside first_below first_beside second_below second_beside h i = omega (arith, i)
either-sum true false tree below beside first_below first_beside second_below second_beside h i = omega (arith, i)
either-sum false true tree below beside first_below first_beside second_below second_beside h i = omega (arith, i)
either-sum false false tree below beside first_below first_beside second_below second_beside h i = omega (arith, h, i)

pub either-reached : (first second : ℕ) (w : Weight) (d : ℕ) (g : Forest (Keyed Node))
    → weigh_reached (begins_at (Both first second)) w d g ≤ weigh_reached (begins_at (Under first)) w d g + weigh_reached (begins_at (Under second)) w d g
either-reached first second w d Empty = omega arith
either-reached first second w d (Tree n c r) =
    either-sum (first == n.key) (second == n.key) (w d (Tree n c Empty))
    (weigh_reached (begins_at (Both first second)) w (suc d) c) (weigh_reached (begins_at (Both first second)) w d r)
    (weigh_reached (begins_at (Under first)) w (suc d) c) (weigh_reached (begins_at (Under first)) w d r)
    (weigh_reached (begins_at (Under second)) w (suc d) c) (weigh_reached (begins_at (Under second)) w d r)
    (either-reached first second w (suc d) c) (either-reached first second w d r)

-- no weight is none
pub nothing-weighs : (is_reached : ℕ → Bool) (d : ℕ) (g : Forest (Keyed Node)) → weigh_reached is_reached (λ _ _. 0) d g ≡ 0
nothing-weighs is_reached d Empty = refl
nothing-weighs is_reached d (Tree n c r) =
    elim (is_reached n.key) as (λ b. cond b (0 + weigh_reached is_reached (λ _ _. 0) d r) (weigh_reached is_reached (λ _ _. 0) (suc d) c + weigh_reached is_reached (λ _ _. 0) d r) ≡ 0) [
      | true ↦ omega (arith, nothing-weighs is_reached d r)
      | false ↦ omega (arith, nothing-weighs is_reached (suc d) c, nothing-weighs is_reached d r)
    ]

pub nothing-begins : (w : Weight) (d : ℕ) (g : Forest (Keyed Node)) → weigh_reached (begins_at Own) w d g ≡ 0
nothing-begins w d Empty = refl
nothing-begins w d (Tree n c r) = omega (arith, nothing-begins w (suc d) c, nothing-begins w d r)

-- One node reaches what stands at its path.
module _ (top : ℕ) (w : Weight) where
  abbrev weigh_under : ℕ → Forest (Keyed Node) → ℕ
  weigh_under d g = weigh_reached (begins_at (Under top)) w d g

  flipped : (a b : ℕ) (is : Bool) → (a == b) ≡ is → (b == a) ≡ is
  flipped a b true h = eq-eqb b a (sym (eqb-true a b h))
  flipped a b false h =
      elim (b == a) as (λ x. (b == a) ≡ x → x ≡ false) [
        | true ↦ λ is. absurd (let never : true ≡ false = sym (eq-eqb a b (sym (eqb-true b a is))) ∙ h in cc)
        | false ↦ λ is. refl
      ] refl

  elsewhere : (d : ℕ) (n : Keyed Node) (c r : Forest (Keyed Node)) → (n.key == top) ≡ false → weigh_under d (Tree n c r) ≡ weigh_under (suc d) c + weigh_under d r
  elsewhere d n c r not = ap (λ b. cond b (w d (Tree n c Empty) + weigh_under d r) (weigh_under (suc d) c + weigh_under d r)) (flipped n.key top false not)

  not-root-key : (n : Keyed Node) (c r : Forest (Keyed Node)) → times top (Tree n c r) ≡ 0 → (n.key == top) ≡ false
  not-root-key n c r none =
      elim (n.key == top) as (λ b. cond {A = ℕ} b 1 0 + (times top c + times top r) ≡ 0 → b ≡ false) [
        | true ↦ λ h. absurd (omega (arith, h))
        | false ↦ λ h. refl
      ] none

  pub none-there : (d : ℕ) (g : Forest (Keyed Node)) → times top g ≡ 0 → weigh_under d g ≡ 0
  none-there d Empty none = refl
  none-there d (Tree n c r) none =
      let not = not-root-key n c r none in
      omega (arith, elsewhere d n c r not, none-there (suc d) c (omega (arith, none)), none-there d r (omega (arith, none)))

  abbrev at_way : ℕ → ℕ → List ℕ → Forest (Keyed Node) → ℕ
  at_way d i path g = w (d + length (on_way path (trees_from i g))) (alone (on_path path (trees_from i g)))

  there : (d i : ℕ) (path : List ℕ) (g : Forest (Keyed Node)) → HasDistinctKeys g → first_key (on_path path (trees_from i g)) ≡ Some top → weigh_under d g ≡ at_way d i path g
  there d i path Empty distinct at = absurd (omega (arith, path-counted {L = Node} Empty i path top at))
  there d zero [] (Tree n c r) distinct at =
      let is : n.key ≡ top = same_Some n.key top at in
      let here : (top == n.key) ≡ true = eq-eqb top n.key (sym is) in
      let root : (n.key == top) ≡ true = eq-eqb n.key top is in
      let after : times top r ≡ 0 = subst (λ b. cond {A = ℕ} b 1 0 + (times top c + times top r) ≤ 1 → times top r ≡ 0) (sym root) (λ h. omega (arith, h)) (distinct top) in
      let first : weigh_under d (Tree n c r) ≡ w d (Tree n c Empty) + weigh_under d r = ap (λ b. cond b (w d (Tree n c Empty) + weigh_under d r) (weigh_under (suc d) c + weigh_under d r)) here in
      let no_more : d ≡ d + 0 = omega arith in
      let same : w d (Tree n c Empty) ≡ w (d + 0) (Tree n c Empty) = ap (λ k. w k (Tree n c Empty)) no_more in
      omega (arith, first, none-there d r after, same)
  there d zero (k ∷ path) (Tree n c r) distinct at =
      let parts = distinct-parts n c r distinct in
      let below : 0 < times top c = path-counted c k path top at in
      let not = not-root n c r top distinct (omega (arith, below)) in
      let after : times top r ≡ 0 = omega (arith, distinct top, below) in
      let inner = there (suc d) k path c parts.0 at in
      let deep : suc d + length (on_way path (trees_from k c)) ≡ d + suc (length (on_way path (trees_from k c))) = omega arith in
      let step : at_way (suc d) k path c ≡ at_way d zero (k ∷ path) (Tree n c r) = ap (λ x. w x (alone (on_path path (trees_from k c)))) deep in
      omega (arith, elsewhere d n c r not, none-there d r after, inner, step)
  there d (suc i) path (Tree n c r) distinct at =
      let parts = distinct-parts n c r distinct in
      let beside : 0 < times top r = path-counted r i path top at in
      let not = not-root n c r top distinct (omega (arith, beside)) in
      let below : times top c ≡ 0 = omega (arith, distinct top, beside) in
      omega (arith, elsewhere d n c r not, none-there (suc d) c below, there d i path r parts.1 at)

  -- in a document
  pub at-its-path : (g : Forest (Keyed Node)) → HasDistinctKeys g → IsOneTree g → weigh_under 0 g ≤ w (length (on_way (path_of g top) g)) (alone (on_path (path_of g top) g))
  at-its-path g distinct tree =
      let plain : 0 + length (on_way (path_of g top) g) ≡ length (on_way (path_of g top) g) = omega arith in
      let same : at_way 0 zero (path_of g top) g ≡ w (length (on_way (path_of g top) g)) (alone (on_path (path_of g top) g)) = ap (λ k. w k (alone (on_path (path_of g top) g))) plain in
      elim (some_or_none (times top g)) [
        | inl none ↦ omega (arith, none-there 0 g none)
        | inr some ↦ omega (arith, same, there 0 zero (path_of g top) g distinct (key_at-path_of g top tree (counted-live g top some)))
      ]

-- No more than one node has the key.
pub once-there : (top d : ℕ) (g : Forest (Keyed Node)) → count_reached (begins_at (Under top)) d g ≤ times top g
once-there top d Empty = omega arith
once-there top d (Tree n c r) =
    elim (top == n.key) as (λ b. (top == n.key) ≡ b → cond b (1 + count_reached (begins_at (Under top)) d r) (count_reached (begins_at (Under top)) (suc d) c + count_reached (begins_at (Under top)) d r)
    ≤ cond {A = ℕ} (n.key == top) 1 0 + (times top c + times top r)) [
      | true ↦ λ is. rw (eq-eqb n.key top (sym (eqb-true top n.key is))) (omega (arith, once-there top d r))
      | false ↦ λ not. omega (arith, once-there top (suc d) c, once-there top d r)
    ] refl

-- Where two nodes are reached apart from one another, neither is the root.

apart-sum : (a b : Bool) (below beside first_below first_beside second_below second_beside : ℕ) → beside ≡ 0 → 8 * below ≤ 12 + 2 * (first_below + second_below)
    → 8 * cond (a || b) (1 + beside) (below + beside) ≤ 12 + 2 * (cond a (0 + first_beside) (first_below + first_beside) + cond b (0 + second_beside) (second_below + second_beside))
apart-sum true b below beside first_below first_beside second_below second_beside h i = omega (arith, h)
apart-sum false true below beside first_below first_beside second_below second_beside h i = omega (arith, h)
apart-sum false false below beside first_below first_beside second_below second_beside h i = omega (arith, h, i)

module _ (first second : ℕ) where
  abbrev depths : ℕ → ℕ → Forest (Keyed Node) → ℕ
  depths top d g = depths_reached (begins_at (Under top)) d g

  abbrev count : ℕ → ℕ → Forest (Keyed Node) → ℕ
  count top d g = count_reached (begins_at (Under top)) d g

  abbrev both : ℕ → Forest (Keyed Node) → ℕ
  both d g = count_reached (begins_at (Both first second)) d g

  below-apart : (c : Forest (Keyed Node)) → HasDistinctKeys c → 8 * both 1 c ≤ 12 + 2 * (depths first 1 c + depths second 1 c)
  below-apart c distinct =
      omega (
        arith,
        either-reached first second (λ _ _. 1) 1 c,
        once-there first 1 c,
        once-there second 1 c,
        distinct first,
        distinct second,
        deeper (begins_at (Under first)) 0 c,
        deeper (begins_at (Under second)) 0 c,
        same-count (begins_at (Under first)) 0 1 c,
        same-count (begins_at (Under second)) 0 1 c,
      )

  pub two-apart : (g : Forest (Keyed Node)) → HasDistinctKeys g → IsOneTree g → 8 * both 0 g ≤ 12 + 2 * (depths first 0 g + depths second 0 g)
  two-apart Empty distinct one = absurd one
  two-apart (Tree n c r) distinct one =
      apart-sum (first == n.key) (second == n.key) (both 1 c) (both 0 r) (depths first 1 c) (depths first 0 r) (depths second 1 c) (depths second 0 r)
      (ap (both 0) one) (below-apart c (distinct-parts n c r distinct).0)
