-- Where two nodes are reached that stand apart, the stops are those of the one and those of the other. Throughout, d is a
-- depth, n a node, c what is under it, r what is after it, and g trees.
use Rattle.std.proofs.Common.{◌≡◌, ◌==◌, ◌||◌, ◌&&◌, ◌⊎◌, ◌+◌, ◌<◌, ℕ, zero, suc, nat_eq, nat_lt, Bool, true, false, cond, List, [], ◌∷◌, ◌++◌, Option, Some, refl, sym, ap, ap₂, subst, ◌∙◌, inl, inr, arith, append-nil, eq-eqb, eqb-true}
use Rattle.std.specs.Option.{option_eq}
use Rattle.std.proofs.lemmas.Bool.{or_from, or_left}
use Rattle.std.proofs.lemmas.Bool.Decides.{nat_tests}
use Rattle.std.proofs.lemmas.Option.{same_Some}
use Rattle.forest.specs.Forest.{Forest, Empty, Tree}
use Rattle.forest.specs.Keys.{Keyed, HasDistinctKeys, times}
use Rattle.forest.specs.Paths.{on_path, trees_from}
use Rattle.forest.specs.Spots.{first_key}
use Rattle.forest.proofs.PathLaws.{path-counted}
use Rattle.forest.proofs.SpotLaws.{distinct-parts, some_or_none}
use Rattle.node_arena.specs.AtPaths.{leads_into}
use Rattle.merged_walk.specs.declared.stop.Stop.{Stop}
use Rattle.merged_walk.specs.declared.stop.Way.TheVariants.{Inside}
use Rattle.merged_walk.specs.Merges.{Kept, Gone, Come, all_kept, has_place, new_of, old_of}
use Rattle.merged_walk.specs.Stops.{first_element, is_inside, stops_of}
use Rattle.merged_walk.specs.EditStops.{is_before, is_common, joined}
use Rattle.merged_walk.proofs.MergeLaws.{has_place-all_kept}
use Rattle.merged_walk.proofs.StopLaws.{stops-all_kept}
use Rattle.edit_merge.specs.Joining.{parted}
use Rattle.edit_merge.proofs.JoiningLaws.{joined-common, joined-none, joined-other, none-joined}
use Rattle.styled_merge.specs.Reached.{reached}
use Rattle.styled_merge.proofs.ReachedLevels.{either}
use Rattle.styled_merge.proofs.UnderPlaces.{first_stops, place-first, stops-first, tree_stops}
use Rattle.styled_merge.proofs.NodeReached.{never-true, none-reached, nothing-there, root-counted}

-- Lists of stops that have no first stop in common.

abbrev AreApart : List Stop → List Stop → Type 0
AreApart [] others = Unit {0}
AreApart (stop ∷ stops) [] = Unit {0}
AreApart (stop ∷ stops) (other ∷ others) = is_common stop other ≡ false

joined-apart : (is_first : Bool) (stops others : List Stop) → AreApart stops others → joined is_first stops others ≡ parted is_first stops others
joined-apart is_first [] others h = joined-none is_first others
joined-apart is_first (stop ∷ stops) [] h = none-joined is_first (stop ∷ stops)
joined-apart is_first (stop ∷ stops) (other ∷ others) h = joined-other is_first stop other stops others h

-- the first stop isn't the one into this node
abbrev IsNotInto : ℕ → List Stop → Type 0
IsNotInto key [] = Unit {0}
IsNotInto key (stop ∷ stops) = (is_inside stop.way ≡ false) ⊎ ((option_eq nat_eq stop.link (Some key) ≡ false) × (option_eq nat_eq (Some key) stop.link ≡ false))

not-common : (a b c : Bool) → (b ≡ false) ⊎ (c ≡ false) → (a && (b && c)) ≡ false
not-common true true c (inl h) = absurd (cc h)
not-common true true c (inr h) = h
not-common true false c h = refl
not-common false b c h = refl

not-first : (a b c : Bool) → (a ≡ false) ⊎ (c ≡ false) → (a && (b && c)) ≡ false
not-first true b c (inl h) = absurd (cc h)
not-first true true c (inr h) = h
not-first true false c (inr h) = refl
not-first false b c h = refl

module _ {L : Type 0} where
  other-key : (n : Keyed L) (c r : Forest (Keyed L)) (k : ℕ) → times k (Tree n c r) ≡ 0 → ((n.key == k) ≡ false) × ((k == n.key) ≡ false)
  other-key n c r k none =
      let differ : n.key ≡ k → ⊥ = λ same. absurd (omega (arith, none, root-counted n c r, ap (λ q. times q (Tree n c r)) same)) in
      (never-true (n.key == k) (λ h. differ (eqb-true n.key k h)), never-true (k == n.key) (λ h. differ (sym (eqb-true k n.key h))))

module _ {L : Type 0} (is_element : L → Bool) where
  module _ (d : ℕ) (n : Keyed L) (next : Option ℕ) (below : List Stop) where
    apart-before : (reaches leads : Bool) (others : List Stop) → IsNotInto n.key others → AreApart (tree_stops is_element d n reaches leads next below) others
    apart-before true leads [] h = tt
    apart-before true leads (other ∷ others) h = refl
    apart-before false true [] h = tt
    apart-before false true (other ∷ others) h = not-common true (is_inside other.way) (option_eq nat_eq (Some n.key) other.link) (elim h [ inl a ↦ inl a | inr b ↦ inr b.1 ])
    apart-before false false others h = tt

    apart-behind : (reaches leads : Bool) (others : List Stop) → IsNotInto n.key others → AreApart others (tree_stops is_element d n reaches leads next below)
    apart-behind reaches leads [] h = tt
    apart-behind true leads (other ∷ others) h = not-common (is_inside other.way) false (option_eq nat_eq other.link (Some n.key)) (inl refl)
    apart-behind false true (other ∷ others) h = not-first (is_inside other.way) true (option_eq nat_eq other.link (Some n.key)) (elim h [ inl a ↦ inl a | inr b ↦ inr b.0 ])
    apart-behind false false (other ∷ others) h = tt

    not-into-first : (k : ℕ) → ((n.key == k) ≡ false) × ((k == n.key) ≡ false) → (reaches leads : Bool) (rest : List Stop) → IsNotInto k rest → IsNotInto k (tree_stops is_element d n reaches leads next below ++ rest)
    not-into-first k differ true leads rest h = inl refl
    not-into-first k differ false true rest h = inr differ
    not-into-first k differ false false rest h = h

  module _ (is_reached : ℕ → Bool) where
    abbrev reached_stops : ℕ → Forest (Keyed L) → List Stop
    reached_stops d g = stops_of is_element d (reached is_reached (all_kept g))

    -- the stops of the first tree
    abbrev stops_first : ℕ → Keyed L → (c r : Forest (Keyed L)) → List Stop
    stops_first d n c r = first_stops is_element is_reached d n (all_kept c) (all_kept r)

    parts : (d : ℕ) (n : Keyed L) (c r : Forest (Keyed L)) → reached_stops d (Tree n c r) ≡ stops_first d n c r ++ reached_stops d r
    parts d n c r = stops-first is_element is_reached d n (all_kept c) (all_kept r)

    not-into : (k d : ℕ) (g : Forest (Keyed L)) → times k g ≡ 0 → IsNotInto k (reached_stops d g)
    not-into k d Empty none = tt
    not-into k d (Tree n c r) none =
        subst (IsNotInto k) (sym (parts d n c r))
        (not-into-first d n (first_element is_element (old_of (all_kept r))) (reached_stops (suc d) c) k (other-key n c r k none) (is_reached n.key) (has_place (reached is_reached (all_kept c)))
        (reached_stops d r) (not-into k d r (omega (arith, none))))

    nowhere : (d : ℕ) (g : Forest (Keyed L)) → ((k : ℕ) → is_reached k ≡ true → times k g ≡ 0) → reached_stops d g ≡ []
    nowhere d g none = ap (stops_of is_element d) (none-reached is_reached g none) ∙ stops-all_kept is_element d g

    -- where neither the node is reached nor one under it
    nowhere-first : (d : ℕ) (n : Keyed L) (c r : Forest (Keyed L)) → is_reached n.key ≡ false → ((k : ℕ) → is_reached k ≡ true → times k c ≡ 0) → stops_first d n c r ≡ []
    nowhere-first d n c r not none =
        let next : Option ℕ = first_element is_element (old_of (all_kept r)) in
        let place : has_place (reached is_reached (all_kept c)) ≡ false = ap has_place (none-reached is_reached c none) ∙ has_place-all_kept c in
        λ x. tree_stops is_element d n (not x) (place x) next (reached_stops (suc d) c)

    leads : (top : ℕ) → is_reached top ≡ true → (g : Forest (Keyed L)) → 0 < times top g → has_place (reached is_reached (all_kept g)) ≡ true
    leads top reaches Empty some = absurd (omega (arith, some))
    leads top reaches (Tree n c r) some =
        let here : Bool → Bool → Bool → Bool = λ a b c. cond a true (b || c) in
        place-first is_element is_reached n (all_kept c) (all_kept r)
        ∙ elim (some_or_none (times top c)) [
          | inr below ↦ ap (λ b. here (is_reached n.key) b (has_place (reached is_reached (all_kept r)))) (leads top reaches c below) ∙ whatever (is_reached n.key)
          | inl none ↦ elim (some_or_none (times top r)) [
            | inr beside ↦ ap (here (is_reached n.key) (has_place (reached is_reached (all_kept c)))) (leads top reaches r beside) ∙ last (is_reached n.key) (has_place (reached is_reached (all_kept c)))
            | inl never ↦
                let is : (n.key == top) ≡ true = only (n.key == top) (times top c) (times top r) none never some in
                ap (λ b. here b (has_place (reached is_reached (all_kept c))) (has_place (reached is_reached (all_kept r)))) (ap is_reached (eqb-true n.key top is) ∙ reaches)
          ]
        ]
      where
        whatever : (a : Bool) → cond a true true ≡ true
        whatever true = refl
        whatever false = refl

        last : (a b : Bool) → cond a true (b || true) ≡ true
        last true b = refl
        last false true = refl
        last false false = refl

        only : (b : Bool) (k l : ℕ) → k ≡ 0 → l ≡ 0 → 0 < cond {A = ℕ} b 1 0 + (k + l) → b ≡ true
        only true k l none never some = refl
        only false k l none never some = absurd (omega (arith, none, never, some))

    -- where the node isn't reached, but one under it, and none behind it
    into-first : (d : ℕ) (n : Keyed L) (c r : Forest (Keyed L)) → is_reached n.key ≡ false → has_place (reached is_reached (all_kept c)) ≡ true → ((k : ℕ) → is_reached k ≡ true → times k r ≡ 0)
        → reached_stops d (Tree n c r) ≡ tree_stops is_element d n false true (first_element is_element (old_of (all_kept r))) (reached_stops (suc d) c)
    into-first d n c r not place none =
        let next : Option ℕ = first_element is_element (old_of (all_kept r)) in
        parts d n c r ∙ (λ x. tree_stops is_element d n (not x) (place x) next (reached_stops (suc d) c) ++ nowhere d r none x)
        ∙ append-nil (tree_stops is_element d n false true next (reached_stops (suc d) c))

  -- where two tests say the same of all nodes
  module _ (is_reached others : ℕ → Bool) where
    same-reached : (g : Forest (Keyed L)) → ((k : ℕ) → 0 < times k g → is_reached k ≡ others k) → reached is_reached (all_kept g) ≡ reached others (all_kept g)
    same-reached Empty same = refl
    same-reached (Tree n c r) same =
        let here = same n.key (omega (arith, root-counted n c r)) in
        let below = same-reached c (λ k some. same k (omega (arith, some))) in
        let beside = same-reached r (λ k some. same k (omega (arith, some))) in
        λ x. cond (here x) (Gone n (old_of (all_kept c)) (Come n (new_of (all_kept c)) (beside x))) (Kept n (below x) (beside x))

    same-where : (d : ℕ) (g : Forest (Keyed L)) → ((k : ℕ) → 0 < times k g → is_reached k ≡ others k) → reached_stops is_reached d g ≡ reached_stops others d g
    same-where d g same = ap (stops_of is_element d) (same-reached g same)

    same-first : (d : ℕ) (n : Keyed L) (c r : Forest (Keyed L)) → is_reached n.key ≡ others n.key → ((k : ℕ) → 0 < times k c → is_reached k ≡ others k)
        → stops_first is_reached d n c r ≡ stops_first others d n c r
    same-first d n c r here same =
        let below = same-reached c same in
        λ x. tree_stops is_element d n (here x) (has_place (below x)) (first_element is_element (old_of (all_kept r))) (stops_of is_element (suc d) (below x))

-- Two nodes.

less-zero : (k : ℕ) → nat_lt 0 (suc k) ≡ true
less-zero k = grind (arith, nat_tests)

less-none : (k : ℕ) → nat_lt (suc k) 0 ≡ false
less-none k = grind (arith, nat_tests)

less-suc : (a b : ℕ) → nat_lt (suc a) (suc b) ≡ nat_lt a b
less-suc a b = grind (arith, nat_tests)

none-suc : (k : ℕ) → (suc k == 0) ≡ false
none-suc k = grind (arith, nat_tests)

same-suc : (a b : ℕ) → (suc a == suc b) ≡ (a == b)
same-suc a b = grind (arith, nat_tests)

before-suc : (a b : ℕ) (p q : List ℕ) → is_before (suc a ∷ p) (suc b ∷ q) ≡ is_before (a ∷ p) (b ∷ q)
before-suc a b p q = let less = less-suc a b in let same = same-suc a b in λ x. cond (less x) true (cond (same x) (is_before p q) false)

first-before : (k : ℕ) (p q : List ℕ) → is_before (0 ∷ p) (suc k ∷ q) ≡ true
first-before k p q = ap (λ b. cond b true (cond (0 == suc k) (is_before p q) false)) (less-zero k)

first-behind : (k : ℕ) (p q : List ℕ) → is_before (suc k ∷ p) (0 ∷ q) ≡ false
first-behind k p q = let less = less-none k in let same = none-suc k in λ x. cond (less x) true (cond (same x) (is_before p q) false)

into-suc : (a b : ℕ) (p q : List ℕ) → leads_into (suc a ∷ p) (suc b ∷ q) ≡ leads_into (a ∷ p) (b ∷ q)
into-suc a b p q = ap (λ b. b && leads_into p q) (same-suc a b)

module _ (one other : ℕ) where
  abbrev is_one : ℕ → Bool
  is_one k = one == k

  abbrev is_other : ℕ → Bool
  is_other k = other == k

  abbrev is_either : ℕ → Bool
  is_either k = (one == k) || (other == k)

  module _ {L : Type 0} (is_element : L → Bool) where
    none-one : (g : Forest (Keyed L)) → times one g ≡ 0 → (k : ℕ) → is_one k ≡ true → times k g ≡ 0
    none-one g none k h = omega (arith, none, ap (λ q. times q g) (eqb-true one k h))

    none-other : (g : Forest (Keyed L)) → times other g ≡ 0 → (k : ℕ) → is_other k ≡ true → times k g ≡ 0
    none-other g none k h = omega (arith, none, ap (λ q. times q g) (eqb-true other k h))

    none-either : (g : Forest (Keyed L)) → times one g ≡ 0 → times other g ≡ 0 → (k : ℕ) → is_either k ≡ true → times k g ≡ 0
    none-either g none never k h = elim (either (one == k) (other == k) h) [ inl a ↦ none-one g none k a | inr b ↦ none-other g never k b ]

    -- where one of them stands elsewhere, only the other is looked for

    not-counted : (q k : ℕ) (g : Forest (Keyed L)) → times q g ≡ 0 → 0 < times k g → (q == k) ≡ false
    not-counted q k g none some = never-true (q == k) (λ h. absurd (omega (arith, none, some, ap (λ q. times q g) (eqb-true q k h))))

    or-false : (a b : Bool) → b ≡ false → (a || b) ≡ a
    or-false true b h = refl
    or-false false b h = h

    only-one : (g : Forest (Keyed L)) → times other g ≡ 0 → (k : ℕ) → 0 < times k g → is_either k ≡ is_one k
    only-one g none k some = or-false (one == k) (other == k) (not-counted other k g none some)

    only-other : (g : Forest (Keyed L)) → times one g ≡ 0 → (k : ℕ) → 0 < times k g → is_either k ≡ is_other k
    only-other g none k some = ap (λ a. a || (other == k)) (not-counted one k g none some)

    -- the stops where each of them is reached, or both
    abbrev ones : ℕ → Forest (Keyed L) → List Stop
    ones d g = reached_stops is_element is_one d g

    abbrev others : ℕ → Forest (Keyed L) → List Stop
    others d g = reached_stops is_element is_other d g

    abbrev both : ℕ → Forest (Keyed L) → List Stop
    both d g = reached_stops is_element is_either d g

    -- both stand under the first node
    under-first : (d : ℕ) (n : Keyed L) (c r : Forest (Keyed L)) (is_first : Bool) → HasDistinctKeys (Tree n c r) → 0 < times one c → 0 < times other c
        → both (suc d) c ≡ joined is_first (ones (suc d) c) (others (suc d) c) → both d (Tree n c r) ≡ joined is_first (ones d (Tree n c r)) (others d (Tree n c r))
    under-first d n c r is_first distinct some more below =
        let next : Option ℕ = first_element is_element (old_of (all_kept r)) in
        let from : Option ℕ = cond (is_element n.label) (Some n.key) next in
        let into : Stop = record { depth = d; link = Some n.key; way = Inside; from = from } in
        let not_one = (other-keys n c r one distinct some) in
        let not_other = (other-keys n c r other distinct more) in
        let last : times one r ≡ 0 = omega (arith, distinct one, some) in
        let never : times other r ≡ 0 = omega (arith, distinct other, more) in
        into-first is_element is_either d n c r (or_from (one == n.key) (other == n.key) not_one not_other) (leads is_element is_either one (or_left (one == one) (other == one) (eq-eqb one one refl)) c some) (none-either r last never)
        ∙ ap (λ stops. into ∷ stops) below
        ∙ sym (joined-common is_first into into (ones (suc d) c) (others (suc d) c) (eq-eqb n.key n.key refl))
        ∙ sym (ap₂ (joined is_first)
        (into-first is_element is_one d n c r not_one (leads is_element is_one one (eq-eqb one one refl) c some) (none-one r last))
        (into-first is_element is_other d n c r not_other (leads is_element is_other other (eq-eqb other other refl) c more) (none-other r never)))
      where
        other-keys : (n : Keyed L) (c r : Forest (Keyed L)) (q : ℕ) → HasDistinctKeys (Tree n c r) → 0 < times q c → (q == n.key) ≡ false
        other-keys n c r q distinct some = never-true (q == n.key) (λ h. absurd (omega (arith, some, distinct q, root-counted n c r, ap (λ q. times q (Tree n c r)) (eqb-true q n.key h), ap (λ q. times q c) (eqb-true q n.key h))))

    behind-root : (n : Keyed L) (c r : Forest (Keyed L)) (q : ℕ) → HasDistinctKeys (Tree n c r) → 0 < times q r → (q == n.key) ≡ false
    behind-root n c r q distinct some =
        never-true (q == n.key) (λ h. absurd (omega (arith, some, distinct q, root-counted n c r, ap (λ q. times q (Tree n c r)) (eqb-true q n.key h), ap (λ q. times q r) (eqb-true q n.key h))))

    -- the one stands in the first tree, and the other behind it
    one-first : (d : ℕ) (n : Keyed L) (c r : Forest (Keyed L)) → HasDistinctKeys (Tree n c r) → times one r ≡ 0 → 0 < times other r → both d (Tree n c r) ≡ joined true (ones d (Tree n c r)) (others d (Tree n c r))
    one-first d n c r distinct last more =
        let none : times other c ≡ 0 = omega (arith, distinct other, more) in
        let not : (other == n.key) ≡ false = behind-root n c r other distinct more in
        let once : times n.key r ≡ 0 = omega (arith, distinct n.key, root-counted n c r) in
        let firsts : List Stop = stops_first is_element is_one d n c r in
        parts is_element is_either d n c r
        ∙ ap₂ (λ (a b : List Stop). a ++ b) (same-first is_element is_either is_one d n c r (or-false (one == n.key) (other == n.key) not) (only-one c none)) (same-where is_element is_either is_other d r (only-other r last))
        ∙ sym (joined-apart true firsts (others d r)
        (apart-before is_element d n (first_element is_element (old_of (all_kept r))) (ones (suc d) c) (one == n.key) (has_place (reached is_one (all_kept c))) (others d r) (not-into is_element is_other n.key d r once)))
        ∙ sym (ap₂ (joined true)
        (parts is_element is_one d n c r ∙ ap (λ rest. firsts ++ rest) (nowhere is_element is_one d r (none-one r last)) ∙ append-nil firsts)
        (parts is_element is_other d n c r ∙ ap (λ first. first ++ others d r) (nowhere-first is_element is_other d n c r not (none-other c none))))

    -- the other way round
    other-first : (d : ℕ) (n : Keyed L) (c r : Forest (Keyed L)) → HasDistinctKeys (Tree n c r) → 0 < times one r → times other r ≡ 0 → both d (Tree n c r) ≡ joined false (ones d (Tree n c r)) (others d (Tree n c r))
    other-first d n c r distinct some never =
        let none : times one c ≡ 0 = omega (arith, distinct one, some) in
        let not : (one == n.key) ≡ false = behind-root n c r one distinct some in
        let once : times n.key r ≡ 0 = omega (arith, distinct n.key, root-counted n c r) in
        let firsts : List Stop = stops_first is_element is_other d n c r in
        parts is_element is_either d n c r
        ∙ ap₂ (λ (a b : List Stop). a ++ b) (same-first is_element is_either is_other d n c r (ap (λ a. a || (other == n.key)) not) (only-other c none)) (same-where is_element is_either is_one d r (only-one r never))
        ∙ sym (joined-apart false (ones d r) firsts
        (apart-behind is_element d n (first_element is_element (old_of (all_kept r))) (others (suc d) c) (other == n.key) (has_place (reached is_other (all_kept c))) (ones d r) (not-into is_element is_one n.key d r once)))
        ∙ sym (ap₂ (joined false)
        (parts is_element is_one d n c r ∙ ap (λ first. first ++ ones d r) (nowhere-first is_element is_one d n c r not (none-one c none)))
        (parts is_element is_other d n c r ∙ ap (λ rest. firsts ++ rest) (nowhere is_element is_other d r (none-other r never)) ∙ append-nil firsts))

    -- both stand behind the first tree
    both-behind : (d : ℕ) (n : Keyed L) (c r : Forest (Keyed L)) (is_first : Bool) → HasDistinctKeys (Tree n c r) → 0 < times one r → 0 < times other r
        → both d r ≡ joined is_first (ones d r) (others d r) → both d (Tree n c r) ≡ joined is_first (ones d (Tree n c r)) (others d (Tree n c r))
    both-behind d n c r is_first distinct some more beside =
        let none : times one c ≡ 0 = omega (arith, distinct one, some) in
        let never : times other c ≡ 0 = omega (arith, distinct other, more) in
        let not_one = behind-root n c r one distinct some in
        let not_other = behind-root n c r other distinct more in
        parts is_element is_either d n c r
        ∙ ap (λ first. first ++ both d r) (nowhere-first is_element is_either d n c r (ap (λ a. a || (other == n.key)) not_one ∙ not_other) (none-either c none never))
        ∙ beside
        ∙ sym (ap₂ (joined is_first)
        (parts is_element is_one d n c r ∙ ap (λ first. first ++ ones d r) (nowhere-first is_element is_one d n c r not_one (none-one c none)))
        (parts is_element is_other d n c r ∙ ap (λ first. first ++ others d r) (nowhere-first is_element is_other d n c r not_other (none-other c never))))

    -- what stands in the first tree stands in none after it
    first-there : (n : Keyed L) (c r : Forest (Keyed L)) (path : List ℕ) (q : ℕ) → HasDistinctKeys (Tree n c r) → first_key (on_path path (Tree n c r)) ≡ Some q → times q r ≡ 0
    first-there n c r [] q distinct at = omega (arith, distinct n.key, root-counted n c r, ap (λ (k : ℕ). times k r) (same_Some n.key q at))
    first-there n c r (a ∷ path) q distinct at = omega (arith, distinct q, path-counted c a path q at)

    -- two paths, of which neither leads into the other
    pub apart-stops : (d i j : ℕ) (p q : List ℕ) (g : Forest (Keyed L)) → HasDistinctKeys g → first_key (on_path p (trees_from i g)) ≡ Some one → first_key (on_path q (trees_from j g)) ≡ Some other
        → leads_into (i ∷ p) (j ∷ q) ≡ false → leads_into (j ∷ q) (i ∷ p) ≡ false → both d g ≡ joined (is_before (i ∷ p) (j ∷ q)) (ones d g) (others d g)
    apart-stops d i j p q Empty distinct at_one at_other out away = nothing-there L p i one at_one
    apart-stops d zero zero [] q (Tree n c r) distinct at_one at_other out away = absurd (cc out)
    apart-stops d zero zero (a ∷ p) [] (Tree n c r) distinct at_one at_other out away = absurd (cc away)
    apart-stops d zero zero (a ∷ p) (b ∷ q) (Tree n c r) distinct at_one at_other out away =
        under-first d n c r (is_before (a ∷ p) (b ∷ q)) distinct (path-counted c a p one at_one) (path-counted c b q other at_other)
        (apart-stops (suc d) a b p q c (distinct-parts n c r distinct).0 at_one at_other out away)
    apart-stops d zero (suc j) p q (Tree n c r) distinct at_one at_other out away =
        let more : 0 < times other r = path-counted r j q other at_other in
        one-first d n c r distinct (first-there n c r p one distinct at_one) more ∙ ap (λ b. joined b (ones d (Tree n c r)) (others d (Tree n c r))) (sym (first-before j p q))
    apart-stops d (suc i) zero p q (Tree n c r) distinct at_one at_other out away =
        let some : 0 < times one r = path-counted r i p one at_one in
        other-first d n c r distinct some (first-there n c r q other distinct at_other) ∙ ap (λ b. joined b (ones d (Tree n c r)) (others d (Tree n c r))) (sym (first-behind i p q))
    apart-stops d (suc i) (suc j) p q (Tree n c r) distinct at_one at_other out away =
        both-behind d n c r (is_before (i ∷ p) (j ∷ q)) distinct (path-counted r i p one at_one) (path-counted r j q other at_other)
        (apart-stops d i j p q r (distinct-parts n c r distinct).1 at_one at_other (sym (into-suc i j p q) ∙ out) (sym (into-suc j i q p) ∙ away))
        ∙ ap (λ b. joined b (ones d (Tree n c r)) (others d (Tree n c r))) (sym (before-suc i j p q))
