-- The stops of a tree that goes and of one that comes are those of each, joined. Throughout, d is a depth, n a node, c
-- what is under it, r what is after it, and m a merge.
use Rattle.std.proofs.Common.{◌≡◌, ◌==◌, ◌&&◌, ◌<◌, ℕ, zero, suc, Bool, true, false, cond, List, [], ◌∷◌, ◌++◌, Option, Some, None, refl, sym, ap, subst, ◌∙◌, inl, inr, arith, append-nil, eq-eqb, eqb-true}
use Rattle.std.specs.Prelude.{nat_eq}
use Rattle.std.specs.Option.{option_eq}
use Rattle.std.proofs.lemmas.Bool.{and_right, both_ways, cases_Bool}
use Rattle.std.proofs.lemmas.Bool.Decides.{nat_tests}
use Rattle.forest.specs.Forest.{Forest}
use Rattle.forest.specs.Keys.{Keyed, HasDistinctKeys, times}
use Rattle.forest.specs.Spots.{first_key}
use Rattle.forest.proofs.SpotLaws.{distinct-parts, root-once}
use Rattle.merged_walk.specs.declared.stop.Stop.{Stop}
use Rattle.merged_walk.specs.declared.stop.Way.TheVariants.{Past, Inside, Anew}
use Rattle.merged_walk.specs.Merges.{Merge, End, Kept, Turned, Gone, Come, all_kept, old_of, new_of, has_place}
use Rattle.merged_walk.specs.Stops.{first_element, is_inside, stop_at, stops_of}
use Rattle.merged_walk.specs.EditStops.{is_common, joined}
use Rattle.merged_walk.proofs.MergeLaws.{has_place-all_kept}
use Rattle.merged_walk.proofs.StopLaws.{stops-beside, stops-kept, stops-none, stops-under}
use Rattle.merged_walk.proofs.ShallowStops.{first_stop}
use Rattle.merged_walk.proofs.JoinWords.{InOrder, begins_with_come, by_counts, comes-with, comes_count, first-without, goes-without, goes_count, gone_first, no-place, no-place_with, no-place_without, old-with, old-without, place-weighed, with-none, with_gone, without-none, without_come}

link-turned : (a b : Option ℕ) → option_eq nat_eq a b ≡ option_eq nat_eq b a
link-turned None None = refl
link-turned None (Some b) = refl
link-turned (Some a) None = refl
link-turned (Some a) (Some b) = grind (arith, nat_tests)

both-turned : (x y l k : Bool) → l ≡ k → (x && (y && l)) ≡ (y && (x && k))
both-turned true true l k h = h
both-turned true false l k h = refl
both-turned false true l k h = refl
both-turned false false l k h = refl

common-turned : (x y : Stop) → is_common x y ≡ is_common y x
common-turned x y = both-turned (is_inside x.way) (is_inside y.way) (option_eq nat_eq x.link y.link) (option_eq nat_eq y.link x.link) (link-turned x.link y.link)

-- lists whose first stops are not the same are put one behind the other
joined-apart : (b : Bool) (xs ys : List Stop)
    → ((x : Stop) (later : List Stop) (y : Stop) (others : List Stop) → xs ≡ x ∷ later → ys ≡ y ∷ others → is_common x y ≡ false) → joined b xs ys ≡ cond b (xs ++ ys) (ys ++ xs)
joined-apart true [] ys h = refl
joined-apart false [] ys h = sym (append-nil ys)
joined-apart true (x ∷ xs) [] h = sym (append-nil (x ∷ xs))
joined-apart false (x ∷ xs) [] h = refl
joined-apart b (x ∷ xs) (y ∷ ys) h = ap (λ t. cond t (x ∷ joined b xs ys) (cond b ((x ∷ xs) ++ (y ∷ ys)) ((y ∷ ys) ++ (x ∷ xs)))) (h x xs y ys refl refl)

-- a common first stop stands once
joined-common : (b : Bool) (s : Stop) (k : ℕ) (xs ys : List Stop) → is_inside s.way ≡ true → s.link ≡ Some k → joined b (s ∷ xs) (s ∷ ys) ≡ s ∷ joined b xs ys
joined-common b s k xs ys inside link =
    let common : is_common s s ≡ true = ap (λ t. t && (t && option_eq nat_eq s.link s.link)) inside ∙ ap (λ l. option_eq nat_eq l l) link ∙ eq-eqb k k refl in
    ap (λ t. cond t (s ∷ joined b xs ys) (cond b ((s ∷ xs) ++ (s ∷ ys)) ((s ∷ ys) ++ (s ∷ xs)))) common

module _ {L : Type 0} (is_element : L → Bool) where
  -- a stop links to one of the new nodes of a level
  record LinksInto (stop : Stop) (m : Merge L) : Type 0 where
    pub key : ℕ
    pub link : stop.link ≡ Some key
    pub there : 0 < times key (new_of m)

  links-root : (n : Keyed L) (c r : Merge L) (stop it : Stop) → stop ≡ it → it.link ≡ Some n.key → LinksInto stop (Kept n c r)
  links-root n c r stop it is link =
      record { key = n.key; link = ap (λ (s : Stop). s.link) is ∙ link; there = rw (eq-eqb n.key n.key refl) (omega arith) }

  links-beside : (n : Keyed L) (c r : Merge L) (stop : Stop) → LinksInto stop r → LinksInto stop (Kept n c r)
  links-beside n c r stop later = record { key = later.key; link = later.link; there = omega (arith, later.there) }

  no-stop : (stop : Stop) (stops : List Stop) → stop ∷ stops ≡ [] → ⊥
  no-stop stop stops is = cc

  other-way : (stop it : Stop) → stop ≡ it → is_inside it.way ≡ false → is_inside stop.way ≡ true → ⊥
  other-way stop it is outside inside = both_ways (is_inside stop.way) (ap (λ (s : Stop). is_inside s.way) is ∙ outside) inside

  links-kept : (d : ℕ) (n : Keyed L) (c r c' r' : Merge L) (stop : Stop) (stops : List Stop)
      → stop ∷ stops ≡ stops_of is_element d (Kept n c' r') → (stop ∷ stops ≡ stops_of is_element d r' → LinksInto stop r) → LinksInto stop (Kept n c r)
  links-kept d n c r c' r' stop stops is rest = elim (cases_Bool (has_place c')) [
    | inl some ↦ links-root n c r stop (stop_at is_element d Inside (Kept n c' r')) (ap (first_stop stop) (is ∙ stops-kept is_element d n c' r' some)) refl
    | inr none ↦ links-beside n c r stop (rest (is ∙ stops-beside is_element d n c' r' none))
  ]

  -- the first stop of a level without one of the two trees links to a new node of the level, where it leads into a node
  links-with : (d : ℕ) (m : Merge L) → InOrder m → (stop : Stop) (stops : List Stop) → stop ∷ stops ≡ stops_of is_element d (with_gone m) → is_inside stop.way ≡ true → LinksInto stop m
  links-with d End f stop stops is h = absurd (no-stop stop stops is)
  links-with d (Kept n c r) f stop stops is h = links-kept d n c r (with_gone c) (with_gone r) stop stops is (λ is. links-with d r f.1 stop stops is h)
  links-with d (Turned was n c r) f stop stops is h = absurd f
  links-with d (Gone n c r) f stop stops is h =
      let rest = links-with d r f.1 stop stops (is ∙ stops-beside is_element d n (all_kept c) (with_gone r) (has_place-all_kept c)) h in
      record { key = rest.key; link = rest.link; there = rest.there }
  links-with d (Come n c r) f stop stops is h = absurd (other-way stop (stop_at is_element d Anew (Come n c (with_gone r))) (ap (first_stop stop) is) refl h)

  links-without : (d : ℕ) (m : Merge L) → InOrder m → (stop : Stop) (stops : List Stop) → stop ∷ stops ≡ stops_of is_element d (without_come m) → is_inside stop.way ≡ true → LinksInto stop m
  links-without d End f stop stops is h = absurd (no-stop stop stops is)
  links-without d (Kept n c r) f stop stops is h = links-kept d n c r (without_come c) (without_come r) stop stops is (λ is. links-without d r f.1 stop stops is h)
  links-without d (Turned was n c r) f stop stops is h = absurd f
  links-without d (Gone n c r) f stop stops is h = absurd (other-way stop (stop_at is_element d Past (Gone n c (without_come r))) (ap (first_stop stop) is) refl h)
  links-without d (Come n c r) f stop stops is h =
      let later = links-without d r f stop stops is h in record { key = later.key; link = later.link; there = omega (arith, later.there) }

  uncommon-if : (a : Stop) (n : Keyed L) (m : Merge L) → a.link ≡ Some n.key → times n.key (new_of m) ≡ 0 → (s : Stop) (b : Bool) → (b ≡ true → LinksInto s m)
      → (is_inside a.way && (b && option_eq nat_eq a.link s.link)) ≡ false
  uncommon-if a n m link none s false links = and_right (is_inside a.way) false refl
  uncommon-if a n m link none s true links =
      let its = links refl in
      let differ : (n.key == its.key) ≡ false = elim (cases_Bool (n.key == its.key)) [
        | inl same ↦ absurd (let never : times its.key (new_of m) ≡ 0 = subst (λ k. times k (new_of m) ≡ 0) (eqb-true n.key its.key same) none in omega (arith, never, its.there))
        | inr other ↦ other
      ] in
      ap (λ l. is_inside a.way && option_eq nat_eq l s.link) link ∙ ap (λ l. is_inside a.way && option_eq nat_eq (Some n.key) l) its.link
      ∙ and_right (is_inside a.way) (n.key == its.key) differ

  -- a stop into a node isn't the first one of its later siblings
  uncommon : (a : Stop) (n : Keyed L) (m : Merge L) → a.link ≡ Some n.key → times n.key (new_of m) ≡ 0 → (s : Stop) → (is_inside s.way ≡ true → LinksInto s m) → is_common a s ≡ false
  uncommon a n m link none s links = uncommon-if a n m link none s (is_inside s.way) links

  -- The law, by where the two trees stand.

  abbrev Joins : ℕ → Merge L → Type 0
  Joins d m = stops_of is_element d m ≡ joined (gone_first m) (stops_of is_element d (without_come m)) (stops_of is_element d (with_gone m))

  joins-by : (d : ℕ) (m : Merge L) (b : Bool) (all one other : List Stop) → stops_of is_element d m ≡ all → gone_first m ≡ b
      → stops_of is_element d (without_come m) ≡ one → stops_of is_element d (with_gone m) ≡ other → all ≡ joined b one other → Joins d m
  joins-by d m b all one other whole first without with joins = whole ∙ joins ∙ sym (λ y. joined (first y) (without y) (with y))

  -- with the same old trees after it the stop into a node is the same
  same-stop : (d : ℕ) (n : Keyed L) (c r c' r' : Merge L) → old_of r' ≡ old_of r → stop_at is_element d Inside (Kept n c' r') ≡ stop_at is_element d Inside (Kept n c r)
  same-stop d n c r c' r' h = ap (λ g. record { depth = d; link = Some n.key; way = Inside; from = cond (is_element n.label) (Some n.key) (first_element is_element g) }) h

  under-first : (d : ℕ) (n : Keyed L) (c r c' r' : Merge L) → has_place c' ≡ true → has_place r' ≡ false → old_of r' ≡ old_of r
      → stops_of is_element d (Kept n c' r') ≡ stop_at is_element d Inside (Kept n c r) ∷ stops_of is_element (suc d) c'
  under-first d n c r c' r' some none same = stops-under is_element d n c' r' some none ∙ ap (λ s. s ∷ stops_of is_element (suc d) c') (same-stop d n c r c' r' same)

  joins-both : (d : ℕ) (n : Keyed L) (c r : Merge L) → InOrder r → goes_count c ≡ 1 → comes_count c ≡ 1 → goes_count r ≡ 0 → comes_count r ≡ 0 → Joins (suc d) c
      → gone_first (Kept n c r) ≡ gone_first c → Joins d (Kept n c r)
  joins-both d n c r f g k gr kr below first =
      let s = stop_at is_element d Inside (Kept n c r) in
      let place : has_place c ≡ true = place-weighed (λ _. 1) (λ _. 0) c (omega (arith, g)) in
      let goes : has_place (without_come c) ≡ true = place-weighed (λ _. 1) (λ _. 0) (without_come c) (omega (arith, g, goes-without c)) in
      let comes : has_place (with_gone c) ≡ true = place-weighed (λ _. 0) (λ _. 1) (with_gone c) (omega (arith, k, comes-with c)) in
      let one = stops_of is_element (suc d) (without_come c) in
      let other = stops_of is_element (suc d) (with_gone c) in
      joins-by d (Kept n c r) (gone_first c) (s ∷ stops_of is_element (suc d) c) (s ∷ one) (s ∷ other) (stops-under is_element d n c r place (no-place r f gr kr)) first
      (under-first d n c r (without_come c) (without_come r) goes (no-place_without r f gr) (old-without r))
      (under-first d n c r (with_gone c) (with_gone r) comes (no-place_with r f kr) (old-with r))
      (ap (λ inside. s ∷ inside) below ∙ sym (joined-common (gone_first c) s n.key one other refl refl))

  joins-gone : (d : ℕ) (n : Keyed L) (c r : Merge L) → InOrder c → InOrder r → goes_count c ≡ 1 → comes_count c ≡ 0 → goes_count r ≡ 0 → HasDistinctKeys (new_of (Kept n c r))
      → gone_first (Kept n c r) ≡ true → Joins d (Kept n c r)
  joins-gone d n c r fc f g k gr distinct first =
      let s = stop_at is_element d Inside (Kept n c r) in
      let place : has_place c ≡ true = place-weighed (λ _. 1) (λ _. 0) c (omega (arith, g)) in
      let same = without-none c k in
      let goes : has_place (without_come c) ≡ true = ap has_place same ∙ place in
      let one = s ∷ stops_of is_element (suc d) c in
      let other = stops_of is_element d r in
      let behind = with-none r gr in
      joins-by d (Kept n c r) true (one ++ other) one other (stops-kept is_element d n c r place) first
      (under-first d n c r (without_come c) (without_come r) goes (no-place_without r f gr) (old-without r) ∙ ap (λ c. s ∷ stops_of is_element (suc d) c) same)
      (stops-beside is_element d n (with_gone c) (with_gone r) (no-place_with c fc k) ∙ ap (stops_of is_element d) behind)
      (sym (joined-apart true one other
      (λ x xs y ys ex ey. uncommon x n r (sym (ap (λ (s : Stop). s.link) (ap (first_stop x) ex))) (root-once n (new_of c) (new_of r) distinct).1 y
      (λ h. links-with d r f y ys (sym ey ∙ sym (ap (stops_of is_element d) behind)) h))))

  joins-come : (d : ℕ) (n : Keyed L) (c r : Merge L) → InOrder c → InOrder r → goes_count c ≡ 0 → comes_count c ≡ 1 → comes_count r ≡ 0 → HasDistinctKeys (new_of (Kept n c r))
      → gone_first (Kept n c r) ≡ false → Joins d (Kept n c r)
  joins-come d n c r fc f g k kr distinct first =
      let s = stop_at is_element d Inside (Kept n c r) in
      let place : has_place c ≡ true = place-weighed (λ _. 0) (λ _. 1) c (omega (arith, k)) in
      let same = with-none c g in
      let comes : has_place (with_gone c) ≡ true = ap has_place same ∙ place in
      let one = stops_of is_element d r in
      let other = s ∷ stops_of is_element (suc d) c in
      let behind = without-none r kr in
      joins-by d (Kept n c r) false (other ++ one) one other (stops-kept is_element d n c r place) first
      (stops-beside is_element d n (without_come c) (without_come r) (no-place_without c fc g) ∙ ap (stops_of is_element d) behind)
      (under-first d n c r (with_gone c) (with_gone r) comes (no-place_with r f kr) (old-with r) ∙ ap (λ c. s ∷ stops_of is_element (suc d) c) same)
      (sym (joined-apart false one other
      (λ x xs y ys ex ey. common-turned x y ∙ uncommon y n r (sym (ap (λ (s : Stop). s.link) (ap (first_stop y) ey))) (root-once n (new_of c) (new_of r) distinct).1 x
      (λ h. links-without d r f x xs (sym ex ∙ sym (ap (stops_of is_element d) behind)) h))))

  joins-beside : (d : ℕ) (n : Keyed L) (c r : Merge L) → InOrder c → goes_count c ≡ 0 → comes_count c ≡ 0 → Joins d r → gone_first (Kept n c r) ≡ gone_first r → Joins d (Kept n c r)
  joins-beside d n c r f g k beside first =
      joins-by d (Kept n c r) (gone_first r) (stops_of is_element d r) (stops_of is_element d (without_come r)) (stops_of is_element d (with_gone r))
      (stops-beside is_element d n c r (no-place c f g k)) first (stops-beside is_element d n (without_come c) (without_come r) (no-place_without c f g))
      (stops-beside is_element d n (with_gone c) (with_gone r) (no-place_with c f k)) beside

  joins-at_gone : (d : ℕ) (n : Keyed L) (c : Forest (Keyed L)) (r : Merge L) → InOrder r → goes_count r ≡ 0 → begins_with_come r ≡ false → Joins d (Gone n c r)
  joins-at_gone d n c r f g begins =
      let s = stop_at is_element d Past (Gone n c r) in
      joins-by d (Gone n c r) true (s ∷ stops_of is_element d r) (s ∷ []) (stops_of is_element d r) refl refl
      (ap (λ after. stop_at is_element d Past (Gone n c (without_come r)) ∷ after) (stops-none is_element d (without_come r) (no-place_without r f g))
      ∙ ap (λ l. record { depth = d; link = l; way = Past; from = cond (is_element n.label) (Some n.key) (first_element is_element (old_of (without_come r))) } ∷ []) (first-without r begins g)
      ∙ ap (λ o. record { depth = d; link = first_key (new_of r); way = Past; from = cond (is_element n.label) (Some n.key) (first_element is_element o) } ∷ []) (old-without r))
      (stops-beside is_element d n (all_kept c) (with_gone r) (has_place-all_kept c) ∙ ap (stops_of is_element d) (with-none r g))
      (sym (joined-apart true (s ∷ []) (stops_of is_element d r) (λ x xs y ys ex ey. ap (λ (x : Stop). is_common x y) (sym (ap (first_stop s) ex)))))

  joins-at_come : (d : ℕ) (n : Keyed L) (c : Forest (Keyed L)) (r : Merge L) → InOrder r → comes_count r ≡ 0 → Joins d (Come n c r)
  joins-at_come d n c r f k =
      let s = stop_at is_element d Anew (Come n c r) in
      joins-by d (Come n c r) false (s ∷ stops_of is_element d r) (stops_of is_element d r) (s ∷ []) refl refl
      (ap (stops_of is_element d) (without-none r k))
      (ap (λ after. stop_at is_element d Anew (Come n c (with_gone r)) ∷ after) (stops-none is_element d (with_gone r) (no-place_with r f k))
      ∙ ap (λ o. record { depth = d; link = Some n.key; way = Anew; from = first_element is_element o } ∷ []) (old-with r))
      (sym (joined-apart false (stops_of is_element d r) (s ∷ []) (λ x xs y ys ex ey. ap (is_common x) (sym (ap (first_stop s) ey)) ∙ and_right (is_inside x.way) false refl)))

  joins-kept : (d : ℕ) (n : Keyed L) (c r : Merge L) (goes comes : ℕ) → goes_count c ≡ goes → comes_count c ≡ comes
      → goes_count (Kept n c r) ≡ 1 → comes_count (Kept n c r) ≡ 1 → InOrder (Kept n c r) → HasDistinctKeys (new_of (Kept n c r))
      → (goes_count c ≡ 1 → comes_count c ≡ 1 → InOrder c → HasDistinctKeys (new_of c) → Joins (suc d) c)
      → (goes_count r ≡ 1 → comes_count r ≡ 1 → InOrder r → HasDistinctKeys (new_of r) → Joins d r)
      → Joins d (Kept n c r)
  joins-kept d n c r goes comes gc kc g k f h below beside = cases goes comes gc kc (λ y. by_counts (gc y) (kc y) (gone_first c) (gone_first r))
    where
      cases : (goes comes : ℕ) → goes_count c ≡ goes → comes_count c ≡ comes → gone_first (Kept n c r) ≡ by_counts goes comes (gone_first c) (gone_first r) → Joins d (Kept n c r)
      cases zero zero gc kc first =
          joins-beside d n c r f.0 gc kc (beside (omega (arith, g, gc)) (omega (arith, k, kc)) f.1 (distinct-parts n (new_of c) (new_of r) h).1) first
      cases zero (suc comes) gc kc first = joins-come d n c r f.0 f.1 gc (omega (arith, k, kc)) (omega (arith, k, kc)) h first
      cases (suc goes) zero gc kc first = joins-gone d n c r f.0 f.1 (omega (arith, g, gc)) kc (omega (arith, g, gc)) h first
      cases (suc goes) (suc comes) gc kc first =
          joins-both d n c r f.1 (omega (arith, g, gc)) (omega (arith, k, kc)) (omega (arith, g, gc)) (omega (arith, k, kc))
          (below (omega (arith, g, gc)) (omega (arith, k, kc)) f.0 (distinct-parts n (new_of c) (new_of r) h).0) first

  -- the stops of a tree that goes and of one that comes are those of each, joined
  pub joins : (d : ℕ) (m : Merge L) → goes_count m ≡ 1 → comes_count m ≡ 1 → InOrder m → HasDistinctKeys (new_of m) → Joins d m
  joins d End g k f h = absurd (omega (arith, g))
  joins d (Kept n c r) g k f h = joins-kept d n c r (goes_count c) (comes_count c) refl refl g k f h (joins (suc d) c) (joins d r)
  joins d (Turned was n c r) g k f h = absurd f
  joins d (Gone n c r) g k f h = joins-at_gone d n c r f.1 (omega (arith, g)) f.0
  joins d (Come n c r) g k f h = joins-at_come d n c r f (omega (arith, k))
