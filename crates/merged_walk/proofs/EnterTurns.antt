-- The turns in which a walk enters an element. Throughout, e is an evaluator, bs are the open nodes, i is what the
-- level is handed and j what it was handed, n a node, c what is under it, and r what is after it.
use Rattle.std.proofs.Common.{◌≡◌, ◌+◌, ◌≤◌, ◌||◌, ℕ, suc, Bool, true, false, cond, List, ◌∷◌, ◌++◌, length, Option, refl, sym, ap, subst, ◌∙◌, inl, inr, arith, append_assoc}
use Rattle.std.specs.Prelude.{not}
use Rattle.forest.specs.Forest.{Forest, Empty, size}
use Rattle.forest.specs.Keys.{Keyed, HasDistinctKeys}
use Rattle.forest.proofs.SpotLaws.{distinct-parts}
use Rattle.merged_walk.specs.declared.stop.Stop.{Stop}
use Rattle.merged_walk.specs.declared.stop.Way.TheVariants.{Inside, Anew}
use Rattle.merged_walk.specs.Merges.{Merge, Kept, Turned, Come, old_of, new_of, all_come, has_place}
use Rattle.merged_walk.specs.Stops.{places_ahead, stop_at, stops_of}
use Rattle.merged_walk.specs.Evaluators.{Evaluator, told, past_all, told_all}
use Rattle.merged_walk.specs.Entries.{Holds}
use Rattle.merged_walk.specs.Counts.{anew_count}
use Rattle.merged_walk.specs.Walks.{GoesOn, IsFresh, Open, State, Walks, anew_behind, anew_left, is_fresh, level_stops, news, news_behind, olds, olds_behind, stops_behind}
use Rattle.merged_walk.specs.WalkTurns.{IsTaken}
use Rattle.merged_walk.proofs.MergeLaws.{all_come-new, from_place-fresh, new-all_come, old-all_come}
use Rattle.merged_walk.proofs.StopLaws.{stops-none}
use Rattle.merged_walk.proofs.CountLaws.{anew-all_come, come-all_come}
use Rattle.merged_walk.proofs.TurnLists.{fewer, fewer_places, regroup, rest_is, take_fresh, take_inside}

-- a walk stands here
abbrev pub standing : {L K H : Type 0} → List (Open L H) → (i j : H) → Merge L → List Stop → List (ℕ × K) → ℕ → State L K H
standing bs i j here stops changes spent =
    record { above = bs; handed = i; was_handed = j; here = here; stops = stops; changes = changes; spent = spent }

module _ {L : Type 0} where
  abbrev behind_come : Merge L → Merge L
  behind_come (Come n c r) = r
  behind_come m = m

  pub fresh-after : (b : Bool) (n : Keyed L) (c : Forest (Keyed L)) (r : Merge L) → IsFresh b (Come n c r) → IsFresh b r
  fresh-after true n c r h = ap behind_come h
  fresh-after false n c r h = tt

module _ {L K H : Type 0} (e : Evaluator L K H) (held : ℕ → Option K) (all : List (ℕ × K)) (most : ℕ) where
  module _ (bs : List (Open L H)) (i j : H) (stops later : List Stop) (changes : List (ℕ × K)) (spent more : ℕ) where
    pub keeps-entering : (n : Keyed L) (c r : Merge L)
        → Walks e held all most (standing bs i j (Kept n c r) stops changes spent)
        → e.is_element n.label ≡ true
        → is_fresh bs ≡ false
        → (has_place c || not (e.is_same i j)) ≡ true
        → IsTaken (has_place c) (stop_at e.is_element (length bs) Inside (Kept n c r)) stops later
        → more ≤ spent + 3
        → let b : Open L H = record { node = n; was_node = n; handed = i; was_handed = j; fresh = false; after = r } in
        GoesOn e held all most (standing bs i j (Kept n c r) stops changes spent) (standing (b ∷ bs) (e.within n i) (e.within n j) c later changes more)
    keeps-entering n c r w element stays one taken few =
        let x = past_all e (e.within n i) (new_of c) in
        let y = past_all e (e.within n j) (old_of c) in
        let parts = distinct-parts n (new_of c) (new_of r) w.distinct in
        let some : cond {A = ℕ} (e.is_element n.label) (cond (has_place c || not (e.is_same i j)) 1 0) 0 ≡ 1 = rw (element, one) refl in
        let level : level_stops e.is_element bs (Kept n c r) ≡ stops_of e.is_element (length bs) (Kept n c r) = rw stays refl in
        let beside : level_stops e.is_element bs r ≡ stops_of e.is_element (length bs) r = rw stays refl in
        let stop = stop_at e.is_element (length bs) Inside (Kept n c r) in
        let fewer_stops = fewer (has_place c) stop stops later taken in (
          record {
            done = w.done;
            split = w.split ∙ ap (λ rest. w.done ++ rest) (regroup (told_all e (e.within n i) (new_of c)) (told e n i x) _ _);
            covered = w.covered;
            among = w.among;
            holds = subst (Holds held) (regroup (told_all e (e.within n j) (old_of c)) (told e n j y) _ _) w.holds;
            waits =
                take_inside (has_place c) stop stops later (stops_of e.is_element (suc (length bs)) c) (stops_of e.is_element (length bs) r) (stops_behind e.is_element bs)
                (stops-none e.is_element (suc (length bs)) c) taken (w.waits ∙ ap (λ level. level ++ stops_behind e.is_element bs) level)
                ∙ ap (λ level. stops_of e.is_element (suc (length bs)) c ++ (level ++ stops_behind e.is_element bs)) (sym beside);
            fresh = tt;
            fresh_behind = (subst (λ b. IsFresh b r) (sym stays) tt, w.fresh_behind);
            distinct = parts.0;
            distinct_behind = (parts.1, w.distinct_behind);
            elements = (element, element, refl, w.elements);
            credit = 2;
            rested = inl refl;
            few = omega (arith, w.few, some, few, fewer_places (has_place c) stop stops later taken);
          },
          omega (arith, fewer_stops),
        )

    pub keeps-entering_turned : (was n : Keyed L) (c r : Merge L)
        → Walks e held all most (standing bs i j (Turned was n c r) stops changes spent)
        → e.is_element n.label ≡ true
        → e.is_element was.label ≡ true
        → was.key ≡ n.key
        → is_fresh bs ≡ false
        → stops ≡ stop_at e.is_element (length bs) Inside (Turned was n c r) ∷ later
        → more ≤ spent + 3
        → let b : Open L H = record { node = n; was_node = was; handed = i; was_handed = j; fresh = false; after = r } in
        GoesOn e held all most (standing bs i j (Turned was n c r) stops changes spent) (standing (b ∷ bs) (e.within n i) (e.within was j) c later changes more)
    keeps-entering_turned was n c r w element element_was one_key stays taken few =
        let x = past_all e (e.within n i) (new_of c) in
        let y = past_all e (e.within was j) (old_of c) in
        let parts = distinct-parts n (new_of c) (new_of r) w.distinct in
        let stop = stop_at e.is_element (length bs) Inside (Turned was n c r) in
        let level : level_stops e.is_element bs (Turned was n c r) ≡ stops_of e.is_element (length bs) (Turned was n c r) = rw stays refl in
        let beside : level_stops e.is_element bs r ≡ stops_of e.is_element (length bs) r = rw stays refl in
        let count : length stops ≡ suc (length later) = ap (λ (stops : List Stop). length stops) taken in (
          record {
            done = w.done;
            split = w.split ∙ ap (λ rest. w.done ++ rest) (regroup (told_all e (e.within n i) (new_of c)) (told e n i x) _ _);
            covered = w.covered;
            among = w.among;
            holds = subst (Holds held) (regroup (told_all e (e.within was j) (old_of c)) (told e was j y) _ _) w.holds;
            waits =
                rest_is stop stop later _ (sym taken ∙ w.waits ∙ ap (λ level. level ++ stops_behind e.is_element bs) level)
                ∙ append_assoc (stops_of e.is_element (suc (length bs)) c) (stops_of e.is_element (length bs) r) (stops_behind e.is_element bs)
                ∙ ap (λ level. stops_of e.is_element (suc (length bs)) c ++ (level ++ stops_behind e.is_element bs)) (sym beside);
            fresh = tt;
            fresh_behind = (subst (λ b. IsFresh b r) (sym stays) tt, w.fresh_behind);
            distinct = parts.0;
            distinct_behind = (parts.1, w.distinct_behind);
            elements = (element, element_was, one_key, w.elements);
            credit = 2;
            rested = inl refl;
            few = omega (arith, w.few, few, ap places_ahead taken);
          },
          omega (arith, count),
        )

    pub keeps-entering_fresh : (n : Keyed L) (c : Forest (Keyed L)) (r : Merge L)
        → Walks e held all most (standing bs i j (Come n c r) stops changes spent)
        → e.is_element n.label ≡ true
        → IsTaken (not (is_fresh bs)) (stop_at e.is_element (length bs) Anew (Come n c r)) stops later
        → more ≤ spent + 2
        → let b : Open L H = record { node = n; was_node = n; handed = i; was_handed = j; fresh = true; after = r } in
        GoesOn e held all most (standing bs i j (Come n c r) stops changes spent) (standing (b ∷ bs) (e.within n i) j (all_come c) later changes more)
    keeps-entering_fresh n c r w element taken few =
        let b : Open L H = record { node = n; was_node = n; handed = i; was_handed = j; fresh = true; after = r } in
        let new = new-all_come c in
        let old = old-all_come c in
        let parts = distinct-parts n c (new_of r) w.distinct in
        let stop = stop_at e.is_element (length bs) Anew (Come n c r) in
        let fewer_stops = fewer (not (is_fresh bs)) stop stops later taken in
        let its_past = λ (g : Forest (Keyed L)). e.past n i (past_all e (e.within n i) g) in
        let news_are : news e bs i (Come n c r) ≡ news e (b ∷ bs) (e.within n i) (all_come c) =
        regroup (told_all e (e.within n i) c) (told e n i (past_all e (e.within n i) c)) _ _
        ∙ ap (λ g. told_all e (e.within n i) g ++ (told e n i (past_all e (e.within n i) g) ++ (told_all e (its_past g) (new_of r) ++ news_behind e bs (past_all e (its_past g) (new_of r))))) (sym new) in
        let olds_are : olds e bs j (Come n c r) ≡ olds e (b ∷ bs) j (all_come c) =
        ap (λ g. told_all e j g ++ (told_all e (past_all e j g) (old_of r) ++ olds_behind e bs (past_all e (past_all e j g) (old_of r)))) (sym old) in
        let total = λ (g k : Forest (Keyed L)). anew_count e (e.within n i) j (all_come c) + (anew_count e (its_past g) (past_all e j k) r + anew_behind e bs (past_all e (its_past g) (new_of r)) (past_all e (past_all e j k) (old_of r))) in
        let counted : anew_left e (b ∷ bs) (e.within n i) j (all_come c) ≡ total c Empty = ap (total (new_of (all_come c))) old ∙ ap (λ g. total g Empty) new in
        let own : cond {A = ℕ} (e.is_element n.label) 1 0 ≡ 1 = rw element refl in (
          record {
            done = w.done;
            split = w.split ∙ ap (λ rest. w.done ++ rest) news_are;
            covered = w.covered;
            among = w.among;
            holds = subst (Holds held) olds_are w.holds;
            waits = take_fresh (is_fresh bs) stop stops later (stops_of e.is_element (length bs) r) (stops_behind e.is_element bs) taken w.waits;
            fresh = all_come-new c;
            fresh_behind = (fresh-after (is_fresh bs) n c r w.fresh, w.fresh_behind);
            distinct = subst HasDistinctKeys (sym new) parts.0;
            distinct_behind = (parts.1, w.distinct_behind);
            elements = (element, element, refl, w.elements);
            credit = w.credit;
            rested = inr (from_place-fresh (all_come c) (all_come-new c));
            few = omega (arith, w.few, counted, anew-all_come e c (e.within n i) j, come-all_come e.is_element c, own, few, fewer_places (not (is_fresh bs)) stop stops later taken);
          },
          let same_size : size (new_of (all_come c)) ≡ size c = ap (λ (g : Forest (Keyed L)). size g) new in omega (arith, same_size, fewer_stops),
        )
