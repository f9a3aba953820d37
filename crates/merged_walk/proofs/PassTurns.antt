-- The turns in which a walk passes a text, a tree that is gone, or trees that it skips. Throughout, e is an evaluator,
-- bs are the open nodes, i is what the level is handed and j what it was handed, n a node, c what is under it, and r
-- what is after it.
use Rattle.std.proofs.Common.{◌≡◌, ◌+◌, ◌*◌, ◌≤◌, ◌||◌, ℕ, suc, Bool, true, false, cond, List, [], ◌∷◌, ◌++◌, length, Option, refl, sym, ap, subst, ◌∙◌, ◌⊎◌, inl, inr, arith, append_assoc}
use Rattle.std.specs.Prelude.{Contains, Some, not}
use Rattle.std.proofs.lemmas.List.Elements.{All-append}
use Rattle.forest.specs.Forest.{Forest, Empty}
use Rattle.forest.specs.Keys.{Keyed}
use Rattle.forest.proofs.SpotLaws.{distinct-parts}
use Rattle.merged_walk.specs.declared.stop.Stop.{Stop}
use Rattle.merged_walk.specs.declared.stop.Way.TheVariants.{Past, Anew}
use Rattle.merged_walk.specs.Merges.{Merge, End, Kept, Turned, Gone, Come, old_of, new_of, has_place, from_place}
use Rattle.merged_walk.specs.Stops.{is_inside, places_ahead, stop_at, stops_of}
use Rattle.merged_walk.specs.Evaluators.{Evaluator, IsSound, told, past_all, told_all}
use Rattle.merged_walk.specs.Entries.{Holds}
use Rattle.merged_walk.specs.Counts.{anew_count}
use Rattle.merged_walk.specs.Walks.{GoesOn, IsFresh, Open, Walks, anew_behind, anew_left, handed_at_place, is_fresh, level_stops, news, news_behind, olds, olds_behind, stops_behind}
use Rattle.merged_walk.specs.WalkTurns.{IsTaken}
use Rattle.merged_walk.proofs.EntryLaws.{all-left, all-right, covers-held}
use Rattle.merged_walk.proofs.MergeLaws.{distinct-from_place, from_place-again, from_place-fresh, not_at_place, size-skipped}
use Rattle.merged_walk.proofs.SkipLaws.{skips}
use Rattle.merged_walk.proofs.TurnLists.{fewer, regroup, rest_is, take_fresh}
use Rattle.merged_walk.proofs.EnterTurns.{fresh-after, standing}

module _ {L : Type 0} where
  abbrev behind_first : Merge L → Merge L
  behind_first End = End
  behind_first (Kept n c r) = r
  behind_first (Turned was n c r) = r
  behind_first (Gone n c r) = r
  behind_first (Come n c r) = r

  fresh-after_kept : (b : Bool) (n : Keyed L) (c r : Merge L) → IsFresh b (Kept n c r) → IsFresh b r
  fresh-after_kept true n c r h = ap behind_first h
  fresh-after_kept false n c r h = tt

  -- where a level doesn't begin with a place there are steps for a skip
  full : (n : Keyed L) (c r : Merge L) (credit : ℕ) → has_place c ≡ false → (credit ≡ 2) ⊎ (from_place (Kept n c r) ≡ Kept n c r) → credit ≡ 2
  full n c r credit none (inl two) = two
  full n c r credit none (inr at) = absurd (not_at_place n c r none at)

  -- on a fresh level there are steps for none, and elsewhere the place whose stop was taken has them
  pays : (fresh : Bool) (stop : Stop) (stops later : List Stop) (credit : ℕ) (r : Merge L) → is_inside stop.way ≡ false → IsFresh fresh r → IsTaken (not fresh) stop stops later
      → (now : ℕ) × (2 * places_ahead later + now ≤ 2 * places_ahead stops + credit) × ((now ≡ 2) ⊎ (from_place r ≡ r))
  pays true stop stops later credit r place h taken = (credit, rw taken (omega arith), inr (from_place-fresh r h))
  pays false stop stops later credit r place h taken = (2, rw (taken, place) (omega arith), inl refl)

module _ {L K H : Type 0} (e : Evaluator L K H) (held : ℕ → Option K) (all : List (ℕ × K)) (most : ℕ) where
  module _ (bs : List (Open L H)) (i j : H) (stops later : List Stop) (changes : List (ℕ × K)) (spent more : ℕ) where
    pub keeps-missing : (n : Keyed L) (c : Forest (Keyed L)) (r : Merge L) (stop : Stop)
        → Walks e held all most (standing bs i j (Gone n c r) stops changes spent)
        → is_fresh bs ≡ false
        → stops ≡ stop ∷ later
        → GoesOn e held all most (standing bs i j (Gone n c r) stops changes spent) (standing bs i (e.past n j (past_all e (e.within n j) c)) r later changes spent)
    keeps-missing n c r stop w stays taken =
        let level : level_stops e.is_element bs (Gone n c r) ≡ stops_of e.is_element (length bs) (Gone n c r) = rw stays refl in
        let beside : level_stops e.is_element bs r ≡ stops_of e.is_element (length bs) r = rw stays refl in
        let count : length stops ≡ suc (length later) = ap (λ (stops : List Stop). length stops) taken in
        let place = stop_at e.is_element (length bs) Past (Gone n c r) in
        let behind = stops_of e.is_element (length bs) r ++ stops_behind e.is_element bs in
        let waits : stops ≡ place ∷ behind = w.waits ∙ ap (λ level. level ++ stops_behind e.is_element bs) level in
        let rest : later ≡ behind = rest_is stop place later behind (sym taken ∙ waits) in
        let places : places_ahead stops ≡ 1 + places_ahead later = omega (arith, ap places_ahead waits, ap places_ahead rest) in
        let gone = told_all e (e.within n j) c in
        let its = told e n j (past_all e (e.within n j) c) in
        let has = λ (x : ℕ × K). held x.0 ≡ Some x.1 in (
          record {
            done = w.done;
            split = w.split;
            covered = w.covered;
            among = w.among;
            holds = all-right has its _ (all-right has gone _ (subst (Holds held) (regroup gone its _ _) w.holds));
            waits =
                rest ∙ ap (λ level. level ++ stops_behind e.is_element bs) (sym beside);
            fresh = subst (λ b. IsFresh b r) (sym stays) tt;
            fresh_behind = w.fresh_behind;
            distinct = w.distinct;
            distinct_behind = w.distinct_behind;
            elements = w.elements;
            credit = 2;
            rested = inl refl;
            few = omega (arith, w.few, places);
          },
          omega (arith, count),
        )

    module _ (s : IsSound e) where
      abbrev anew_beside : Merge L → (x y : H) → ℕ
      anew_beside r x y = anew_count e x y r + anew_behind e bs (past_all e x (new_of r)) (past_all e y (old_of r))

      pub keeps-passing : (n : Keyed L) (r : Merge L)
          → Walks e held all most (standing bs i j (Kept n End r) stops changes spent)
          → e.is_element n.label ≡ false
          → GoesOn e held all most (standing bs i j (Kept n End r) stops changes spent) (standing bs i j r stops changes spent)
      keeps-passing n r w text =
          let same : e.past n i (e.within n i) ≡ i = s.text n i (e.within n i) text in
          let same_old : e.past n j (e.within n j) ≡ j = s.text n j (e.within n j) text in
          let none : told e n i (e.within n i) ≡ [] = rw text refl in
          let none_old : told e n j (e.within n j) ≡ [] = rw text refl in
          let nothing : cond {A = ℕ} (e.is_element n.label) (cond (has_place {L = L} End || not (e.is_same i j)) 1 0) 0 ≡ 0 = rw text refl in
          let counted : anew_beside r (e.past n i (e.within n i)) (e.past n j (e.within n j)) ≡ anew_beside r i j =
          ap (λ x. anew_beside r x (e.past n j (e.within n j))) same ∙ ap (anew_beside r i) same_old in
          let news_are : news e bs i (Kept n End r) ≡ news e bs i r =
          ap (λ t. (t ++ told_all e (e.past n i (e.within n i)) (new_of r)) ++ news_behind e bs (past_all e (e.past n i (e.within n i)) (new_of r))) none
          ∙ ap (λ x. told_all e x (new_of r) ++ news_behind e bs (past_all e x (new_of r))) same in
          let olds_are : olds e bs j (Kept n End r) ≡ olds e bs j r =
          ap (λ t. (t ++ told_all e (e.past n j (e.within n j)) (old_of r)) ++ olds_behind e bs (past_all e (e.past n j (e.within n j)) (old_of r))) none_old
          ∙ ap (λ x. told_all e x (old_of r) ++ olds_behind e bs (past_all e x (old_of r))) same_old in (
            record {
              done = w.done;
              split = w.split ∙ ap (λ rest. w.done ++ rest) news_are;
              covered = w.covered;
              among = w.among;
              holds = subst (Holds held) olds_are w.holds;
              waits = w.waits;
              fresh = fresh-after_kept (is_fresh bs) n End r w.fresh;
              fresh_behind = w.fresh_behind;
              distinct = (distinct-parts n Empty (new_of r) w.distinct).1;
              distinct_behind = w.distinct_behind;
              elements = w.elements;
              credit = w.credit;
              rested = inl (full n End r w.credit refl w.rested);
              few = omega (arith, w.few, nothing, counted);
            },
            omega arith,
          )

      pub keeps-passing_fresh : (n : Keyed L) (r : Merge L)
          → Walks e held all most (standing bs i j (Come n Empty r) stops changes spent)
          → e.is_element n.label ≡ false
          → IsTaken (not (is_fresh bs)) (stop_at e.is_element (length bs) Anew (Come n Empty r)) stops later
          → GoesOn e held all most (standing bs i j (Come n Empty r) stops changes spent) (standing bs i j r later changes spent)
      keeps-passing_fresh n r w text taken =
          let same : e.past n i (e.within n i) ≡ i = s.text n i (e.within n i) text in
          let none : told e n i (e.within n i) ≡ [] = rw text refl in
          let nothing : cond {A = ℕ} (e.is_element n.label) 1 0 ≡ 0 = rw text refl in
          let counted : anew_beside r (e.past n i (e.within n i)) j ≡ anew_beside r i j = ap (λ x. anew_beside r x j) same in
          let news_are : news e bs i (Come n Empty r) ≡ news e bs i r =
          ap (λ t. (t ++ told_all e (e.past n i (e.within n i)) (new_of r)) ++ news_behind e bs (past_all e (e.past n i (e.within n i)) (new_of r))) none
          ∙ ap (λ x. told_all e x (new_of r) ++ news_behind e bs (past_all e x (new_of r))) same in
          let level = fresh-after (is_fresh bs) n Empty r w.fresh in
          let stop = stop_at e.is_element (length bs) Anew (Come n Empty r) in
          let paid = pays (is_fresh bs) stop stops later w.credit r refl level taken in (
            record {
              done = w.done;
              split = w.split ∙ ap (λ rest. w.done ++ rest) news_are;
              covered = w.covered;
              among = w.among;
              holds = w.holds;
              waits = take_fresh (is_fresh bs) stop stops later (stops_of e.is_element (length bs) r) (stops_behind e.is_element bs) taken w.waits;
              fresh = level;
              fresh_behind = w.fresh_behind;
              distinct = (distinct-parts n Empty (new_of r) w.distinct).1;
              distinct_behind = w.distinct_behind;
              elements = w.elements;
              credit = paid.0;
              rested = paid.2;
              few = omega (arith, w.few, nothing, counted, paid.1);
            },
            omega (arith, fewer (not (is_fresh bs)) stop stops later taken),
          )

      pub keeps-skipping : (n : Keyed L) (c r : Merge L)
          → Walks e held all most (standing bs i j (Kept n c r) stops changes spent)
          → is_fresh bs ≡ false
          → has_place c ≡ false
          → e.is_same i j ≡ true
          → more ≤ spent + 2
          → let that = handed_at_place e i (Kept n c r) in
          GoesOn e held all most (standing bs i j (Kept n c r) stops changes spent) (standing bs that that (from_place (Kept n c r)) stops changes more)
      keeps-skipping n c r w stays none same few =
          let here : Merge L = Kept n c r in
          let there : Merge L = from_place here in
          let that = handed_at_place e i here in
          let skip = skips e s here i in
          let is : i ≡ j = s.same i j same in
          let has = λ (x : ℕ × K). held x.0 ≡ Some x.1 in
          let two = full n c r w.credit none w.rested in
          let olds_are : olds e bs i here ≡ skip.front ++ olds e bs that there =
          ap (λ x. told_all e i (old_of here) ++ olds_behind e bs x) skip.old_end
          ∙ ap (λ t. t ++ olds_behind e bs (past_all e that (old_of there))) skip.old ∙ append_assoc skip.front _ _ in
          let news_are : news e bs i here ≡ skip.front ++ news e bs that there =
          ap (λ x. told_all e i (new_of here) ++ news_behind e bs x) skip.new_end
          ∙ ap (λ t. t ++ news_behind e bs (past_all e that (new_of there))) skip.new ∙ append_assoc skip.front _ _ in
          let counted : anew_left e bs i j here ≡ anew_left e bs that that there =
          ap (λ j. anew_left e bs i j here) (sym is)
          ∙ ap (λ x. anew_count e i i here + anew_behind e bs x (past_all e i (old_of here))) skip.new_end
          ∙ ap (λ x. anew_count e i i here + anew_behind e bs (past_all e that (new_of there)) x) skip.old_end
          ∙ ap (λ k. k + anew_behind e bs (past_all e that (new_of there)) (past_all e that (old_of there))) skip.anew in
          let level : level_stops e.is_element bs here ≡ level_stops e.is_element bs there = ap (cond (is_fresh bs) []) (skip.stops (length bs)) in
          let held_are : Holds held (skip.front ++ olds e bs that there) = subst (Holds held) (ap (λ j. olds e bs j here) (sym is) ∙ olds_are) w.holds in
          let front : Holds held skip.front = all-left has skip.front _ held_are in (
            record {
              done = w.done ++ skip.front;
              split = w.split ∙ ap (λ rest. w.done ++ rest) news_are ∙ sym (append_assoc w.done skip.front _);
              covered = All-append (λ (x : ℕ × K). Contains changes x ⊎ (held x.0 ≡ Some x.1)) w.done skip.front w.covered (covers-held changes held skip.front front);
              among = w.among;
              holds = all-right has skip.front _ held_are;
              waits = w.waits ∙ ap (λ level. level ++ stops_behind e.is_element bs) level;
              fresh = subst (λ b. IsFresh b there) (sym stays) tt;
              fresh_behind = w.fresh_behind;
              distinct = distinct-from_place here w.distinct;
              distinct_behind = w.distinct_behind;
              elements = w.elements;
              credit = 0;
              rested = inr (from_place-again here);
              few = omega (arith, w.few, counted, skip.come, two, few);
            },
            omega (arith, size-skipped n c r none),
          )
