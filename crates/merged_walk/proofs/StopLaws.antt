-- The stops of a merge: none without a place, and else one for each place and each node that is entered to get there.
-- Throughout, d is a depth, n a node, c what is under it, r what is after it, and m a merge.
use Rattle.std.proofs.Common.{◌≡◌, ◌+◌, ◌++◌, ◌∷◌, ℕ, suc, Bool, true, false, cond, List, [], refl, ap, ◌∙◌, arith, append-nil}
use Rattle.std.proofs.lemmas.Bool.{or_parts}
use Rattle.forest.specs.Forest.{Forest}
use Rattle.forest.specs.Keys.{Keyed}
use Rattle.merged_walk.specs.declared.stop.Stop.{Stop}
use Rattle.merged_walk.specs.declared.stop.Way.TheVariants.{Inside}
use Rattle.merged_walk.specs.Merges.{Merge, End, Kept, Turned, Gone, Come, all_kept, has_place}
use Rattle.merged_walk.specs.Stops.{places_ahead, stop_at, stops_of}
use Rattle.merged_walk.specs.Counts.{place_count}
use Rattle.merged_walk.proofs.MergeLaws.{has_place-all_kept}

module _ {L : Type 0} (is_element : L → Bool) where
  pub stops-none : (d : ℕ) (m : Merge L) → has_place m ≡ false → stops_of is_element d m ≡ []
  stops-none d End h = refl
  stops-none d (Kept n c r) h =
      let parts = or_parts (has_place c) (has_place r) h in
      rw (parts.0, stops-none d r parts.1) refl
  stops-none d (Turned was n c r) h = absurd (cc)
  stops-none d (Gone n c r) h = absurd (cc)
  stops-none d (Come n c r) h = absurd (cc)

  pub stops-all_kept : (d : ℕ) (g : Forest (Keyed L)) → stops_of is_element d (all_kept g) ≡ []
  stops-all_kept d g = stops-none d (all_kept g) (has_place-all_kept g)

  places-append : (stops later : List Stop) → places_ahead (stops ++ later) ≡ places_ahead stops + places_ahead later
  places-append [] later = omega arith
  places-append (stop ∷ stops) later = omega (arith, places-append stops later)

  places-kept : (d : ℕ) (n : Keyed L) (c r : Merge L) (b : Bool) → has_place c ≡ b
      → places_ahead (stops_of is_element (suc d) c) ≡ place_count c → places_ahead (stops_of is_element d r) ≡ place_count r
      → places_ahead (cond b (stop_at is_element d Inside (Kept n c r) ∷ stops_of is_element (suc d) c) [] ++ stops_of is_element d r) ≡ place_count c + place_count r
  places-kept d n c r true is below beside = omega (arith, places-append (stops_of is_element (suc d) c) (stops_of is_element d r), below, beside)
  places-kept d n c r false is below beside =
      let none : places_ahead (stops_of is_element (suc d) c) ≡ 0 = ap places_ahead (stops-none (suc d) c is) in
      omega (arith, none, below, beside)

  pub places-stops_of : (d : ℕ) (m : Merge L) → places_ahead (stops_of is_element d m) ≡ place_count m
  places-stops_of d End = refl
  places-stops_of d (Kept n c r) = places-kept d n c r (has_place c) refl (places-stops_of (suc d) c) (places-stops_of d r)
  places-stops_of d (Turned was n c r) =
      omega (arith, places-append (stops_of is_element (suc d) c) (stops_of is_element d r), places-stops_of (suc d) c, places-stops_of d r)
  places-stops_of d (Gone n c r) = omega (arith, places-stops_of d r)
  places-stops_of d (Come n c r) = omega (arith, places-stops_of d r)

  -- the stops of a level whose first tree is kept, by whether there is a place under it, and behind it

  pub stops-kept : (d : ℕ) (n : Keyed L) (c r : Merge L) → has_place c ≡ true
      → stops_of is_element d (Kept n c r) ≡ stop_at is_element d Inside (Kept n c r) ∷ (stops_of is_element (suc d) c ++ stops_of is_element d r)
  stops-kept d n c r h =
      ap (λ b. cond b (stop_at is_element d Inside (Kept n c r) ∷ stops_of is_element (suc d) c) [] ++ stops_of is_element d r) h

  pub stops-beside : (d : ℕ) (n : Keyed L) (c r : Merge L) → has_place c ≡ false → stops_of is_element d (Kept n c r) ≡ stops_of is_element d r
  stops-beside d n c r h =
      ap (λ b. cond b (stop_at is_element d Inside (Kept n c r) ∷ stops_of is_element (suc d) c) [] ++ stops_of is_element d r) h

  pub stops-under : (d : ℕ) (n : Keyed L) (c r : Merge L) → has_place c ≡ true → has_place r ≡ false
      → stops_of is_element d (Kept n c r) ≡ stop_at is_element d Inside (Kept n c r) ∷ stops_of is_element (suc d) c
  stops-under d n c r h none =
      stops-kept d n c r h ∙ ap (λ after. stop_at is_element d Inside (Kept n c r) ∷ (stops_of is_element (suc d) c ++ after)) (stops-none d r none)
      ∙ ap (λ under. stop_at is_element d Inside (Kept n c r) ∷ under) (append-nil (stops_of is_element (suc d) c))
