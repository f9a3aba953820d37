-- Where a walk stands, by its next stop. Throughout, e is an evaluator, bs are the open nodes, n a node, c what is
-- under it, r what is after it, and level what is left of the level.
use Rattle.std.proofs.Common.{◌≡◌, ◌==◌, ◌&&◌, ◌++◌, ◌∷◌, ℕ, suc, Bool, true, false, cond, List, [], length, Option, Some, None, refl, sym, ap, subst, ◌∙◌, arith, eqb-true, eq-eqb}
use Rattle.std.specs.Prelude.{nat_eq}
use Rattle.std.specs.Option.{option_eq}
use Rattle.std.proofs.lemmas.Bool.{and_parts, both_ways}
use Rattle.forest.specs.Forest.{Forest}
use Rattle.forest.specs.Keys.{Keyed, HasDistinctKeys}
use Rattle.forest.specs.Spots.{first_key}
use Rattle.forest.proofs.SpotLaws.{root-once}
use Rattle.merged_walk.specs.declared.stop.Stop.{Stop}
use Rattle.merged_walk.specs.declared.stop.Way.TheVariants.{Past, Inside, Anew}
use Rattle.merged_walk.specs.Merges.{Merge, End, Kept, Turned, Gone, Come, old_of, new_of, has_place, from_place}
use Rattle.merged_walk.specs.Stops.{first_element, is_ahead, is_at, stop_at, stops_of}
use Rattle.merged_walk.specs.Evaluators.{Evaluator}
use Rattle.merged_walk.specs.Walks.{Open, State, Walks, is_fresh, stops_behind}
use Rattle.merged_walk.proofs.MergeLaws.{not_at_place}
use Rattle.merged_walk.proofs.ShallowStops.{IsShallow, first_stop, links_there, shallow-behind}

link-same : (a b : Option ℕ) → option_eq nat_eq a b ≡ true → a ≡ b
link-same None None h = refl
link-same (Some a) (Some b) h = ap (λ x. Some x) (eqb-true a b h)
link-same None (Some b) h = absurd (cc)
link-same (Some a) None h = absurd (cc)

link-itself : (a : Option ℕ) → option_eq nat_eq a a ≡ true
link-itself None = refl
link-itself (Some a) = eq-eqb a a refl

-- a stop of this depth and link is at both
at-itself : (d : ℕ) (a : Option ℕ) → (d == d && option_eq nat_eq a a) ≡ true
at-itself d a = ap (λ b. b && option_eq nat_eq a a) (eq-eqb d d refl) ∙ link-itself a

module _ {L : Type 0} where
  -- the first tree of a level at none of whose stops the walk stands
  pub data OffStop (level : Merge L) : Type 0 where
    at_end : level ≡ End → OffStop level
    at_same : (n : Keyed L) (c r : Merge L) → level ≡ Kept n c r → has_place c ≡ false → OffStop level

module _ {L : Type 0} (is_element : L → Bool) where
  -- the stop is that of the front of the level, where it has a place
  pub record IsAhead (level : Merge L) (stop : Stop) : Type 0 where
    pub link : stop.link ≡ first_key (new_of level)
    pub from : stop.from ≡ first_element is_element (old_of level)

  ahead-is : (level : Merge L) (stop it : Stop) → stop ≡ it → it.link ≡ first_key (new_of level) → it.from ≡ first_element is_element (old_of level) → IsAhead level stop
  ahead-is level stop it is link from = record { link = ap (λ (s : Stop). s.link) is ∙ link; from = ap (λ (s : Stop). s.from) is ∙ from }

module _ {L H : Type 0} (is_element : L → Bool) where
  -- the first tree of a level at whose stop the walk stands
  pub data AtStop (bs : List (Open L H)) (level : Merge L) (stop : Stop) : Type 0 where
    at_kept : (n : Keyed L) (c r : Merge L) → level ≡ Kept n c r → has_place c ≡ true → stop ≡ stop_at is_element (length bs) Inside (Kept n c r) → AtStop bs level stop
    at_turned : (was n : Keyed L) (c r : Merge L) → level ≡ Turned was n c r → stop ≡ stop_at is_element (length bs) Inside (Turned was n c r) → AtStop bs level stop
    at_gone : (n : Keyed L) (c : Forest (Keyed L)) (r : Merge L) → level ≡ Gone n c r → stop ≡ stop_at is_element (length bs) Past (Gone n c r) → AtStop bs level stop
    at_come : (n : Keyed L) (c : Forest (Keyed L)) (r : Merge L) → level ≡ Come n c r → stop ≡ stop_at is_element (length bs) Anew (Come n c r) → AtStop bs level stop

  -- the stops of a level that isn't fresh, and those behind it
  abbrev waiting : List (Open L H) → Merge L → List Stop
  waiting bs level = stops_of is_element (length bs) level ++ stops_behind is_element bs

  abbrev waiting_kept : List (Open L H) → Keyed L → (c r : Merge L) → Bool → List Stop
  waiting_kept bs n c r b =
      (cond b (stop_at is_element (length bs) Inside (Kept n c r) ∷ stops_of is_element (suc (length bs)) c) [] ++ stops_of is_element (length bs) r) ++ stops_behind is_element bs

  -- a stop at this depth is none of those behind
  too_deep : (bs : List (Open L H)) (stop : Stop) (later : List Stop) → stop ∷ later ≡ stops_behind is_element bs → stop.depth ≡ length bs → ⊥
  too_deep bs stop later is deep =
      absurd (let low : IsShallow (length bs) (stop ∷ later) = subst (IsShallow (length bs)) (sym is) (shallow-behind is_element bs) in omega (arith, low, deep))

  stop-kept : (bs : List (Open L H)) (n : Keyed L) (c r : Merge L) (stop : Stop) (later : List Stop) (b : Bool) → has_place c ≡ b
      → HasDistinctKeys (new_of (Kept n c r)) → stop ∷ later ≡ waiting_kept bs n c r b → stop.depth ≡ length bs → stop.link ≡ Some n.key → AtStop bs (Kept n c r) stop
  stop-kept bs n c r stop later true some d is deep link = at_kept n c r refl some (ap (first_stop stop) is)
  stop-kept bs n c r stop later false none d is deep link =
      absurd (let there = links_there is_element (length bs) r (stops_behind is_element bs) later stop n.key (shallow-behind is_element bs) is deep link in
      omega (arith, there, (root-once n (new_of c) (new_of r) d).1))

  stop-first : (bs : List (Open L H)) (level : Merge L) (stop : Stop) (later : List Stop) → HasDistinctKeys (new_of level) → stop ∷ later ≡ waiting bs level
      → stop.depth ≡ length bs → stop.link ≡ first_key (new_of level) → AtStop bs level stop
  stop-first bs End stop later d is deep link = absurd (too_deep bs stop later is deep)
  stop-first bs (Kept n c r) stop later d is deep link = stop-kept bs n c r stop later (has_place c) refl d is deep link
  stop-first bs (Turned was n c r) stop later d is deep link = at_turned was n c r refl (ap (first_stop stop) is)
  stop-first bs (Gone n c r) stop later d is deep link = at_gone n c r refl (ap (first_stop stop) is)
  stop-first bs (Come n c r) stop later d is deep link = at_come n c r refl (ap (first_stop stop) is)

  off-kept : (bs : List (Open L H)) (n : Keyed L) (c r : Merge L) (b : Bool) → has_place c ≡ b → is_at (waiting_kept bs n c r b) (length bs) (Some n.key) ≡ false → OffStop (Kept n c r)
  off-kept bs n c r true some h = absurd (both_ways _ h (at-itself (length bs) (Some n.key)))
  off-kept bs n c r false none h = at_same n c r refl none

  off-first : (bs : List (Open L H)) (level : Merge L) → is_at (waiting bs level) (length bs) (first_key (new_of level)) ≡ false → OffStop level
  off-first bs End h = at_end refl
  off-first bs (Kept n c r) h = off-kept bs n c r (has_place c) refl h
  off-first bs (Turned was n c r) h = absurd (both_ways _ h (at-itself (length bs) (Some n.key)))
  off-first bs (Gone n c r) h = absurd (both_ways _ h (at-itself (length bs) (first_key (new_of r))))
  off-first bs (Come n c r) h = absurd (both_ways _ h (at-itself (length bs) (Some n.key)))

  ahead-kept : (bs : List (Open L H)) (n : Keyed L) (c r : Merge L) (stop : Stop) (later : List Stop) (b : Bool) → has_place c ≡ b → from_place (Kept n c r) ≡ Kept n c r
      → stop ∷ later ≡ waiting_kept bs n c r b → IsAhead is_element (Kept n c r) stop
  ahead-kept bs n c r stop later true some at is = ahead-is is_element (Kept n c r) stop (stop_at is_element (length bs) Inside (Kept n c r)) (ap (first_stop stop) is) refl refl
  ahead-kept bs n c r stop later false none at is = absurd (not_at_place n c r none at)

  ahead-first : (bs : List (Open L H)) (level : Merge L) (stop : Stop) (later : List Stop) → from_place level ≡ level → stop ∷ later ≡ waiting bs level → stop.depth ≡ length bs → IsAhead is_element level stop
  ahead-first bs End stop later at is deep = absurd (too_deep bs stop later is deep)
  ahead-first bs (Kept n c r) stop later at is deep = ahead-kept bs n c r stop later (has_place c) refl at is
  ahead-first bs (Turned was n c r) stop later at is deep = ahead-is is_element (Turned was n c r) stop (stop_at is_element (length bs) Inside (Turned was n c r)) (ap (first_stop stop) is) refl refl
  ahead-first bs (Gone n c r) stop later at is deep = ahead-is is_element (Gone n c r) stop (stop_at is_element (length bs) Past (Gone n c r)) (ap (first_stop stop) is) refl refl
  ahead-first bs (Come n c r) stop later at is deep = ahead-is is_element (Come n c r) stop (stop_at is_element (length bs) Anew (Come n c r)) (ap (first_stop stop) is) refl refl

  end-kept : (bs : List (Open L H)) (n : Keyed L) (c r : Merge L) (b : Bool) → has_place c ≡ b → from_place (Kept n c r) ≡ Kept n c r → is_ahead (waiting_kept bs n c r b) (length bs) ≡ false → Kept n c r ≡ End
  end-kept bs n c r true some at h = absurd (both_ways _ h (eq-eqb (length bs) (length bs) refl))
  end-kept bs n c r false none at h = absurd (not_at_place n c r none at)

  end-first : (bs : List (Open L H)) (level : Merge L) → from_place level ≡ level → is_ahead (waiting bs level) (length bs) ≡ false → level ≡ End
  end-first bs End at h = refl
  end-first bs (Kept n c r) at h = end-kept bs n c r (has_place c) refl at h
  end-first bs (Turned was n c r) at h = absurd (both_ways _ h (eq-eqb (length bs) (length bs) refl))
  end-first bs (Gone n c r) at h = absurd (both_ways _ h (eq-eqb (length bs) (length bs) refl))
  end-first bs (Come n c r) at h = absurd (both_ways _ h (eq-eqb (length bs) (length bs) refl))

  fresh-off : (bs : List (Open L H)) (stop : Stop) (later level : List Stop) (fresh : Bool) → stop ∷ later ≡ cond fresh [] level ++ stops_behind is_element bs → stop.depth ≡ length bs → fresh ≡ false
  fresh-off bs stop later level true is deep = absurd (too_deep bs stop later is deep)
  fresh-off bs stop later level false is deep = refl

module _ {L K H : Type 0} (e : Evaluator L K H) (held : ℕ → Option K) (all : List (ℕ × K)) (most : ℕ) (state : State L K H) (w : Walks e held all most state) where
  waits_here : is_fresh state.above ≡ false → state.stops ≡ stops_of e.is_element (length state.above) state.here ++ stops_behind e.is_element state.above
  waits_here stays = w.waits ∙ ap (λ b. cond b [] (stops_of e.is_element (length state.above) state.here) ++ stops_behind e.is_element state.above) stays

  -- a walk whose next stop has the walk's depth and link stands at it, and not on a fresh level
  pub at_stop : (stop : Stop) (later : List Stop) → state.stops ≡ stop ∷ later → is_at state.stops (length state.above) (first_key (new_of state.here)) ≡ true
      → (is_fresh state.above ≡ false) × AtStop e.is_element state.above state.here stop
  at_stop stop later is h =
      let link = first_key (new_of state.here) in
      let parts = and_parts (stop.depth == length state.above) (option_eq nat_eq stop.link link) (ap (λ stops. is_at stops (length state.above) link) (sym is) ∙ h) in
      let deep = eqb-true stop.depth (length state.above) parts.0 in
      let stays = fresh-off e.is_element state.above stop later (stops_of e.is_element (length state.above) state.here) (is_fresh state.above) (sym is ∙ w.waits) deep in
      (stays, stop-first e.is_element state.above state.here stop later w.distinct (sym is ∙ waits_here stays) deep (link-same stop.link link parts.1))

  -- and one whose next stop has not stands at the end of a level, or at a kept tree without a place
  pub off_stop : is_fresh state.above ≡ false → is_at state.stops (length state.above) (first_key (new_of state.here)) ≡ false → OffStop state.here
  off_stop stays h =
      off-first e.is_element state.above state.here
      (ap (λ stops. is_at stops (length state.above) (first_key (new_of state.here))) (sym (waits_here stays)) ∙ h)

  -- behind trees that were skipped a stop of this depth is the front of what is left of the level
  pub goes_to : is_fresh state.above ≡ false → from_place state.here ≡ state.here → (stop : Stop) (later : List Stop) → state.stops ≡ stop ∷ later → stop.depth ≡ length state.above
      → IsAhead e.is_element state.here stop
  goes_to stays at stop later is deep = ahead-first e.is_element state.above state.here stop later at (sym is ∙ waits_here stays) deep

  -- and where there is none the level is at its end
  pub goes_up : is_fresh state.above ≡ false → from_place state.here ≡ state.here → is_ahead state.stops (length state.above) ≡ false → state.here ≡ End
  goes_up stays at h = end-first e.is_element state.above state.here at (ap (λ stops. is_ahead stops (length state.above)) (sym (waits_here stays)) ∙ h)
