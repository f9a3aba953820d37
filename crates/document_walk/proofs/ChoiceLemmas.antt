-- Which turn the tests of a walk choose. Throughout, n is a styled node, c what is under it, r what is after it, b an open
-- node and bs those above it.
use Rattle.std.proofs.Common.{◌≡◌, ◌+◌, ◌≤◌, ◌||◌, ◌∷◌, inl, inr, ℕ, Bool, true, false, cond, List, [], length, Option, Some, None, refl, sym, ap, subst, ◌∙◌, arith}
use Rattle.std.specs.Prelude.{All, is_some, map, not, option_map}
use Rattle.std.specs.Option.{option_eq, option_map_or}
use Rattle.std.proofs.lemmas.Bool.{both_ways, cases_Bool}
use Rattle.std.proofs.lemmas.Option.{none-some, same_Some}
use Rattle.forest.specs.Forest.{Forest, Empty, Tree}
use Rattle.forest.specs.Keys.{Keyed, HasDistinctKeys}
use Rattle.forest.specs.Spots.{IsLive, first_key, next_sibling_of}
use Rattle.node_arena.specs.Nodes.{name_of}
use Rattle.box_eval.specs.Evaluation.{StyledNode}
use Rattle.merged_walk.specs.declared.stop.Stop.{Stop}
use Rattle.merged_walk.specs.declared.stop.Way.TheVariants.{Past, Inside, Anew}
use Rattle.merged_walk.specs.Evaluators.{AllFit, Evaluator, IsSound, told_all}
use Rattle.merged_walk.specs.Merges.{Merge, End, Kept, Turned, Gone, Come, all_come, has_place, new_of, old_of}
use Rattle.merged_walk.specs.Stops.{is_at, stop_at}
use Rattle.merged_walk.specs.Walks.{IsFresh, State, is_fresh}
use Rattle.merged_walk.specs.WalkTurns.{IsTaken, entering, entering_fresh, entering_turned, opened}
use Rattle.merged_walk.proofs.AtStops.{AtStop, OffStop, at_come, at_end, at_gone, at_kept, at_same, at_stop, at_turned, off_stop}
use Rattle.merged_walk.proofs.EntryLaws.{all-left}
use Rattle.merged_walk.proofs.MergeLaws.{new-all_come}
use Rattle.merged_walk.proofs.ToldLaws.{told_by_first}
use Rattle.surroundings.specs.declared.told.Told.{Told}
use Rattle.surroundings.specs.declared.walked.Walked.{Walked}
use Rattle.surroundings.specs.MergedLevels.{HasLeaves}
use Rattle.surroundings.specs.Surroundings.{is_same}
use Rattle.surroundings.specs.StyledEvaluators.{closes_styled, is_element, opens_styled, styled_asks, styled_evaluator}
use Rattle.document_walk.specs.declared.catching.Catching.{Catching}
use Rattle.document_walk.specs.Catching.{CanClose, CanOpen, HasSkipped, Reading, frames_of, is_fresh_in, is_same_at, stops_left}
use Rattle.document_walk.specs.Machinery.Standing.{Handing, IsAt, IsRootLed, OpenNode, Reaches, frame_of, state_at}
use Rattle.document_walk.proofs.SkippingLemmas.{skips, skips-paid}
use Rattle.document_walk.proofs.SparingLemmas.{spares-entering}
use Rattle.document_walk.proofs.WholeLemmas.{comes, not_come}
use Rattle.document_walk.proofs.StandingLemmas.{Entering, Pays, its_here, led_come, led_kept, led_turned, leaves_come, length_frames, live_at, misses, passes_come, passes_kept}

abbrev is_gone : Merge StyledNode → Bool
is_gone End = false
is_gone (Kept n c r) = false
is_gone (Turned was n c r) = false
is_gone (Gone n c r) = true
is_gone (Come n c r) = false

none_gone : (g : Forest (Keyed StyledNode)) → is_gone (all_come g) ≡ false
none_gone Empty = refl
none_gone (Tree n c r) = refl

-- a level on which all comes begins with a node that comes, or is at its end
comes_first : (level : Merge StyledNode) (key : ℕ) → level ≡ all_come (new_of level) → first_key (new_of level) ≡ Some key
    → (n : Keyed StyledNode) × ((c : Forest (Keyed StyledNode)) × ((r : Merge StyledNode) × (level ≡ Come n c r)))
comes_first End key h first = absurd (none-some key first)
comes_first (Kept n c r) key h first = (n, (new_of c, (all_come (new_of r), h)))
comes_first (Turned was n c r) key h first = (n, (new_of c, (all_come (new_of r), h)))
comes_first (Gone n c r) key h first = absurd (both_ways true (ap is_gone h ∙ none_gone (new_of r)) refl)
comes_first (Come n c r) key h first = (n, (c, (r, refl)))

ends_fresh : (level : Merge StyledNode) → level ≡ all_come (new_of level) → first_key (new_of level) ≡ None → level ≡ End
ends_fresh End h first = refl
ends_fresh (Kept n c r) h first = absurd (none-some n.key (sym first))
ends_fresh (Turned was n c r) h first = absurd (none-some n.key (sym first))
ends_fresh (Gone n c r) h first = absurd (both_ways true (ap is_gone h ∙ none_gone (new_of r)) refl)
ends_fresh (Come n c r) h first = absurd (none-some n.key (sym first))

fresh_level : (b : Bool) (level : Merge StyledNode) → IsFresh b level → b ≡ true → level ≡ all_come (new_of level)
fresh_level true level h is = h
fresh_level false level h is = absurd (both_ways true (sym is) refl)

-- the calls may be made
opens_as : (n : Keyed StyledNode) (i : Handing) → opens_styled n i → CanOpen n.key i
opens_as n None h = tt
opens_as n (Some around) h = h

pub closes_as : (n : Keyed StyledNode) (i behind : Handing) → closes_styled n i behind → CanClose n.key behind
closes_as n i None h = tt
closes_as n i (Some around) h = h

opens_first : (e : Evaluator StyledNode Told Handing) (g : Forest (Keyed StyledNode)) (i : Handing) (key : ℕ) → first_key g ≡ Some key → AllFit e styled_asks i g → CanOpen key i
opens_first e Empty i key first fit = absurd (none-some key first)
opens_first e (Tree n c r) i key first fit = subst (λ k. CanOpen k i) (same_Some _ _ first) (opens_as n i fit.0)

module _ (from : Reading) (kept : ℕ → Option Walked) (held : ℕ → Option Told) (all : List (ℕ × Told)) (most : ℕ) (sound : IsSound (styled_evaluator from.table)) (distinct : HasDistinctKeys from.tree)
    (walk : Catching) (steps : ℕ) (at : IsAt from kept held all most walk steps) where
  abbrev e : Evaluator StyledNode Told Handing
  e = styled_evaluator from.table

  abbrev state : State StyledNode Told Handing
  state = state_at walk steps at.above at.was_handed at.here

  abbrev Goes : Catching → ℕ → Type 0
  Goes new more = Reaches from kept held all most walk steps at new more

  abbrev Enters : Bool → List Stop → ℕ → Type 0
  Enters fresh later more = Entering from kept held all most sound walk steps at fresh later more

  pub can_open : (key : ℕ) → walk.link ≡ Some key → CanOpen key walk.around
  can_open key link = opens_first e (new_of at.here) walk.around key (sym at.first ∙ link) at.fits.here

  pub live : (key : ℕ) → walk.link ≡ Some key → IsLive from.tree key
  live key link = live_at from kept held all most sound walk steps at key link

  -- Where the walk is by the code's tests.

  fresh_frames : (bs : List OpenNode) → is_fresh_in (map (frame_of from) bs) ≡ is_fresh bs
  fresh_frames [] = refl
  fresh_frames (b ∷ bs) = refl

  fresh_is : is_fresh_in (frames_of walk) ≡ is_fresh at.above
  fresh_is = ap is_fresh_in at.frames ∙ fresh_frames at.above

  at_link : (b : Bool) → is_at (stops_left walk) (length (frames_of walk)) walk.link ≡ b → is_at (stops_left walk) (length at.above) (first_key (new_of at.here)) ≡ b
  at_link b h =
      ap (λ link. is_at (stops_left walk) (length at.above) link) (sym at.first)
      ∙ ap (λ d. is_at (stops_left walk) d walk.link) (sym (ap length at.frames ∙ length_frames from at.above)) ∙ h

  named_is : (key : ℕ) (n : Keyed StyledNode) (c r : Forest (Keyed StyledNode)) → walk.link ≡ Some key → new_of at.here ≡ Tree n c r → is_some (name_of from.tree key) ≡ is_element n.label
  named_is key n c r link is = (its_here from kept held all most sound walk steps at key n c r link is).element

  -- Elements that may be entered.

  kept_entering : (n : Keyed StyledNode) (c r : Merge StyledNode) (later : List Stop) (more : ℕ) → at.here ≡ Kept n c r → is_element n.label ≡ true → is_fresh at.above ≡ false
      → (has_place c || not (e.is_same walk.around at.was_handed)) ≡ true
      → IsTaken (has_place c) (stop_at is_element (length at.above) Inside (Kept n c r)) (stops_left walk) later → more ≤ steps + 3 → Enters false later more
  kept_entering n c r later more is element stays one taken few =
      let leaf = subst (HasLeaves is_element) is at.leaves in
      record {
        node = n;
        was = n;
        was_handed = e.within n at.was_handed;
        children = c;
        after = r;
        first = ap new_of is;
        element = element;
        turn = entering n c r later (more + length walk.told) is element stays one taken (omega (arith, few));
        spare = spares-entering state (opened state n n false r) n c r _ _ later (more + length walk.told) (ap new_of is) element refl (omega (arith, few));
        leaves = leaf.1;
        leaves_after = leaf.2;
        root = led_kept at.above n c r (subst (IsRootLed at.above) is at.root);
        cheap = λ h. absurd (cc);
        come = λ h. absurd (not_come at.here (ap comes is) h);
      }

  turned_entering : (was n : Keyed StyledNode) (c r : Merge StyledNode) (later : List Stop) (more : ℕ) → at.here ≡ Turned was n c r → is_fresh at.above ≡ false
      → stops_left walk ≡ stop_at is_element (length at.above) Inside (Turned was n c r) ∷ later → more ≤ steps + 3 → Enters false later more
  turned_entering was n c r later more is stays taken few =
      let leaf = subst (HasLeaves is_element) is at.leaves in
      record {
        node = n;
        was = was;
        was_handed = e.within was at.was_handed;
        children = c;
        after = r;
        first = ap new_of is;
        element = leaf.1;
        turn = entering_turned was n c r later (more + length walk.told) is leaf.1 leaf.0 leaf.2 stays taken (omega (arith, few));
        spare = spares-entering state (opened state n was false r) n c r _ _ later (more + length walk.told) (ap new_of is) leaf.1 refl (omega (arith, few));
        leaves = leaf.3;
        leaves_after = leaf.4;
        root = led_turned at.above was n c r (subst (IsRootLed at.above) is at.root);
        cheap = λ h. absurd (cc);
        come = λ h. absurd (not_come at.here (ap comes is) h);
      }

  come_entering : (n : Keyed StyledNode) (c : Forest (Keyed StyledNode)) (r : Merge StyledNode) (later : List Stop) (more : ℕ) → at.here ≡ Come n c r → is_element n.label ≡ true
      → IsTaken (not (is_fresh at.above)) (stop_at is_element (length at.above) Anew (Come n c r)) (stops_left walk) later → more ≤ steps + 2 → Enters true later more
  come_entering n c r later more is element taken few =
      let leaf = subst (HasLeaves is_element) is at.leaves in
      record {
        node = n;
        was = n;
        was_handed = at.was_handed;
        children = all_come c;
        after = r;
        first = ap new_of is ∙ ap (λ g. Tree n g (new_of r)) (sym (new-all_come c));
        element = element;
        turn = entering_fresh n c r later (more + length walk.told) is element taken (omega (arith, few));
        spare =
            spares-entering state (opened state n n true r) n (all_come c) r _ _ later (more + length walk.told)
            (ap new_of is ∙ ap (λ g. Tree n g (new_of r)) (sym (new-all_come c))) element refl (omega (arith, few));
        leaves = leaves_come c leaf.1;
        leaves_after = leaf.2;
        root = led_come at.above n c r (subst (IsRootLed at.above) is at.root);
        cheap = λ _. few;
        come = λ _. (refl, (c, (is, refl)));
      }

  -- At a stop.

  module _ (stop : Stop) (later : List Stop) (taken : stops_left walk ≡ stop ∷ later) (there : is_at (stops_left walk) (length (frames_of walk)) walk.link ≡ true) where
    stays : is_fresh at.above ≡ false
    stays = (at_stop e held all most state at.walks stop later taken (at_link true there)).0

    place : AtStop is_element at.above at.here stop
    place = (at_stop e held all most state at.walks stop later taken (at_link true there)).1

    element_inside : (n : Keyed StyledNode) (c r : Merge StyledNode) (b : Bool) → is_element n.label ≡ b → at.here ≡ Kept n c r → has_place c ≡ true → b ≡ true
    element_inside n c r true h is some = refl
    element_inside n c r false h is some = absurd (let none : c ≡ End = (subst (HasLeaves is_element) is at.leaves).0 h in both_ways (has_place c) (ap has_place none) some)

    inside_cases : (more : ℕ) → stop.way ≡ Inside → more ≤ steps + 3 → AtStop is_element at.above at.here stop → Enters false later more
    inside_cases more way few (at_kept n c r is some s) =
        kept_entering n c r later more is (element_inside n c r (is_element n.label) refl is some) stays (rw some refl)
        (taken ∙ ap (λ s. s ∷ later) s ∙ sym (ap (λ b. cond b (stop_at is_element (length at.above) Inside (Kept n c r) ∷ later) later) some)) few
    inside_cases more way few (at_turned was n c r is s) = turned_entering was n c r later more is stays (taken ∙ ap (λ s. s ∷ later) s) few
    inside_cases more way few (at_gone n c r is s) = absurd (let clash : Inside ≡ Past = sym way ∙ ap (λ (s : Stop). s.way) s in cc)
    inside_cases more way few (at_come n c r is s) = absurd (let clash : Inside ≡ Anew = sym way ∙ ap (λ (s : Stop). s.way) s in cc)

    pub inside_entering : (more : ℕ) → stop.way ≡ Inside → more ≤ steps + 3 → Enters false later more
    inside_entering more way few = inside_cases more way few place

    taken_fresh : (n : Keyed StyledNode) (c : Forest (Keyed StyledNode)) (r : Merge StyledNode) → stop ≡ stop_at is_element (length at.above) Anew (Come n c r)
        → IsTaken (not (is_fresh at.above)) (stop_at is_element (length at.above) Anew (Come n c r)) (stops_left walk) later
    taken_fresh n c r s = taken ∙ ap (λ s. s ∷ later) s ∙ sym (ap (λ b. cond (not b) (stop_at is_element (length at.above) Anew (Come n c r) ∷ later) later) stays)

    anew_cases : (key more : ℕ) → stop.way ≡ Anew → walk.link ≡ Some key → is_some (name_of from.tree key) ≡ true → more ≤ steps + 2 → AtStop is_element at.above at.here stop → Enters true later more
    anew_cases key more way link named few (at_kept n c r is some s) = absurd (let clash : Anew ≡ Inside = sym way ∙ ap (λ (s : Stop). s.way) s in cc)
    anew_cases key more way link named few (at_turned was n c r is s) = absurd (let clash : Anew ≡ Inside = sym way ∙ ap (λ (s : Stop). s.way) s in cc)
    anew_cases key more way link named few (at_gone n c r is s) = absurd (let clash : Anew ≡ Past = sym way ∙ ap (λ (s : Stop). s.way) s in cc)
    anew_cases key more way link named few (at_come n c r is s) =
        come_entering n c r later more is (sym (named_is key n c (new_of r) link (ap new_of is)) ∙ named) (taken_fresh n c r s) few

    pub anew_entering : (key more : ℕ) → stop.way ≡ Anew → walk.link ≡ Some key → is_some (name_of from.tree key) ≡ true → more ≤ steps + 2 → Enters true later more
    anew_entering key more way link named few = anew_cases key more way link named few place

    module _ (new : Catching) (frames : frames_of new ≡ frames_of walk) (around : new.around ≡ walk.around) (told : new.told ≡ walk.told) (changes : new.changes ≡ walk.changes) (stops : stops_left new ≡ later) where
      past_cases : stop.way ≡ Past → new.link ≡ walk.link → AtStop is_element at.above at.here stop → Goes new steps
      past_cases way link (at_kept n c r is some s) = absurd (let clash : Past ≡ Inside = sym way ∙ ap (λ (s : Stop). s.way) s in cc)
      past_cases way link (at_turned was n c r is s) = absurd (let clash : Past ≡ Inside = sym way ∙ ap (λ (s : Stop). s.way) s in cc)
      past_cases way link (at_come n c r is s) = absurd (let clash : Past ≡ Anew = sym way ∙ ap (λ (s : Stop). s.way) s in cc)
      past_cases way link (at_gone n c r is s) = misses from kept held all most sound walk steps at new stop later frames around told stops link n c r is stays taken

      pub past_turn : stop.way ≡ Past → new.link ≡ walk.link → Goes new steps
      past_turn way link = past_cases way link place

      text_cases : (key : ℕ) → stop.way ≡ Anew → walk.link ≡ Some key → new.link ≡ next_sibling_of from.tree key → is_some (name_of from.tree key) ≡ false → AtStop is_element at.above at.here stop → Goes new steps
      text_cases key way link next named (at_kept n c r is some s) = absurd (let clash : Anew ≡ Inside = sym way ∙ ap (λ (s : Stop). s.way) s in cc)
      text_cases key way link next named (at_turned was n c r is s) = absurd (let clash : Anew ≡ Inside = sym way ∙ ap (λ (s : Stop). s.way) s in cc)
      text_cases key way link next named (at_gone n c r is s) = absurd (let clash : Anew ≡ Past = sym way ∙ ap (λ (s : Stop). s.way) s in cc)
      text_cases key way link next named (at_come n c r is s) =
          passes_come from kept held all most sound walk steps at distinct new key later link frames around told changes stops next named n c r is (taken_fresh n c r s)

      pub text_turn : (key : ℕ) → stop.way ≡ Anew → walk.link ≡ Some key → new.link ≡ next_sibling_of from.tree key → is_some (name_of from.tree key) ≡ false → Goes new steps
      text_turn key way link next named = text_cases key way link next named place

    link_cases : walk.link ≡ None → AtStop is_element at.above at.here stop → stop.way ≡ Past
    link_cases link (at_kept n c r is some s) = absurd (none-some n.key (sym link ∙ at.first ∙ ap (λ m. first_key (new_of m)) is))
    link_cases link (at_turned was n c r is s) = absurd (none-some n.key (sym link ∙ at.first ∙ ap (λ m. first_key (new_of m)) is))
    link_cases link (at_gone n c r is s) = ap (λ (s : Stop). s.way) s
    link_cases link (at_come n c r is s) = absurd (none-some n.key (sym link ∙ at.first ∙ ap (λ m. first_key (new_of m)) is))

    -- a stop into a tree has a link
    pub link_there : walk.link ≡ None → stop.way ≡ Past
    link_there link = link_cases link place

  -- Off the stops.

  -- the node at which the walk stands is kept and has no place under it, or comes on a fresh level
  pub data NodeIs : Type 0 where
    kept_is : (n : Keyed StyledNode) (c r : Merge StyledNode) → at.here ≡ Kept n c r → has_place c ≡ false → is_fresh at.above ≡ false → NodeIs
    come_is : (n : Keyed StyledNode) (c : Forest (Keyed StyledNode)) (r : Merge StyledNode) → at.here ≡ Come n c r → is_fresh at.above ≡ true → NodeIs

  level_is : is_fresh at.above ≡ true → at.here ≡ all_come (new_of at.here)
  level_is fresh = fresh_level (is_fresh at.above) at.here at.walks.fresh fresh

  module _ (off : is_at (stops_left walk) (length (frames_of walk)) walk.link ≡ false) where
    off_is : is_fresh at.above ≡ false → OffStop at.here
    off_is stays = off_stop e held all most state at.walks stays (at_link false off)

    node_off : (key : ℕ) → walk.link ≡ Some key → is_fresh at.above ≡ false → OffStop at.here → NodeIs
    node_off key link stays (at_end is) = absurd (none-some key (sym (ap (λ m. first_key (new_of m)) is) ∙ sym at.first ∙ link))
    node_off key link stays (at_same n c r is none) = kept_is n c r is none stays

    node_fresh : (key : ℕ) → walk.link ≡ Some key → is_fresh at.above ≡ true → NodeIs
    node_fresh key link fresh =
        let first = comes_first at.here key (level_is fresh) (sym at.first ∙ link) in
        come_is first.0 first.1.0 first.1.1.0 first.1.1.1 fresh

    node_is : (key : ℕ) → walk.link ≡ Some key → NodeIs
    node_is key link = elim (cases_Bool (is_fresh at.above)) [
      | inl fresh ↦ node_fresh key link fresh
      | inr stays ↦ node_off key link stays (off_is stays)
    ]

    end_off : walk.link ≡ None → OffStop at.here → at.here ≡ End
    end_off link (at_end is) = is
    end_off link (at_same n c r is none) = absurd (none-some n.key (sym link ∙ at.first ∙ ap (λ m. first_key (new_of m)) is))

    pub end_is : walk.link ≡ None → at.here ≡ End
    end_is link = elim (cases_Bool (is_fresh at.above)) [
      | inl fresh ↦ ends_fresh at.here (level_is fresh) (sym at.first ∙ link)
      | inr stays ↦ end_off link (off_is stays)
    ]

    -- what was kept of an element tells what it was handed
    tested : (key : ℕ) (n : Keyed StyledNode) (c r : Merge StyledNode) → at.here ≡ Kept n c r → n.key ≡ key → is_element n.label ≡ true → is_same_at kept key walk.around ≡ e.is_same walk.around at.was_handed
    tested key n c r is key_is element =
        let holds = all-left (λ (x : ℕ × Told). held x.0 ≡ Some x.1) (told_all e at.was_handed (old_of at.here)) _ at.walks.holds in
        let told = told_by_first e sound held (old_of (Kept n c r)) at.was_handed n.key (rw element refl) (subst (λ m. All (λ (x : ℕ × Told). held x.0 ≡ Some x.1) (told_all e at.was_handed (old_of m))) is holds) in
        ap (λ k. is_same_at kept k walk.around) (sym key_is)
        ∙ ap (λ o. option_map_or (λ (walked : Walked). option_eq is_same walk.around walked.handed) o false) (at.read n.key ∙ ap (option_map (λ (told : Told). told.walked)) told.1)
        ∙ ap (option_eq is_same walk.around) told.2

    come_taken : (n : Keyed StyledNode) (c : Forest (Keyed StyledNode)) (r : Merge StyledNode) → is_fresh at.above ≡ true → IsTaken (not (is_fresh at.above)) (stop_at is_element (length at.above) Anew (Come n c r)) (stops_left walk) (stops_left walk)
    come_taken n c r fresh = sym (ap (λ b. cond (not b) (stop_at is_element (length at.above) Anew (Come n c r) ∷ stops_left walk) (stops_left walk)) fresh)

    module _ (key : ℕ) (link : walk.link ≡ Some key) where
      passes_cases : (new : Catching) → frames_of new ≡ frames_of walk → new.around ≡ walk.around → new.told ≡ walk.told → new.changes ≡ walk.changes → stops_left new ≡ stops_left walk → new.link ≡ next_sibling_of from.tree key
          → is_some (name_of from.tree key) ≡ false → NodeIs → Goes new steps
      passes_cases new frames around told changes stops next named (kept_is n c r is none stays) =
          passes_kept from kept held all most sound walk steps at distinct new key (stops_left walk) link frames around told changes stops next named n c r is refl
      passes_cases new frames around told changes stops next named (come_is n c r is fresh) =
          passes_come from kept held all most sound walk steps at distinct new key (stops_left walk) link frames around told changes stops next named n c r is (come_taken n c r fresh)

      pub passes_turn : (new : Catching) → frames_of new ≡ frames_of walk → new.around ≡ walk.around → new.told ≡ walk.told → new.changes ≡ walk.changes → stops_left new ≡ stops_left walk → new.link ≡ next_sibling_of from.tree key
          → is_some (name_of from.tree key) ≡ false → Goes new steps
      passes_turn new frames around told changes stops next named = passes_cases new frames around told changes stops next named (node_is key link)

      module _ (named : is_some (name_of from.tree key) ≡ true) where
        element_is : (n : Keyed StyledNode) (c r : Forest (Keyed StyledNode)) → new_of at.here ≡ Tree n c r → is_element n.label ≡ true
        element_is n c r is = sym (named_is key n c r link is) ∙ named

        same_test : (b : Bool) → is_same_at kept key walk.around ≡ b → (n : Keyed StyledNode) (c r : Merge StyledNode) → at.here ≡ Kept n c r → e.is_same walk.around at.was_handed ≡ b
        same_test b test n c r is =
            let its = its_here from kept held all most sound walk steps at key n (new_of c) (new_of r) link (ap new_of is) in
            sym (tested key n c r is its.key_is (element_is n (new_of c) (new_of r) (ap new_of is))) ∙ test

        fresh_cases : (more : ℕ) → is_fresh at.above ≡ true → more ≤ steps + 2 → NodeIs → Enters true (stops_left walk) more
        fresh_cases more fresh few (kept_is n c r is none stays) = absurd (both_ways (is_fresh at.above) stays fresh)
        fresh_cases more fresh few (come_is n c r is _) = come_entering n c r (stops_left walk) more is (element_is n c (new_of r) (ap new_of is)) (come_taken n c r fresh) few

        pub fresh_entering : (more : ℕ) → is_fresh_in (frames_of walk) ≡ true → more ≤ steps + 2 → Enters true (stops_left walk) more
        fresh_entering more fresh few = fresh_cases more (sym fresh_is ∙ fresh) few (node_is key link)

        other_cases : (more : ℕ) → is_fresh at.above ≡ false → is_same_at kept key walk.around ≡ false → more ≤ steps + 3 → NodeIs → Enters false (stops_left walk) more
        other_cases more stays test few (come_is n c r is fresh) = absurd (both_ways (is_fresh at.above) stays fresh)
        other_cases more stays test few (kept_is n c r is none _) =
            let other = same_test false test n c r is in
            kept_entering n c r (stops_left walk) more is (element_is n (new_of c) (new_of r) (ap new_of is)) stays (rw (none, other) refl)
            (sym (ap (λ b. cond b (stop_at is_element (length at.above) Inside (Kept n c r) ∷ stops_left walk) (stops_left walk)) none)) few

        pub other_entering : (more : ℕ) → is_fresh_in (frames_of walk) ≡ false → is_same_at kept key walk.around ≡ false → more ≤ steps + 3 → Enters false (stops_left walk) more
        other_entering more fresh test few = other_cases more (sym fresh_is ∙ fresh) test few (node_is key link)

        skip_cases : (new : Catching) (more : ℕ) → is_fresh at.above ≡ false → is_same_at kept key walk.around ≡ true → HasSkipped kept walk new → more ≤ steps + 2 → NodeIs → Goes new more
        skip_cases new more stays test h few (come_is n c r is fresh) = absurd (both_ways (is_fresh at.above) stays fresh)
        skip_cases new more stays test h few (kept_is n c r is none _) =
            skips from kept held all most sound walk steps at more stays n c r is (element_is n (new_of c) (new_of r) (ap new_of is)) none (same_test true test n c r is) few distinct new h

        pub skip_turn : (new : Catching) (more : ℕ) → is_fresh_in (frames_of walk) ≡ false → is_same_at kept key walk.around ≡ true → HasSkipped kept walk new → more ≤ steps + 2 → Goes new more
        skip_turn new more fresh test h few = skip_cases new more (sym fresh_is ∙ fresh) test h few (node_is key link)

        skip_most_cases : (more : ℕ) → is_fresh at.above ≡ false → is_same_at kept key walk.around ≡ true → more ≤ steps + 2 → NodeIs → Pays from kept held all most sound walk steps at more
        skip_most_cases more stays test few (come_is n c r is fresh) = absurd (both_ways (is_fresh at.above) stays fresh)
        skip_most_cases more stays test few (kept_is n c r is none _) = skips-paid from kept held all most sound walk steps at more stays n c r is (element_is n (new_of c) (new_of r) (ap new_of is)) none (same_test true test n c r is) few

        pub skip_most : (more : ℕ) → is_fresh_in (frames_of walk) ≡ false → is_same_at kept key walk.around ≡ true → more ≤ steps + 2 → Pays from kept held all most sound walk steps at more
        skip_most more fresh test few = skip_most_cases more (sym fresh_is ∙ fresh) test few (node_is key link)
