-- Trees are skipped up to the next place of a level, or to its end. Throughout, n is a styled node, c what is under it, r
-- what is after it, m a merge, b the innermost open node and bs those above it.
use Rattle.std.proofs.Common.{◌≡◌, ◌+◌, ◌≤◌, ◌==◌, ◌∷◌, ℕ, suc, Bool, true, false, cond, List, [], length, Option, Some, None, refl, sym, ap, subst, ◌∙◌, arith, reverse, eqb-true}
use Rattle.std.specs.Prelude.{is_some, map, option_map}
use Rattle.std.specs.Option.{option_and_then}
use Rattle.std.proofs.lemmas.Bool.{both_ways}
use Rattle.forest.specs.Keys.{Keyed, HasDistinctKeys}
use Rattle.forest.specs.Spots.{IsLink, first_key, on_link}
use Rattle.forest.proofs.SpotLaws.{on_next}
use Rattle.plain_types.specs.declared.style.Style.{Style}
use Rattle.box_eval.specs.Evaluation.{StyledNode, styled_trees}
use Rattle.merged_walk.specs.declared.stop.Stop.{Stop}
use Rattle.merged_walk.specs.Evaluators.{Evaluator, IsSound, past_all, told_all}
use Rattle.merged_walk.specs.Merges.{Merge, End, Kept, Turned, Gone, Come, from_place, has_place, new_of, old_of}
use Rattle.merged_walk.specs.Stops.{first_element, is_ahead}
use Rattle.merged_walk.specs.Walks.{State, Walks, handed_at_place, is_fresh}
use Rattle.merged_walk.specs.WalkTurns.{WalkTurn, skipping}
use Rattle.merged_walk.proofs.AtStops.{goes_to, goes_up}
use Rattle.merged_walk.proofs.EntryLaws.{all-left}
use Rattle.merged_walk.proofs.MergeLaws.{from_place-again}
use Rattle.merged_walk.proofs.ToldLaws.{told_by_first, told_by_none, told_by_parent}
use Rattle.merged_walk.proofs.WalkLaws.{goes_on}
use Rattle.surroundings.specs.declared.told.Told.{Told}
use Rattle.surroundings.specs.declared.walked.Walked.{Walked}
use Rattle.surroundings.specs.MergedLevels.{HasLeaves}
use Rattle.surroundings.specs.StyledEvaluators.{is_element, past_styled, styled_evaluator}
use Rattle.document_walk.specs.declared.catching.Catching.{Catching}
use Rattle.document_walk.specs.Catching.{HasSkipped, Reading, frames_of, from_of, link_of, parent_in, stop_ahead, stops_left, told_at}
use Rattle.document_walk.specs.Machinery.Standing.{Handing, IsAt, IsRootLed, OpenNode, Reaches, frame_of, parent_style, state_at}
use Rattle.document_walk.proofs.NodeLemmas.{boxed_as, boxed_past, here_is, next_first}
use Rattle.document_walk.proofs.SparingLemmas.{Sparing, spares-skipping}
use Rattle.document_walk.proofs.WholeLemmas.{comes, not_come}
use Rattle.document_walk.proofs.StandingLemmas.{Pays, arrives, length_frames, paid}

leaves_if : (n : Keyed StyledNode) (c r : Merge StyledNode) (b : Bool) → HasLeaves is_element (Kept n c r) → HasLeaves is_element (from_place r) → HasLeaves is_element (cond b (Kept n c r) (from_place r))
leaves_if n c r true h rest = h
leaves_if n c r false h rest = rest

leaves_from : (m : Merge StyledNode) → HasLeaves is_element m → HasLeaves is_element (from_place m)
leaves_from End h = h
leaves_from (Kept n c r) h = leaves_if n c r (has_place c) h (leaves_from r h.2)
leaves_from (Turned was n c r) h = h
leaves_from (Gone n c r) h = h
leaves_from (Come n c r) h = h

module _ (from : Reading) where
  abbrev e : Evaluator StyledNode Told Handing
  e = styled_evaluator from.table

  -- the trees of the level stand at its link
  pub record IsLevel (parent : Option Style) (m : Merge StyledNode) : Type 0 where
    pub leads : IsLink from.tree (first_key (new_of m))
    pub on : styled_trees from.style from.start parent (on_link from.tree (first_key (new_of m))) ≡ new_of m

  level_if : HasDistinctKeys from.tree → (parent : Option Style) (n : Keyed StyledNode) (c r : Merge StyledNode) (b : Bool) → IsLevel parent (Kept n c r) → (IsLevel parent r → IsLevel parent (from_place r))
      → IsLevel parent (cond b (Kept n c r) (from_place r))
  level_if distinct parent n c r true h rest = h
  level_if distinct parent n c r false h rest =
      let its = here_is from parent n.key n (new_of c) (new_of r) h.leads h.on in
      let beside = on_next from.tree n.key distinct h.leads in
      let next = next_first from parent n.key (new_of r) its.after in
      rest (record {
        leads = subst (IsLink from.tree) next beside.1;
        on = ap (λ link. styled_trees from.style from.start parent (on_link from.tree link)) (sym next) ∙ ap (styled_trees from.style from.start parent) beside.0 ∙ its.after;
      })

  level_from : HasDistinctKeys from.tree → (parent : Option Style) (m : Merge StyledNode) → IsLevel parent m → IsLevel parent (from_place m)
  level_from distinct parent End h = h
  level_from distinct parent (Kept n c r) h = level_if distinct parent n c r (has_place c) h (level_from distinct parent r)
  level_from distinct parent (Turned was n c r) h = h
  level_from distinct parent (Gone n c r) h = h
  level_from distinct parent (Come n c r) h = h

  -- something is handed there where something is handed before
  boxed_skip : (m : Merge StyledNode) (i : Handing) → is_some (handed_at_place e i m) ≡ is_some i
  boxed_skip End i = refl
  boxed_skip (Kept n c r) i =
      let next : Handing = past_styled from.table n i (past_all e (e.within n i) (new_of c)) in
      elim (has_place c) as (λ b. is_some (cond b i (handed_at_place e next r)) ≡ is_some i) [
        | true ↦ refl
        | false ↦ boxed_skip r next ∙ boxed_past from n i (past_all e (e.within n i) (new_of c))
      ]
  boxed_skip (Turned was n c r) i = refl
  boxed_skip (Gone n c r) i = refl
  boxed_skip (Come n c r) i = refl

  module _ (kept : ℕ → Option Walked) (held : ℕ → Option Told) (all : List (ℕ × Told)) (most : ℕ) (sound : IsSound (styled_evaluator from.table)) where
    -- What was kept tells what is handed behind the trees that are skipped.
    module _ (read : (key : ℕ) → kept key ≡ option_map (λ (told : Told). told.walked) (held key)) (b : OpenNode) (bs : List OpenNode) (a : Handing) (here : Merge StyledNode) (stops : List Stop)
        (changes : List (ℕ × Told)) (spent : ℕ) (w : Walks e held all most (record { above = b ∷ bs; handed = a; was_handed = a; here = here; stops = stops; changes = changes; spent = spent }))
        (stays : b.fresh ≡ false) (place : from_place here ≡ here) where
      abbrev state : State StyledNode Told Handing
      state = record { above = b ∷ bs; handed = a; was_handed = a; here = here; stops = stops; changes = changes; spent = spent }

      pub record Reads (stop : Option Stop) : Type 0 where
        pub link : link_of stop ≡ first_key (new_of here)
        pub handed : told_at kept (from_of stop) (Some b.node.key) ≡ a

      by_parent : past_all e a (old_of here) ≡ a → told_at kept None (Some b.node.key) ≡ a
      by_parent same =
          let told = told_by_parent e sound held b bs a here w.elements.1 w.elements.2 stays w.holds in
          ap (option_and_then (λ (walked : Walked). walked.behind)) (read b.node.key ∙ ap (option_map (λ (told : Told). told.walked)) told.1) ∙ told.2 ∙ same

      reads_end : here ≡ End → Reads None
      reads_end is = record { link = ap (λ m. first_key (new_of m)) (sym is); handed = by_parent (ap (λ m. past_all e a (old_of m)) is) }

      reads_from : (source : Option ℕ) → first_element is_element (old_of here) ≡ source → told_at kept source (Some b.node.key) ≡ a
      reads_from None is = by_parent (told_by_none e sound held (old_of here) a is)
      reads_from (Some k) is =
          let told = told_by_first e sound held (old_of here) a k is (all-left (λ (x : ℕ × Told). held x.0 ≡ Some x.1) (told_all e a (old_of here)) _ w.holds) in
          ap (option_and_then (λ (walked : Walked). walked.handed)) (read k ∙ ap (option_map (λ (told : Told). told.walked)) told.1) ∙ told.2

      reads_if : (stop : Stop) (later : List Stop) (t : Bool) → stops ≡ stop ∷ later → (stop.depth == suc (length bs)) ≡ t → Reads (cond t (Some stop) None)
      reads_if stop later true is deep =
          let to = goes_to e held all most state w stays place stop later is (eqb-true stop.depth (suc (length bs)) deep) in
          record { link = to.link; handed = reads_from stop.from (sym to.from) }
      reads_if stop later false is deep = reads_end (goes_up e held all most state w stays place (ap (λ stops. is_ahead stops (suc (length bs))) is ∙ deep))

      reads_all : (s : List Stop) → stops ≡ s → Reads (stop_ahead s (suc (length bs)))
      reads_all [] is = reads_end (goes_up e held all most state w stays place (ap (λ stops. is_ahead stops (suc (length bs))) is))
      reads_all (stop ∷ later) is = reads_if stop later (stop.depth == suc (length bs)) is refl

    module _ (walk : Catching) (steps : ℕ) (at : IsAt from kept held all most walk steps) (more : ℕ) (stays : is_fresh at.above ≡ false) (n : Keyed StyledNode) (c r : Merge StyledNode) (is : at.here ≡ Kept n c r)
        (element : is_element n.label ≡ true) (none : has_place c ≡ false) (same : e.is_same walk.around at.was_handed ≡ true) (few : more ≤ steps + 2) where
      abbrev there : Handing
      there = handed_at_place e walk.around (Kept n c r)

      abbrev next : State StyledNode Told Handing
      next = record { above = at.above; handed = there; was_handed = there; here = from_place (Kept n c r); stops = stops_left walk; changes = walk.told; spent = more + length walk.told }

      skip : WalkTurn e (state_at walk steps at.above at.was_handed at.here) next
      skip = skipping n c r (more + length walk.told) is stays none same (omega (arith, few))

      spare : Sparing (state_at walk steps at.above at.was_handed at.here) next
      spare = spares-skipping (state_at walk steps at.above at.was_handed at.here) n c r there there (more + length walk.told) is element none (omega (arith, few))

      pub skips-paid : Pays from kept held all most sound walk steps at more
      skips-paid = paid from kept held all most sound walk steps at next more skip spare refl (λ collected limit w. absurd (not_come at.here (ap comes is) w.come))

      module _ (distinct : HasDistinctKeys from.tree) (new : Catching) (h : HasSkipped kept walk new) where
        skips_from : (bs : List OpenNode) → at.above ≡ bs → Reaches from kept held all most walk steps at new more
        skips_from [] above = absurd (both_ways (has_place c) none (subst (λ m. IsRootLed [] m) is (subst (λ bs. IsRootLed bs at.here) above at.root)).0)
        skips_from (b ∷ bs) above =
            let went = goes_on e held all most sound (state_at walk steps at.above at.was_handed at.here) next skip at.walks in
            let reads = reads_all at.read b bs there (from_place (Kept n c r)) (stops_left walk) walk.told (more + length walk.told)
            (subst (λ bs. Walks e held all most (record next { above = bs })) above went.0) (subst (λ bs. is_fresh bs ≡ false) above stays) (from_place-again (Kept n c r)) (stops_left walk) refl in
            let frames = at.frames ∙ ap (map (frame_of from)) above in
            let deep : length (frames_of walk) ≡ suc (length bs) = ap length frames ∙ ap suc (length_frames from bs) in
            let top : parent_in (frames_of walk) ≡ Some b.node.key = ap parent_in frames in
            let link : new.link ≡ first_key (new_of (from_place (Kept n c r))) = h.link ∙ ap (λ d. link_of (stop_ahead (stops_left walk) d)) deep ∙ reads.link in
            let parent = parent_style at.above in
            let level : IsLevel parent (Kept n c r) = record {
              leads = subst (IsLink from.tree) (at.first ∙ ap (λ m. first_key (new_of m)) is) at.leads;
              on = ap (λ link. styled_trees from.style from.start parent (on_link from.tree link)) (sym (at.first ∙ ap (λ m. first_key (new_of m)) is)) ∙ at.on ∙ ap new_of is;
            } in
            let to = level_from distinct parent (Kept n c r) level in
            arrives from kept held all most sound walk steps at new more next skip (record {
              frames = ap (λ (stack : _). reverse stack.items) h.stack ∙ at.frames;
              around =
                  h.around ∙ ap (λ d. told_at kept (from_of (stop_ahead (stops_left walk) d)) (parent_in (frames_of walk))) deep
                  ∙ ap (told_at kept (from_of (stop_ahead (stops_left walk) (suc (length bs))))) top ∙ reads.handed;
              stops = ap (λ (stops : _). reverse stops.items) h.stops;
              told = h.told;
              count = refl;
              boxed = boxed_as from at.above there walk.around (boxed_skip (Kept n c r) walk.around) at.boxed;
              first = link;
              leads = subst (IsLink from.tree) (sym link) to.leads;
              on = ap (λ link. styled_trees from.style from.start parent (on_link from.tree link)) link ∙ to.on;
              leaves = leaves_from (Kept n c r) (subst (HasLeaves is_element) is at.leaves);
              stands = at.stands;
              root = subst (λ bs. IsRootLed bs (from_place (Kept n c r))) (sym above) (subst (λ bs. IsRootLed bs at.here) above at.root);
            }) spare (λ spared collected limit w. absurd (not_come at.here (ap comes is) w.come))

        pub skips : Reaches from kept held all most walk steps at new more
        skips = skips_from at.above refl
