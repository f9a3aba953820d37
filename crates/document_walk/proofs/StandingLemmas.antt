-- A walk goes on where its values say so. Throughout, n is a styled node, c what is under it, r what is after it, b an
-- open node, bs those above it, and i and j what is handed and was handed.
use Rattle.std.proofs.Common.{◌≡◌, ◌+◌, ◌<◌, ◌≤◌, ◌∷◌, ◌++◌, ℕ, suc, Bool, true, false, List, [], length, Option, Some, refl, sym, ap, subst, ◌∙◌, arith, reverse}
use Rattle.std.specs.Prelude.{is_some, map, not}
use Rattle.std.specs.Option.{option_and_then}
use Rattle.forest.specs.Forest.{Forest, Empty, Tree, size}
use Rattle.forest.specs.Keys.{Keyed, HasDistinctKeys}
use Rattle.forest.specs.Spots.{IsLink, IsLive, after_of, children_of, first_key, next_sibling_of, on_link}
use Rattle.forest.proofs.SpotLaws.{on_first, on_next}
use Rattle.node_arena.specs.Nodes.{name_of, node_name}
use Rattle.box_eval.specs.declared.change.Change.{Change}
use Rattle.box_eval.specs.Evaluation.{StyledNode, changes_in, styled_trees}
use Rattle.merged_walk.specs.declared.stop.Stop.{Stop}
use Rattle.merged_walk.specs.Evaluators.{Evaluator, IsSound, told}
use Rattle.merged_walk.specs.Merges.{Merge, End, Kept, Turned, Gone, Come, all_come, new_of}
use Rattle.merged_walk.specs.Walks.{Fits, State, AreElements, Walks, is_fresh, left, left_behind, news}
use Rattle.merged_walk.specs.declared.stop.Way.TheVariants.{Anew}
use Rattle.merged_walk.specs.Stops.{stop_at}
use Rattle.merged_walk.specs.WalkTurns.{IsTaken, WalkTurn, leaving, missing, opened, passing, passing_fresh}
use Rattle.merged_walk.proofs.FitTurns.{fits-turn}
use Rattle.merged_walk.proofs.MergeLaws.{all_come-new, new-all_come}
use Rattle.merged_walk.proofs.WalkLaws.{goes_on, spent-within}
use Rattle.surroundings.specs.declared.told.Told.{Told}
use Rattle.surroundings.specs.declared.walked.Walked.{Walked}
use Rattle.surroundings.specs.MergedLevels.{AreLeaves, HasLeaves}
use Rattle.surroundings.specs.StyledEvaluators.{inside_node, is_element, kept_of, past_styled, styled_asks, styled_evaluator}
use Rattle.document_walk.specs.declared.catching.Catching.{Catching}
use Rattle.document_walk.specs.declared.catching.OpenElement.{OpenElement}
use Rattle.document_walk.specs.Catching.{HasEntered, HasLeft, Reading, frames_of, inside_opened, opened_at, past_by, said_by, stops_left, told_by, with_changes}
use Rattle.document_walk.specs.Machinery.Standing.{AllCome, AreBoxed, Handing, IsAt, IsRootLed, IsWhole, OpenNode, Reaches, Spares, Stands, changes_left, elements_behind, elements_in, elements_left, frame_of, left_frames, left_of, opened_of, parent_style, spared_for, state_at, style_in}
use Rattle.document_walk.specs.TreeChanges.{changes_after_children, changes_before_children}
use Rattle.document_walk.specs.Walking.{changes_before}
use Rattle.document_walk.proofs.ChangeLemmas.{changes_entered, changes_opened, changes_passed, with-more}
use Rattle.document_walk.proofs.SparingLemmas.{Sparing, behind_is, behind_open, elements, elements-after, elements_of, one_longer, same_elements, spares-leaving, spares-passing, styled_elements}
use Rattle.document_walk.proofs.WholeLemmas.{come_after, comes, news_entered, news_left, news_passed, not_come}
use Rattle.document_walk.proofs.NodeLemmas.{Here, boxed_as, boxed_inside, boxed_past, child_first, here_is, inside_is, is_left, next_first, opens_at, style_down, styled_size}

pub falls : (a b x y : ℕ) → a ≡ x → b ≡ y → x < y → a < b
falls a b x y p q h = omega (arith, p, q, h)

-- What is known of the levels behind a node.

pub leaves_come : (g : Forest (Keyed StyledNode)) → AreLeaves is_element g → HasLeaves is_element (all_come g)
leaves_come Empty h = tt
leaves_come (Tree n c r) h = (h.0, h.1, leaves_come r h.2)

pub led_kept : (bs : List OpenNode) (n : Keyed StyledNode) (c r : Merge StyledNode) → IsRootLed bs (Kept n c r) → IsRootLed bs r
led_kept [] n c r h = h.1
led_kept (b ∷ bs) n c r h = h

pub led_turned : (bs : List OpenNode) (was n : Keyed StyledNode) (c r : Merge StyledNode) → IsRootLed bs (Turned was n c r) → IsRootLed bs r
led_turned [] was n c r h = h
led_turned (b ∷ bs) was n c r h = h

pub led_come : (bs : List OpenNode) (n : Keyed StyledNode) (c : Forest (Keyed StyledNode)) (r : Merge StyledNode) → IsRootLed bs (Come n c r) → IsRootLed bs r
led_come [] n c r h = h
led_come (b ∷ bs) n c r h = h

pub led_gone : (bs : List OpenNode) (n : Keyed StyledNode) (c : Forest (Keyed StyledNode)) (r : Merge StyledNode) → IsRootLed bs (Gone n c r) → IsRootLed bs r
led_gone [] n c r h = h
led_gone (b ∷ bs) n c r h = h

-- a state is what a walk's values say
state_is : (new : Catching) (more : ℕ) (next : State StyledNode Told Handing) → new.around ≡ next.handed → stops_left new ≡ next.stops → new.told ≡ next.changes → more + length next.changes ≡ next.spent
    → state_at new more next.above next.was_handed next.here ≡ next
state_is new more next around stops told count =
    ap (λ i. record { above = next.above; handed = i; was_handed = next.was_handed; here = next.here; stops = stops_left new; changes = new.told; spent = more + length new.told }) around
    ∙ ap (λ s. record { above = next.above; handed = next.handed; was_handed = next.was_handed; here = next.here; stops = s; changes = new.told; spent = more + length new.told }) stops
    ∙ ap (λ t. record { above = next.above; handed = next.handed; was_handed = next.was_handed; here = next.here; stops = next.stops; changes = t; spent = more + length t }) told
    ∙ ap (λ k. record { above = next.above; handed = next.handed; was_handed = next.was_handed; here = next.here; stops = next.stops; changes = next.changes; spent = k }) count

module _ (from : Reading) where
  pub length_frames : (bs : List OpenNode) → length (map (frame_of from) bs) ≡ length bs
  length_frames [] = refl
  length_frames (b ∷ bs) = ap suc (length_frames bs)

  -- The measure, in the code's values.

  left_open : (bs : List OpenNode) → Stands from bs → left_frames from (map (frame_of from) bs) ≡ left_behind bs
  left_open [] h = refl
  left_open (b ∷ bs) h =
      let after : size (after_of from.tree b.node.key) ≡ size (new_of b.after) = sym (styled_size from (parent_style bs) (after_of from.tree b.node.key)) ∙ ap size h.2 in
      omega (arith, after, left_open bs h.4)

  module _ (kept : ℕ → Option Walked) (held : ℕ → Option Told) (all : List (ℕ × Told)) (most : ℕ) where
    left_is : (walk : Catching) (steps : ℕ) (at : IsAt from kept held all most walk steps) → left_of from walk ≡ left (state_at walk steps at.above at.was_handed at.here)
    left_is walk steps at =
        let link : size (on_link from.tree walk.link) ≡ size (new_of at.here) = sym (styled_size from (parent_style at.above) (on_link from.tree walk.link)) ∙ ap size at.on in
        let frames : left_frames from (frames_of walk) ≡ left_behind at.above = ap (left_frames from) at.frames ∙ left_open at.above at.stands in
        omega (arith, link, frames)

    elements_is : (walk : Catching) (steps : ℕ) (at : IsAt from kept held all most walk steps) → elements_left from walk ≡ elements (new_of at.here) + behind_open at.above
    elements_is walk steps at =
        let link : elements_in (on_link from.tree walk.link) ≡ elements (new_of at.here) = sym (styled_elements from (parent_style at.above) (on_link from.tree walk.link)) ∙ ap elements at.on in
        let frames : elements_behind from (frames_of walk) ≡ behind_open at.above = ap (elements_behind from) at.frames ∙ behind_is from at.above at.stands in
        omega (arith, link, frames)

    deep_is : (walk : Catching) (steps : ℕ) (at : IsAt from kept held all most walk steps) → length (frames_of walk) ≡ length at.above
    deep_is walk steps at = ap length at.frames ∙ length_frames at.above

    spares : (walk new : Catching) (steps more : ℕ) (now next : State StyledNode Told Handing) → Sparing now next
        → elements_left from walk ≡ elements_of now → elements_left from new ≡ elements_of next → length (frames_of walk) ≡ length now.above → length (frames_of new) ≡ length next.above
        → now.spent ≡ steps + length now.changes → length walk.told ≡ length now.changes → new.told ≡ next.changes → more + length next.changes ≡ next.spent → Spares from walk steps new more
    spares walk new steps more now next spare here there deep deeper spent was told count =
        let longer : length new.told ≡ length next.changes = ap length told in
        record { told = omega (arith, spare.told, here, there, deep, deeper, was, longer); steps = omega (arith, spare.spent, here, there, deep, deeper, spent, count) }

    -- the values of a walk are those of a state
    pub record Arrives (new : Catching) (more : ℕ) (next : State StyledNode Told Handing) : Type 0 where
      pub frames : frames_of new ≡ map (frame_of from) next.above
      pub around : new.around ≡ next.handed
      pub stops : stops_left new ≡ next.stops
      pub told : new.told ≡ next.changes
      pub count : more + length next.changes ≡ next.spent
      pub boxed : AreBoxed from next.above next.handed
      pub first : new.link ≡ first_key (new_of next.here)
      pub leads : IsLink from.tree new.link
      pub on : styled_trees from.style from.start (parent_style next.above) (on_link from.tree new.link) ≡ new_of next.here
      pub leaves : HasLeaves is_element next.here
      pub stands : Stands from next.above
      pub root : IsRootLed next.above next.here

    module _ (sound : IsSound (styled_evaluator from.table)) (walk : Catching) (steps : ℕ) (at : IsAt from kept held all most walk steps) where
      abbrev pub e : Evaluator StyledNode Told Handing
      e = styled_evaluator from.table

      abbrev pub state : State StyledNode Told Handing
      state = state_at walk steps at.above at.was_handed at.here

      -- a turn leads there
      pub arrives : (new : Catching) (more : ℕ) (next : State StyledNode Told Handing) → WalkTurn e state next → Arrives new more next → Sparing state next
          → (Spares from walk steps new more → (collected : Option (List Change)) (limit : ℕ) → IsWhole from all collected limit walk steps at.above at.here → IsWhole from all collected limit new more next.above next.here)
          → Reaches from kept held all most walk steps at new more
      arrives new more next turn a spare whole =
          let went = goes_on e held all most sound state next turn at.walks in
          let same = state_is new more next a.around a.stops a.told a.count in
          let there : IsAt from kept held all most new more = record {
            above = next.above;
            was_handed = next.was_handed;
            here = next.here;
            read = at.read;
            frames = a.frames;
            boxed = subst (AreBoxed from next.above) (sym a.around) a.boxed;
            first = a.first;
            leads = a.leads;
            on = a.on;
            leaves = a.leaves;
            stands = a.stands;
            root = a.root;
            walks = subst (Walks e held all most) (sym same) went.0;
            fits = subst (Fits e styled_asks) (sym same) (fits-turn e styled_asks sound state next turn at.fits);
          } in
          let spared = spares walk new steps more state next spare (elements_is walk steps at) (elements_is new more there) (deep_is walk steps at) (deep_is new more there) refl refl a.told a.count in (
            there,
            (falls (left_of from new) (left_of from walk) (left next) (left state) (left_is new more there ∙ ap left same) (left_is walk steps at) went.1, spared, whole spared),
          )

      -- so many steps are within what the walk may take
      abbrev pub Pays : ℕ → Type 0
      Pays more = (more ≤ most) × (more ≤ steps + spared_for from walk) × ((collected : Option (List Change)) (limit : ℕ) → IsWhole from all collected limit walk steps at.above at.here → more ≤ limit)

      -- and its steps are there, also where the walk does not arrive
      pub paid : (next : State StyledNode Told Handing) (more : ℕ) → WalkTurn e state next → Sparing state next → more + length next.changes ≡ next.spent
          → ((collected : Option (List Change)) (limit : ℕ) → IsWhole from all collected limit walk steps at.above at.here → more ≤ limit) → Pays more
      paid next more turn spare count whole =
          let went = goes_on e held all most sound state next turn at.walks in
          let within = spent-within e held all most next went.0 in
          let here = elements_is walk steps at in
          let deep = deep_is walk steps at in
          (omega (arith, within, count), omega (arith, spare.spent, count, here, deep), whole)

      -- where no step is taken, none is wanting
      pub still : Pays steps
      still = let within = spent-within e held all most state at.walks in (omega (arith, within), omega arith, λ collected limit w. omega (arith, w.few))

      -- An element is entered.

      pub live_at : (key : ℕ) → walk.link ≡ Some key → IsLive from.tree key
      live_at key link = subst (IsLink from.tree) link at.leads

      pub its_here : (key : ℕ) (n : Keyed StyledNode) (c r : Forest (Keyed StyledNode)) → walk.link ≡ Some key → new_of at.here ≡ Tree n c r → Here from (parent_style at.above) key n c r
      its_here key n c r link is =
          here_is from (parent_style at.above) key n c r (live_at key link) (ap (λ link. styled_trees from.style from.start (parent_style at.above) (on_link from.tree link)) (sym link) ∙ at.on ∙ is)

      -- the walk may enter the first tree, on a fresh level or not, with these stops left
      pub record Entering (fresh : Bool) (later : List Stop) (more : ℕ) : Type 0 where
        pub node : Keyed StyledNode
        pub was : Keyed StyledNode
        pub was_handed : Handing
        pub children : Merge StyledNode
        pub after : Merge StyledNode
        pub first : new_of at.here ≡ Tree node (new_of children) (new_of after)
        pub element : is_element node.label ≡ true
        pub turn : WalkTurn e state (record {
          above = opened state node was fresh after ∷ at.above;
          handed = e.within node walk.around;
          was_handed = was_handed;
          here = children;
          stops = later;
          changes = walk.told;
          spent = more + length walk.told;
        })
        pub spare : Sparing state (record {
          above = opened state node was fresh after ∷ at.above;
          handed = e.within node walk.around;
          was_handed = was_handed;
          here = children;
          stops = later;
          changes = walk.told;
          spent = more + length walk.told;
        })
        pub leaves : HasLeaves is_element children
        pub leaves_after : HasLeaves is_element after
        pub root : IsRootLed at.above after
        pub cheap : fresh ≡ true → more ≤ steps + 2
        pub come : at.here ≡ all_come (new_of at.here) → (fresh ≡ true) × ((trees : Forest (Keyed StyledNode)) × ((at.here ≡ Come node trees after) × (children ≡ all_come trees)))

      entering-whole : (fresh : Bool) (later : List Stop) (more : ℕ) → Entering fresh later more → (collected : Option (List Change)) (limit : ℕ) → IsWhole from all collected limit walk steps at.above at.here → more ≤ limit
      entering-whole fresh later more it collected limit w =
          let cheap : more ≤ steps + 2 = it.cheap (it.come w.come).0 in
          let here = elements_is walk steps at in
          let deep = deep_is walk steps at in omega (arith, w.few, it.spare.told, cheap, here, deep)

      pub entering-paid : (fresh : Bool) (later : List Stop) (more : ℕ) → Entering fresh later more → Pays more
      entering-paid fresh later more it = paid _ more it.turn it.spare refl (entering-whole fresh later more it)

      module _ (distinct : HasDistinctKeys from.tree) (mid new : Catching) (key : ℕ) (fresh : Bool) (later : List Stop) (more : ℕ) (it : Entering fresh later more) (link : walk.link ≡ Some key)
          (frames : frames_of mid ≡ frames_of walk) (around : mid.around ≡ walk.around) (told : mid.told ≡ walk.told) (changes : mid.changes ≡ walk.changes) (stops : stops_left mid ≡ later) (h : HasEntered from mid new key fresh) where
        its : Here from (parent_style at.above) key it.node (new_of it.children) (new_of it.after)
        its = its_here key it.node (new_of it.children) (new_of it.after) link it.first

        named : is_some (node_name its.label) ≡ true
        named = sym (ap (λ o. is_some (option_and_then node_name o)) its.labelled) ∙ its.element ∙ it.element

        made_is : opened_at from (frames_of mid) key mid.around ≡ opened_of from it.node walk.around
        made_is =
            ap (λ fs. opened_at from fs key mid.around) (frames ∙ at.frames)
            ∙ ap (opened_at from (map (frame_of from) at.above) key) around
            ∙ opens_at from at.above key its.label walk.around at.boxed its.labelled named
            ∙ ap (λ (n : Keyed StyledNode). opened_of from n walk.around) (sym its.is)

        abbrev top : OpenNode
        top = opened state it.node it.was fresh it.after

        frames_are : frames_of new ≡ map (frame_of from) (top ∷ at.above)
        frames_are =
            h.frames
            ∙ ap (λ o. record { key = key; opened = o; handed = mid.around; fresh = fresh } ∷ frames_of mid) made_is
            ∙ ap (λ i. record { key = key; opened = opened_of from it.node walk.around; handed = i; fresh = fresh } ∷ frames_of mid) around
            ∙ ap (λ k. record { key = k; opened = opened_of from it.node walk.around; handed = walk.around; fresh = fresh } ∷ frames_of mid) (sym its.key_is)
            ∙ ap (λ fs. frame_of from top ∷ fs) (frames ∙ at.frames)

        kids : styled_trees from.style from.start (style_in it.node.label) (children_of from.tree key) ≡ new_of it.children
        kids =
            ap (λ (n : Keyed StyledNode). styled_trees from.style from.start (style_in n.label) (children_of from.tree key)) its.is
            ∙ ap (λ parent. styled_trees from.style from.start parent (children_of from.tree key)) (style_down from (parent_style at.above) key its.label named)
            ∙ its.children

        changes_are : new.changes ≡ with_changes walk.changes (changes_before_children from.table it.node walk.around)
        changes_are =
            h.changes ∙ ap (λ collected. with_changes collected (changes_before (opened_at from (frames_of mid) key mid.around))) changes
            ∙ ap (λ opened. with_changes walk.changes (changes_before opened)) made_is ∙ ap (with_changes walk.changes) (changes_opened from it.node walk.around)

        whole : Spares from walk steps new more → (collected : Option (List Change)) (limit : ℕ) → IsWhole from all collected limit walk steps at.above at.here → IsWhole from all collected limit new more (top ∷ at.above) it.children
        whole spared collected limit w =
            let come = it.come w.come in
            let trees = come.1.0 in
            let children = come.1.1.1 in
            let i = walk.around in
            let longer : length new.told ≡ length walk.told = ap length (h.told ∙ told) in
            let deeper : length (frames_of new) ≡ suc (length at.above) = ap length frames_are ∙ length_frames (top ∷ at.above) in
            let deep : length (frames_of walk) ≡ length at.above = deep_is walk steps at in
            let cheap : more ≤ steps + 2 = it.cheap come.0 in
            record {
              come = children ∙ all_come-new trees ∙ ap (λ m. all_come (new_of m)) (sym children);
              come_behind = (come.0, come_after at.here it.node trees it.after come.1.1.0 w.come, w.come_behind);
              told =
                  ap (λ t. t ++ news e (top ∷ at.above) new.around it.children) (h.told ∙ told)
                  ∙ ap (λ i. walk.told ++ news e (top ∷ at.above) i it.children) (h.around ∙ ap inside_opened made_is ∙ inside_is from it.node walk.around)
                  ∙ ap (λ all. walk.told ++ all) (sym (news_entered e at.above i top trees it.children refl (ap new_of children ∙ new-all_come trees)))
                  ∙ ap (λ m. walk.told ++ news e at.above i m) (sym come.1.1.0) ∙ w.told;
              changes =
                  ap (λ collected. with_changes collected (changes_left from (top ∷ at.above) new.around it.children)) changes_are
                  ∙ ap (λ i. with_changes (with_changes walk.changes (changes_before_children from.table it.node walk.around)) (changes_left from (top ∷ at.above) i it.children)) (h.around ∙ ap inside_opened made_is ∙ inside_is from it.node walk.around)
                  ∙ with-more walk.changes (changes_before_children from.table it.node i) (changes_left from (top ∷ at.above) (inside_node from.table it.node i) it.children)
                  ∙ ap (with_changes walk.changes) (sym (changes_entered from at.above i top trees it.children refl (ap new_of children ∙ new-all_come trees)))
                  ∙ ap (λ m. with_changes walk.changes (changes_left from at.above i m)) (sym come.1.1.0) ∙ w.changes;
              few = omega (arith, w.few, spared.told, longer, deeper, deep, cheap);
            }

        pub enters : Reaches from kept held all most walk steps at new more
        enters =
            let live = live_at key link in
            let below = on_first from.tree key distinct live in
            arrives new more _ it.turn (record {
              frames = frames_are;
              around = h.around ∙ ap inside_opened made_is ∙ inside_is from it.node walk.around;
              stops = ap (λ (stops : _). reverse stops.items) h.stops ∙ stops;
              told = h.told ∙ told;
              count = refl;
              boxed = (boxed_inside from it.node walk.around, at.boxed);
              first = h.link ∙ child_first from (style_in it.node.label) key (new_of it.children) kids;
              leads = subst (IsLink from.tree) (sym h.link) below.1;
              on = ap (λ link. styled_trees from.style from.start (style_in it.node.label) (on_link from.tree link)) h.link ∙ ap (styled_trees from.style from.start (style_in it.node.label)) below.0 ∙ kids;
              leaves = it.leaves;
              stands = (
                subst (IsLive from.tree) (sym its.key_is) live,
                its.attrs,
                ap (λ k. styled_trees from.style from.start (parent_style at.above) (after_of from.tree k)) its.key_is ∙ its.after,
                it.leaves_after,
                at.stands,
              );
              root = it.root;
            }) it.spare whole

      -- A text is passed, and a tree that is gone.

      module _ (distinct : HasDistinctKeys from.tree) (new : Catching) (key : ℕ) (later : List Stop) (link : walk.link ≡ Some key)
          (frames : frames_of new ≡ frames_of walk) (around : new.around ≡ walk.around) (told : new.told ≡ walk.told) (changes : new.changes ≡ walk.changes) (stops : stops_left new ≡ later) (next : new.link ≡ next_sibling_of from.tree key) where
        passes_whole : (r : Merge StyledNode) → (at.here ≡ all_come (new_of at.here) → (r ≡ all_come (new_of r)) × (news e at.above walk.around at.here ≡ news e at.above walk.around r) × (changes_left from at.above walk.around at.here ≡ changes_left from at.above walk.around r))
            → Spares from walk steps new steps → (collected : Option (List Change)) (limit : ℕ) → IsWhole from all collected limit walk steps at.above at.here → IsWhole from all collected limit new steps at.above r
        passes_whole r come spared collected limit w =
            let its = come w.come in
            let same : length new.told ≡ length walk.told = ap length told in
            let deep : length (frames_of new) ≡ length (frames_of walk) = ap length frames in
            record {
              come = its.0;
              come_behind = w.come_behind;
              told =
                  ap (λ t. t ++ news e at.above new.around r) told ∙ ap (λ i. walk.told ++ news e at.above i r) around
                  ∙ ap (λ all. walk.told ++ all) (sym its.1) ∙ w.told;
              changes =
                  ap (λ collected. with_changes collected (changes_left from at.above new.around r)) changes ∙ ap (λ i. with_changes walk.changes (changes_left from at.above i r)) around
                  ∙ ap (with_changes walk.changes) (sym its.2) ∙ w.changes;
              few = omega (arith, w.few, spared.told, same, deep);
            }

        passes : (n : Keyed StyledNode) (c : Forest (Keyed StyledNode)) (r : Merge StyledNode) → new_of at.here ≡ Tree n c (new_of r) → HasLeaves is_element r → IsRootLed at.above r
            → WalkTurn e state (record state { here = r; stops = later })
            → (at.here ≡ all_come (new_of at.here) → (r ≡ all_come (new_of r)) × (news e at.above walk.around at.here ≡ news e at.above walk.around r) × (changes_left from at.above walk.around at.here ≡ changes_left from at.above walk.around r))
            → Reaches from kept held all most walk steps at new steps
        passes n c r is leaf root turn come =
            let its = its_here key n c (new_of r) link is in
            let beside = on_next from.tree key distinct (live_at key link) in
            arrives new steps _ turn (record {
              frames = frames ∙ at.frames;
              around = around;
              stops = stops;
              told = told;
              count = refl;
              boxed = at.boxed;
              first = next ∙ next_first from (parent_style at.above) key (new_of r) its.after;
              leads = subst (IsLink from.tree) (sym next) beside.1;
              on = ap (λ link. styled_trees from.style from.start (parent_style at.above) (on_link from.tree link)) next ∙ ap (styled_trees from.style from.start (parent_style at.above)) beside.0 ∙ its.after;
              leaves = leaf;
              stands = at.stands;
              root = root;
            }) (spares-passing state r at.was_handed later (elements-after n c (new_of r) (new_of at.here) is)) (passes_whole r come)

        text_here : (n : Keyed StyledNode) (c r : Forest (Keyed StyledNode)) → new_of at.here ≡ Tree n c r → is_some (name_of from.tree key) ≡ false → is_element n.label ≡ false
        text_here n c r is text = sym (its_here key n c r link is).element ∙ text

        pub passes_kept : is_some (name_of from.tree key) ≡ false → (n : Keyed StyledNode) (c r : Merge StyledNode) → at.here ≡ Kept n c r → stops_left walk ≡ later
            → Reaches from kept held all most walk steps at new steps
        passes_kept named n c r is same =
            let text = text_here n (new_of c) (new_of r) (ap new_of is) named in
            let leaf = subst (HasLeaves is_element) is at.leaves in
            let whole = is ∙ ap (λ c. Kept n c r) (leaf.0 text) in
            passes n (new_of c) r (ap new_of is) leaf.2 (led_kept at.above n c r (subst (IsRootLed at.above) is at.root))
            (subst (λ stops. WalkTurn e state (record state { here = r; stops = stops })) same (passing n r whole text))
            (λ h. absurd (not_come at.here (ap comes is) h))

        pub passes_come : is_some (name_of from.tree key) ≡ false → (n : Keyed StyledNode) (c : Forest (Keyed StyledNode)) (r : Merge StyledNode) → at.here ≡ Come n c r
            → IsTaken (not (is_fresh at.above)) (stop_at is_element (length at.above) Anew (Come n c r)) (stops_left walk) later
            → Reaches from kept held all most walk steps at new steps
        passes_come named n c r is taken =
            let text = text_here n c (new_of r) (ap new_of is) named in
            let leaf = subst (HasLeaves is_element) is at.leaves in
            let whole = is ∙ ap (λ c. Come n c r) (leaf.0 text) in
            passes n c r (ap new_of is) leaf.2 (led_come at.above n c r (subst (IsRootLed at.above) is at.root))
            (passing_fresh n r later whole text (subst (λ c. IsTaken (not (is_fresh at.above)) (stop_at is_element (length at.above) Anew (Come n c r)) (stops_left walk) later) (leaf.0 text) taken))
            (λ h. (come_after at.here n c r is h, ap (news e at.above walk.around) whole ∙ news_passed e sound at.above walk.around n r text, ap (changes_left from at.above walk.around) whole ∙ changes_passed from at.above walk.around n r text))

      pub misses : (new : Catching) (stop : Stop) (later : List Stop) → frames_of new ≡ frames_of walk → new.around ≡ walk.around → new.told ≡ walk.told → stops_left new ≡ later → new.link ≡ walk.link
          → (n : Keyed StyledNode) (c : Forest (Keyed StyledNode)) (r : Merge StyledNode) → at.here ≡ Gone n c r → is_fresh at.above ≡ false → stops_left walk ≡ stop ∷ later
          → Reaches from kept held all most walk steps at new steps
      misses new stop later frames around told stops link n c r is stays taken =
          arrives new steps _ (missing n c r stop later is stays taken) (record {
            frames = frames ∙ at.frames;
            around = around;
            stops = stops;
            told = told;
            count = refl;
            boxed = at.boxed;
            first = link ∙ at.first ∙ ap (λ m. first_key (new_of m)) is;
            leads = subst (IsLink from.tree) (sym link) at.leads;
            on = ap (λ link. styled_trees from.style from.start (parent_style at.above) (on_link from.tree link)) link ∙ at.on ∙ ap new_of is;
            leaves = subst (HasLeaves is_element) is at.leaves;
            stands = at.stands;
            root = led_gone at.above n c r (subst (IsRootLed at.above) is at.root);
          }) (spares-passing state r _ later (same_elements (new_of r) (new_of at.here) (ap new_of is)))
          (λ spared collected limit w. absurd (not_come at.here (ap comes is) w.come))

      -- The innermost open element is left.

      abbrev first_frame : OpenElement → List OpenElement → OpenElement
      first_frame other [] = other
      first_frame other (x ∷ xs) = x

      abbrev rest_frames : List OpenElement → List OpenElement
      rest_frames [] = []
      rest_frames (x ∷ xs) = xs

      module _ (distinct : HasDistinctKeys from.tree) (mid new : Catching) (frame : OpenElement) (more : ℕ) (top : frames_of walk ≡ frame ∷ frames_of mid)
          (around : mid.around ≡ walk.around) (stops : mid.stops ≡ walk.stops) (told_same : mid.told ≡ walk.told) (changes_same : mid.changes ≡ walk.changes) (h : HasLeft from mid new frame) (end : at.here ≡ End) (few : more ≤ steps + 1) where
        left_whole : (b : OpenNode) (bs : List OpenNode) → at.above ≡ b ∷ bs → Spares from walk steps new more → (collected : Option (List Change)) (limit : ℕ) → IsWhole from all collected limit walk steps at.above at.here
            → new.told ≡ walk.told ++ (b.node.key, kept_of from.table b.node b.handed walk.around) ∷ [] → new.changes ≡ with_changes walk.changes (changes_after_children from.table b.node b.handed walk.around) → new.around ≡ past_styled from.table b.node b.handed walk.around → frames_of new ≡ frames_of mid
            → IsWhole from all collected limit new more bs b.after
        left_whole b bs is spared collected limit w told changes around frames =
            let behind = subst AllCome is w.come_behind in
            let i = walk.around in
            let element : is_element b.node.label ≡ true = (subst (AreElements is_element) is at.walks.elements).0 in
            let entry : ℕ × Told = (b.node.key, kept_of from.table b.node b.handed i) in
            let one : length (walk.told ++ entry ∷ []) ≡ length walk.told + 1 = omega (arith, one_longer 0 walk.told entry) in
            let longer : length new.told ≡ length walk.told + 1 = ap length told ∙ one in
            let deep : length (frames_of walk) ≡ suc (length (frames_of mid)) = ap length top in
            let deeper : length (frames_of new) ≡ length (frames_of mid) = ap length frames in
            record {
              come = behind.1;
              come_behind = behind.2;
              told =
                  ap (λ t. t ++ news e bs new.around b.after) told ∙ ap (λ i. (walk.told ++ entry ∷ []) ++ news e bs i b.after) around
                  ∙ news_left e bs i b walk.told element
                  ∙ ap (λ bs. walk.told ++ news e bs i End) (sym is) ∙ ap (λ m. walk.told ++ news e at.above i m) (sym end) ∙ w.told;
              changes =
                  ap (λ collected. with_changes collected (changes_left from bs new.around b.after)) changes
                  ∙ ap (λ i. with_changes (with_changes walk.changes (changes_after_children from.table b.node b.handed walk.around)) (changes_left from bs i b.after)) around
                  ∙ with-more walk.changes (changes_after_children from.table b.node b.handed i) (changes_left from bs (past_styled from.table b.node b.handed i) b.after)
                  ∙ ap (λ bs. with_changes walk.changes (changes_left from bs i End)) (sym is) ∙ ap (λ m. with_changes walk.changes (changes_left from at.above i m)) (sym end) ∙ w.changes;
              few = omega (arith, w.few, spared.told, longer, deep, deeper, few);
            }

        leaves_from : (bs : List OpenNode) → at.above ≡ bs → Reaches from kept held all most walk steps at new more
        leaves_from [] is = absurd (let none : suc (length (frames_of mid)) ≡ 0 = ap length (sym top ∙ at.frames ∙ ap (map (frame_of from)) is) in omega (arith, none))
        leaves_from (b ∷ bs) is =
            let behind = walk.around in
            let boxed = subst (λ bs. AreBoxed from bs behind) is at.boxed in
            let stands = subst (Stands from) is at.stands in
            let same : frame ∷ frames_of mid ≡ frame_of from b ∷ map (frame_of from) bs = sym top ∙ at.frames ∙ ap (map (frame_of from)) is in
            let its : frame ≡ frame_of from b = ap (first_frame frame) same in
            let rest : frames_of mid ≡ map (frame_of from) bs = ap rest_frames same in
            let key : frame.key ≡ b.node.key = ap (λ (f : OpenElement). f.key) its in
            let beside = on_next from.tree b.node.key distinct stands.0 in
            let left = is_left from b.node b.handed behind boxed.0 stands.1 in
            let link : new.link ≡ next_sibling_of from.tree b.node.key = h.link ∙ ap (next_sibling_of from.tree) key in
            let next : Handing = past_styled from.table b.node b.handed behind in
            let entry : told_by from frame mid.around ≡ kept_of from.table b.node b.handed behind =
            ap (told_by from frame) around ∙ ap (λ f. told_by from f behind) its
            ∙ (λ k. record { said = left.said k; walked = record { handed = b.handed; behind = behind }; asks = left.asks k; starts = left.starts k; changes = left.changes k }) in
            let next_frames : frames_of new ≡ frames_of mid = ap (λ (stack : _). reverse stack.items) h.stack in
            let next_around : new.around ≡ next =
            h.around ∙ ap (λ i. past_by from frame.key frame.opened frame.handed i) around ∙ ap (λ (f : OpenElement). past_by from f.key f.opened f.handed behind) its ∙ left.past in
            let next_told : new.told ≡ walk.told ++ (b.node.key, kept_of from.table b.node b.handed behind) ∷ [] =
            h.told ∙ ap (λ told. told ++ (frame.key, told_by from frame mid.around) ∷ []) told_same
            ∙ ap (λ entry. walk.told ++ (frame.key, entry) ∷ []) entry
            ∙ ap (λ k. walk.told ++ (k, kept_of from.table b.node b.handed behind) ∷ []) key in
            let next_changes : new.changes ≡ with_changes walk.changes (changes_after_children from.table b.node b.handed behind) =
            h.changes ∙ ap (λ collected. with_changes collected (changes_in (said_by from frame.key frame.opened mid.around).after)) changes_same
            ∙ ap (λ (told : Told). with_changes walk.changes (changes_in told.said.after)) entry in
            arrives new more _ (leaving b bs (more + length walk.told + 1) is end (omega (arith, few))) (record {
              frames = next_frames ∙ rest;
              around = next_around;
              stops = ap (λ (stops : _). reverse stops.items) (h.stops ∙ stops);
              told = next_told;
              count = one_longer more walk.told (b.node.key, kept_of from.table b.node b.handed behind);
              boxed = boxed_as from bs next b.handed (boxed_past from b.node b.handed behind) boxed.1;
              first = link ∙ next_first from (parent_style bs) b.node.key (new_of b.after) stands.2;
              leads = subst (IsLink from.tree) (sym link) beside.1;
              on = ap (λ link. styled_trees from.style from.start (parent_style bs) (on_link from.tree link)) link ∙ ap (styled_trees from.style from.start (parent_style bs)) beside.0 ∙ stands.2;
              leaves = stands.3;
              stands = stands.4;
              root = subst (λ bs. IsRootLed bs at.here) is at.root;
            }) (spares-leaving state b bs _ _ _ (more + length walk.told + 1) is end (omega (arith, few)))
            (λ spared collected limit w. left_whole b bs is spared collected limit w next_told next_changes next_around next_frames)

        pub leaves : Reaches from kept held all most walk steps at new more
        leaves = leaves_from at.above refl
