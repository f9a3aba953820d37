-- Where a walk from the places of an edit begins and ends.
use Rattle.std.proofs.Common.{◌≡◌, ◌+◌, ◌*◌, ◌≤◌, ◌∷◌, ◌++◌, ℕ, suc, List, [], length, Option, None, refl, sym, ap, subst, ◌∙◌, arith, append-nil}
use Rattle.std.specs.Prelude.{OnOk, Result, Ok, Err, is_some, map}
use Rattle.forest.specs.Keys.{HasDistinctKeys, without_keys}
use Rattle.forest.specs.Spots.{IsLink, IsLive, first_key, on_link}
use Rattle.forest.proofs.SpotLaws.{on_root, root_link}
use Rattle.plain_types.specs.declared.node.Node.{Node}
use Rattle.node_arena.specs.Nodes.{node_name}
use Rattle.box_eval.specs.declared.change.Change.{Change}
use Rattle.box_eval.specs.Evaluation.{StyledNode, all_changes, styled_trees}
use Rattle.merged_walk.specs.Entries.{AreAmong, Covers}
use Rattle.merged_walk.specs.Evaluators as evaluators
use Rattle.merged_walk.specs.Evaluators.{AllFit, Evaluator, IsSound}
use Rattle.merged_walk.specs.Merges.{Merge, End, all_come, new_of}
use Rattle.merged_walk.specs.Stops.{stops_of}
use Rattle.merged_walk.specs.Walks.{Fits, State, Walks, news}
use Rattle.merged_walk.specs.WalkTurns.{begun}
use Rattle.merged_walk.proofs.MergeLaws.{all_come-new}
use Rattle.merged_walk.proofs.WalkLaws.{covers-ended, spent-within, walks-begun}
use Rattle.surroundings.specs.declared.told.Told.{Told}
use Rattle.surroundings.specs.declared.walked.Walked.{Walked}
use Rattle.surroundings.specs.StyledEvaluators.{is_element, root_surroundings, styled_asks, styled_evaluator}
use Rattle.surroundings.proofs.Fits.{fits_document}
use Rattle.document_walk.specs.declared.catching.Catching.{Catching}
use Rattle.document_walk.specs.declared.catching.OpenElement.{OpenElement}
use Rattle.document_walk.specs.Catching.{CanClose, Reading, document_of, frames_of, stops_left, with_changes}
use Rattle.document_walk.specs.CatchingUp.{CanCatchUp, budget, told_all}
use Rattle.document_walk.specs.Elements.{element_count, one_where}
use Rattle.document_walk.specs.Machinery.Standing.{Handing, IsAt, IsWhole, OpenNode, Reaches, Stands, changes_left, elements_behind, elements_in, elements_left, frame_of, spared_for, state_at}
use Rattle.document_walk.specs.TreeChanges.{tree_changes}
use Rattle.document_walk.proofs.ChangeLemmas.{document_changes, with-none}
use Rattle.document_walk.proofs.ChoiceLemmas.{closes_as}
use Rattle.document_walk.proofs.ElementLemmas.{weigh-without_keys}
use Rattle.document_walk.proofs.StyledKeys.{styled_distinct}
use Rattle.document_walk.proofs.NodeLemmas.{styled_first}

-- a walk that began with so many steps stands where it can, and has told no more elements and taken no more steps than the
-- document's elements allow
pub record IsUnderWay (from : Reading) (kept : ℕ → Option Walked) (merge : Merge StyledNode) (held : ℕ → Option Told) (first : ℕ) (before : Option (List Change)) (walk : Catching) (now : ℕ) : Type 0 where
  pub at : IsAt from kept held (told_all from (document_of from)) (first + budget from merge) walk now
  pub told : length walk.told + (elements_left from walk + length (frames_of walk)) ≤ element_count (without_keys from.tree)
  pub few : now + spared_for from walk ≤ first + 4 * element_count (without_keys from.tree)
  pub whole : merge ≡ all_come (document_of from) → IsWhole from (told_all from (document_of from)) (with_changes before (all_changes from.table (document_of from))) (first + 3 * element_count (without_keys from.tree)) walk now at.above at.here
  pub found : IsAt from kept held (told_all from (document_of from)) (0 + budget from merge) walk 0

module _ (from : Reading) (kept : ℕ → Option Walked) where
  abbrev e : Evaluator StyledNode Told Handing
  e = styled_evaluator from.table

  module _ (distinct : HasDistinctKeys from.tree) (walk : Catching) (merge : Merge StyledNode) (held : ℕ → Option Told) (steps : ℕ) (can : CanCatchUp from kept (stops_left walk) merge held)
      (frames : frames_of walk ≡ []) (link : walk.link ≡ first_key from.tree) (around : walk.around ≡ root_surroundings) (told : walk.told ≡ []) where
    keys : HasDistinctKeys (document_of from)
    keys = styled_distinct from.style from.start from.tree None distinct

    -- the state of a walk that has not begun
    begins_at : begun e root_surroundings root_surroundings merge steps ≡ state_at walk steps [] root_surroundings merge
    begins_at =
        ap (λ i. record { above = []; handed = i; was_handed = root_surroundings; here = merge; stops = stops_of is_element 0 merge; changes = []; spent = steps }) (sym around)
        ∙ ap (λ s. record { above = []; handed = walk.around; was_handed = root_surroundings; here = merge; stops = s; changes = []; spent = steps }) (sym can.stops)
        ∙ ap (λ k. record { above = []; handed = walk.around; was_handed = root_surroundings; here = merge; stops = stops_left walk; changes = []; spent = k }) (omega arith)
        ∙ ap (λ t. record { above = []; handed = walk.around; was_handed = root_surroundings; here = merge; stops = stops_left walk; changes = t; spent = steps + length t }) (sym told)

    abbrev begins : IsAt from kept held (told_all from (document_of from)) (steps + budget from merge) walk steps
    begins = record {
      above = [];
      was_handed = root_surroundings;
      here = merge;
      read = can.read;
      frames = frames;
      boxed = ap (λ i. is_some i) around;
      first = link ∙ sym (styled_first from None from.tree) ∙ ap first_key (sym can.new);
      leads = subst (IsLink from.tree) (sym link) (root_link from.tree);
      on = ap (λ link. styled_trees from.style from.start None (on_link from.tree link)) link ∙ ap (styled_trees from.style from.start None) (on_root from.tree) ∙ sym can.new;
      leaves = can.leaves;
      stands = tt;
      root = can.led;
      walks =
          subst (Walks e held (told_all from (document_of from)) (steps + budget from merge)) begins_at
          (subst (λ trees. Walks e held (told_all from trees) (steps + budget from merge) (begun e root_surroundings root_surroundings merge steps)) can.new
          (walks-begun e merge root_surroundings root_surroundings held steps (subst HasDistinctKeys (sym can.new) keys) can.holds));
      fits =
          subst (Fits e styled_asks) begins_at
          (record { here = subst (AllFit e styled_asks root_surroundings) (sym can.new) (fits_document from.table (document_of from) keys); behind = tt });
    }

    -- no element is told yet, and all are left
    all_left : elements_left from walk + length (frames_of walk) ≡ element_count (without_keys from.tree)
    all_left =
        let on : elements_in (on_link from.tree walk.link) ≡ elements_in from.tree = ap (λ link. elements_in (on_link from.tree link)) link ∙ ap elements_in (on_root from.tree) in
        let count : element_count (without_keys from.tree) ≡ elements_in from.tree = weigh-without_keys (λ (node : Node). one_where (is_some (node_name node))) from.tree in
        let behind : elements_behind from (frames_of walk) ≡ 0 = ap (elements_behind from) frames in
        let open_count : length (frames_of walk) ≡ 0 = ap length frames in
        omega (arith, on, count, behind, open_count)

    begins_whole : merge ≡ all_come (document_of from) → IsWhole from (told_all from (document_of from)) (with_changes walk.changes (all_changes from.table (document_of from))) (steps + 3 * element_count (without_keys from.tree)) walk steps [] merge
    begins_whole come =
        let open_count : length (frames_of walk) ≡ 0 = ap length frames in
        record {
          come = come ∙ all_come-new (document_of from) ∙ ap (λ m. all_come (new_of m)) (sym come);
          come_behind = tt;
          told =
              ap (λ t. t ++ news e [] walk.around merge) told ∙ ap (λ i. news e [] i merge) around
              ∙ append-nil (evaluators.told_all e root_surroundings (new_of merge)) ∙ ap (evaluators.told_all e root_surroundings) can.new;
          changes =
              ap (λ i. with_changes walk.changes (changes_left from [] i merge)) around
              ∙ ap (with_changes walk.changes) (append-nil (tree_changes from.table root_surroundings (new_of merge)) ∙ ap (tree_changes from.table root_surroundings) can.new ∙ document_changes from.table (document_of from) keys);
          few = omega (arith, all_left, open_count);
        }

  pub begins_way : (distinct : HasDistinctKeys from.tree) (walk : Catching) (merge : Merge StyledNode) (held : ℕ → Option Told) (steps : ℕ) → CanCatchUp from kept (stops_left walk) merge held
      → frames_of walk ≡ [] → walk.link ≡ first_key from.tree → walk.around ≡ root_surroundings → walk.told ≡ [] → IsUnderWay from kept merge held steps walk.changes walk steps
  begins_way distinct walk merge held steps can frames link around told =
      let none : length walk.told ≡ 0 = ap length told in
      let open_count : length (frames_of walk) ≡ 0 = ap length frames in
      let left = all_left distinct walk merge held steps can frames link around told in
      record {
        at = begins distinct walk merge held steps can frames link around told;
        told = omega (arith, left, none);
        few = omega (arith, left, open_count);
        whole = λ come. begins_whole distinct walk merge held steps can frames link around told come;
        found = begins distinct walk merge held 0 can frames link around told;
      }

  -- the way goes on
  pub goes_way : (merge : Merge StyledNode) (held : ℕ → Option Told) (first : ℕ) (before : Option (List Change)) (walk new : Catching) (steps more : ℕ) (way : IsUnderWay from kept merge held first before walk steps)
      → Reaches from kept held (told_all from (document_of from)) (first + budget from merge) walk steps way.at new more
      → Reaches from kept held (told_all from (document_of from)) (0 + budget from merge) walk 0 way.found new 0
      → IsUnderWay from kept merge held first before new more
  goes_way merge held first before walk new steps more way next found =
      record { at = next.0; told = omega (arith, way.told, next.1.1.told); few = omega (arith, way.few, next.1.1.steps); whole = λ come. next.1.2 (with_changes before (all_changes from.table (document_of from))) (first + 3 * element_count (without_keys from.tree)) (way.whole come); found = found.0 }

  module _ (held : ℕ → Option Told) (all : List (ℕ × Told)) (most : ℕ) (walk : Catching) (steps : ℕ) (at : IsAt from kept held all most walk steps) where
    pub within : steps + length walk.told ≤ most
    within = spent-within e held all most (state_at walk steps at.above at.was_handed at.here) at.walks

    pub tells : AreAmong walk.told all
    tells = at.walks.among

    none_open : (bs : List OpenNode) → map (frame_of from) bs ≡ [] → bs ≡ []
    none_open [] h = refl
    none_open (b ∷ bs) h = absurd (let none : suc (length (map (frame_of from) bs)) ≡ 0 = ap length h in omega (arith, none))

    pub covers : frames_of walk ≡ [] → at.here ≡ End → Covers walk.told held all
    covers none end = covers-ended e held all most (state_at walk steps at.above at.was_handed at.here) (record { above = none_open at.above (sym at.frames ∙ none); here = end }) at.walks

    -- where all comes, all is told in its order
    pub all_told : frames_of walk ≡ [] → at.here ≡ End → (collected : Option (List Change)) (limit : ℕ) → IsWhole from all collected limit walk steps at.above at.here → walk.told ≡ all
    all_told none end collected limit w =
        sym (append-nil walk.told)
        ∙ ap (λ bs. walk.told ++ news e bs walk.around End) (sym (none_open at.above (sym at.frames ∙ none)))
        ∙ ap (λ m. walk.told ++ news e at.above walk.around m) (sym end) ∙ w.told

    -- and all is collected
    pub all_collected : frames_of walk ≡ [] → at.here ≡ End → (collected : Option (List Change)) (limit : ℕ) → IsWhole from all collected limit walk steps at.above at.here → walk.changes ≡ collected
    all_collected none end collected limit w =
        sym (with-none walk.changes)
        ∙ ap (λ bs. with_changes walk.changes (changes_left from bs walk.around End)) (sym (none_open at.above (sym at.frames ∙ none)))
        ∙ ap (λ m. with_changes walk.changes (changes_left from at.above walk.around m)) (sym end) ∙ w.changes

    -- The innermost open element may be left.

    module _ (frame : OpenElement) (frames : List OpenElement) (top : frames_of walk ≡ frame ∷ frames) (end : at.here ≡ End) where
      abbrev first_frame : OpenElement → List OpenElement → OpenElement
      first_frame other [] = other
      first_frame other (x ∷ xs) = x

      pub record CanLeave : Type 0 where
        pub live : IsLive from.tree frame.key
        pub closes : CanClose frame.key walk.around
        pub few : steps + length walk.told + 2 ≤ most
        pub some : 1 ≤ length (frames_of walk)

      leaves_from : (bs : List OpenNode) → at.above ≡ bs → CanLeave
      leaves_from [] is = absurd (let none : suc (length frames) ≡ 0 = ap length (sym top ∙ at.frames ∙ ap (map (frame_of from)) is) in omega (arith, none))
      leaves_from (b ∷ bs) is =
          let its : frame ≡ frame_of from b = ap (first_frame frame) (sym top ∙ at.frames ∙ ap (map (frame_of from)) is) in
          let key : b.node.key ≡ frame.key = sym (ap (λ (f : OpenElement). f.key) its) in
          let state : State StyledNode Told Handing = state_at walk steps (b ∷ bs) at.was_handed End in
          let here = λ (P : State StyledNode Told Handing → Type 0) (h : P (state_at walk steps at.above at.was_handed at.here)).
          subst (λ bs. P (state_at walk steps bs at.was_handed End)) is (subst (λ m. P (state_at walk steps at.above at.was_handed m)) end h) in
          let fits : Fits e styled_asks state = here (Fits e styled_asks) at.fits in
          let walks : Walks e held all most state = here (Walks e held all most) at.walks in
          record {
            live = subst (IsLive from.tree) key (subst (Stands from) is at.stands).0;
            closes = subst (λ k. CanClose k walk.around) key (closes_as b.node b.handed walk.around fits.behind.0);
            few = omega (arith, walks.few);
            some = let open_count : length (frames_of walk) ≡ suc (length frames) = ap length top in omega (arith, open_count);
          }

      pub can_leave : CanLeave
      can_leave = leaves_from at.above refl

pub at_most : (a b c : ℕ) → a ≡ b + c → a ≤ b + c
at_most a b c e = omega (arith, e)

pub on_ok : {T E : Type 0} (r : Result T E) (P Q : Type 0) → OnOk r P → (P → Q) → OnOk r Q
on_ok (Ok x) P Q h f = f h
on_ok (Err x) P Q h f = h

pub plus : (a b c k m : ℕ) → b ≡ a + k → c ≤ b + m → c ≤ a + (k + m)
plus a b c k m e h = omega (arith, e, h)

pub at_more : (now before : ℕ) → now ≤ before + 2 → now ≤ before + 3
at_more now before h = omega (arith, h)

-- the steps are within what they are with more
pub at_once : (steps more most : ℕ) → steps + more ≤ most → steps ≤ most
at_once steps more most h = omega (arith, h)

pub leaving_few : (now before more most : ℕ) → now ≤ before + 1 → before + more + 2 ≤ most → now ≤ most
leaving_few now before more most h few = omega (arith, h, few)

pub leaving_whole : (from : Reading) (now before most : ℕ) (walk : Catching) → now ≤ before + 1 → 1 ≤ length (frames_of walk) → before + spared_for from walk ≤ most → now ≤ most
leaving_whole from now before most walk h some few = omega (arith, h, some, few)

pub within_whole : (now before more most : ℕ) → now ≤ before + more → before + more ≤ most → now ≤ most
within_whole now before more most h few = omega (arith, h, few)

pub told_few : (told more count : ℕ) → told + more ≤ count → told ≤ count
told_few told more count h = omega (arith, h)

pub whole_few : (steps more most : ℕ) → steps + more ≤ most → steps ≤ most
whole_few steps more most h = omega (arith, h)

pub leaving_limit : (from : Reading) (all : List (ℕ × Told)) (collected : Option (List Change)) (limit now before : ℕ) (walk : Catching) (above : List OpenNode) (here : Merge StyledNode) → now ≤ before + 1 → 1 ≤ length (frames_of walk)
    → IsWhole from all collected limit walk before above here → now ≤ limit
leaving_limit from all collected limit now before walk above here h some w = omega (arith, h, some, w.few)

pub whole_limit : (from : Reading) (all : List (ℕ × Told)) (collected : Option (List Change)) (limit now : ℕ) (walk : Catching) (above : List OpenNode) (here : Merge StyledNode) → IsWhole from all collected limit walk now above here → now ≤ limit
whole_limit from all collected limit now walk above here w = omega (arith, w.few)

pub counted_alone : (count most : ℕ) → 0 + count ≤ most → count ≤ most
counted_alone count most h = omega (arith, h)
