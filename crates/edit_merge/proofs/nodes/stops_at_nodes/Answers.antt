use Rattle.std.proofs.Common.{◌≡◌, IfOk, true, false, ap, subst, ◌∙◌}
use Rattle.node_arena.specs.AtPaths.{leads_into}
use Rattle.node_arena.proofs.MoveLaws.{leads-into-test}
use Rattle.merged_walk.specs.EditStops.{is_before, joined, relabelling_stops}
use Rattle.edit_merge.specs.EditMerges.{is_element}
use Rattle.edit_merge.proofs.NodeLemmas.{none-holds, one-holds, other-holds}
use Rattle.edit_merge.proofs.nodes.stops_at_nodes.Goals as goal

pub returns-then-starts_with : goal.returns-then-starts_with
returns-then-starts_with c =
    let tree = c.args.arena.now.tree in
    let path = c.in_ok-path.path in
    let place = c.in_ok-place.place in
    let into : leads_into path place ≡ true =
    leads-into-test _ _ _ _ _ c.as_slice-2.ensures.steps c.as_slice.ensures.steps c.starts_with.ensures.value ∙ c.if-starts_with.true in
    record {
      stops =
          subst (λ told. IfOk c.relabelling_stops.result (λ stops. stops.items ≡ told))
          (ap (λ way. relabelling_stops is_element way tree) c.as_slice-then-starts_with.ensures.steps
          ∙ one-holds tree c.args.one c.args.other path place c.in_ok-path.ensures.path c.in_ok-place.ensures.path into)
          c.relabelling_stops.ensures.stops;
    }

pub returns-then-starts_with-2 : goal.returns-then-starts_with-2
returns-then-starts_with-2 c =
    let tree = c.args.arena.now.tree in
    let path = c.in_ok-path.path in
    let place = c.in_ok-place.place in
    let out : leads_into path place ≡ false =
    leads-into-test _ _ _ _ _ c.as_slice-2.ensures.steps c.as_slice.ensures.steps c.starts_with.ensures.value ∙ c.if-starts_with.false in
    let into : leads_into place path ≡ true =
    leads-into-test _ _ _ _ _ c.as_slice-4.ensures.steps c.as_slice-3.ensures.steps c.starts_with-2.ensures.value ∙ c.if-starts_with-2.true in
    record {
      stops =
          subst (λ told. IfOk c.relabelling_stops-then-starts_with-2.result (λ stops. stops.items ≡ told))
          (ap (λ way. relabelling_stops is_element way tree) c.as_slice-then-starts_with-2.ensures.steps
          ∙ other-holds tree c.args.one c.args.other path place c.in_ok-path.ensures.path c.in_ok-place.ensures.path out into)
          c.relabelling_stops-then-starts_with-2.ensures.stops;
    }

pub returns : goal.returns
returns c =
    let tree = c.args.arena.now.tree in
    let path = c.in_ok-path.path in
    let place = c.in_ok-place.place in
    let out : leads_into path place ≡ false =
    leads-into-test _ _ _ _ _ c.as_slice-2.ensures.steps c.as_slice.ensures.steps c.starts_with.ensures.value ∙ c.if-starts_with.false in
    let away : leads_into place path ≡ false =
    leads-into-test _ _ _ _ _ c.as_slice-4.ensures.steps c.as_slice-3.ensures.steps c.starts_with-2.ensures.value ∙ c.if-starts_with-2.false in
    let first : c.is_before-is_first.result ≡ is_before path place =
    c.is_before-is_first.ensures.before ∙ (λ x. is_before (c.as_slice-7.ensures.steps x) (c.as_slice-8.ensures.steps x)) in
    let stops : c.as_slice-9.result.now ≡ relabelling_stops is_element path tree =
    c.as_slice-9.ensures.value ∙ c.in_ok-stops.ensures.stops ∙ ap (λ way. relabelling_stops is_element way tree) c.as_slice-5.ensures.steps in
    let others : c.as_slice-10.result.now ≡ relabelling_stops is_element place tree =
    c.as_slice-10.ensures.value ∙ c.in_ok-others.ensures.stops ∙ ap (λ way. relabelling_stops is_element way tree) c.as_slice-6.ensures.steps in
    record {
      stops =
          subst (λ told. IfOk c.joined.result (λ all. all.items ≡ told))
          ((λ x. joined (first x) (stops x) (others x)) ∙ none-holds tree c.args.one c.args.other path place c.in_ok-path.ensures.path c.in_ok-place.ensures.path out away)
          c.joined.ensures.joined;
    }
