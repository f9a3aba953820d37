use Rattle.std.proofs.Common.{◌≡◌, ◌<◌, vec_capacity, ◌++◌, ◌∷◌, [], reverse, sym, ap, ◌∙◌, drop, length, arith, append_assoc, length-append, length-drop}
use Rattle.std.proofs.lemmas.List.{length-reverse, reverse-append}
use Rattle.forest.specs.Paths.{route_of, path_of}
use Rattle.forest.specs.Spots.{index_of}
use Rattle.forest.proofs.PathLaws.{parent-live, route-child, route-of_root}
use Rattle.forest.proofs.LevelLaws.{child-level, route-some}
use Rattle.ports.proofs.GrownLemmas.{on_err}
use Rattle.marker_engine.proofs.node_path.fill_path.Goals as goal

pub climb-smaller : goal.climb-smaller
climb-smaller c = omega (arith, child-level c.args.arena.now.tree c.climb.at c.in-Some.parent c.arena_holds_document.ensures.document.distinct c.climb.invariant.live (sym c.in-Some.ensures.link))

pub climb-preserved : goal.climb-preserved
climb-preserved c =
    let tree = c.args.arena.now.tree in
    let distinct = c.arena_holds_document.ensures.document.distinct in
    let last = reverse c.climb.positions.items in
    record {
      live = parent-live tree c.climb.at c.in-Some.parent distinct c.climb.invariant.live (sym c.in-Some.ensures.link);
      route =
          c.climb.invariant.route
          ∙ ap (λ way. way ++ last) (route-child tree c.climb.at c.in-Some.parent distinct c.climb.invariant.live (sym c.in-Some.ensures.link))
          ∙ append_assoc (route_of tree c.in-Some.parent) (index_of tree c.climb.at ∷ []) last
          ∙ ap (λ index. route_of tree c.in-Some.parent ++ index ∷ last) (sym c.index_of.ensures)
          ∙ ap (λ steps. route_of tree c.in-Some.parent ++ steps) (sym (ap reverse c.in_ok-push.ensures.items ∙ reverse-append c.climb.positions.items (c.index_of.result ∷ [])));
      room = omega (arith, c.climb.invariant.room, c.in_ok-push.ensures.capacity);
    }

pub returns-clause-path : goal.returns-clause-path
returns-clause-path c =
    let tree = c.args.arena.now.tree in
    let steps : path_of tree c.args.key ≡ reverse c.climb.positions.items =
    ap (drop 1) (c.climb.invariant.route ∙ ap (λ way. way ++ reverse c.climb.positions.items) (route-of_root tree c.climb.at c.arena_holds_document.ensures.document.distinct c.climb.invariant.live (sym c.in_default.ensures.link))) in
    c.reverse.ensures.items ∙ sym steps

-- the node that is reached has a parent, so that the path is longer than what is there
pub returns-in_err-push-clause-wanting : goal.returns-in_err-push-clause-wanting
returns-in_err-push-clause-wanting c =
    let tree = c.args.arena.now.tree in
    let distinct = c.arena_holds_document.ensures.document.distinct in
    let last = reverse c.climb.positions.items in
    let route = ap length c.climb.invariant.route ∙ length-append (route_of tree c.climb.at) last in
    let above = route-some tree c.in-Some.parent (parent-live tree c.climb.at c.in-Some.parent distinct c.climb.invariant.live (sym c.in-Some.ensures.link)) in
    let below = child-level tree c.climb.at c.in-Some.parent distinct c.climb.invariant.live (sym c.in-Some.ensures.link) in
    let path = length-drop 1 (route_of tree c.args.key) in
    let there = length-reverse c.climb.positions.items in
    let count = c.climb.positions.ok.0 in
    let longer : vec_capacity c.args.positions.now < length (path_of tree c.args.key) = omega (arith, route, above, below, path, there, count, c.climb.invariant.room, c.in_err-push.ensures.full) in
    on_err _ longer
