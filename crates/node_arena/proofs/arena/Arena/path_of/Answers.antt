use Rattle.std.proofs.Common.{◌≡◌, ◌++◌, ◌∷◌, [], reverse, sym, ap, subst, ◌∙◌, drop, arith, append_assoc, IfOk}
use Rattle.std.proofs.lemmas.List.{reverse-append}
use Rattle.forest.specs.Paths.{route_of, path_of}
use Rattle.forest.specs.Spots.{index_of}
use Rattle.forest.proofs.PathLaws.{parent-live, route-child, route-of_root}
use Rattle.forest.proofs.LevelLaws.{child-level}
use Rattle.node_arena.proofs.arena.Arena.path_of.Goals as goal

pub climb-smaller : goal.climb-smaller
climb-smaller c = omega (arith, child-level c.args.self.now.tree c.climb.at c.in-Some.parent c.arena_holds_document.ensures.document.distinct c.climb.invariant.live (sym c.in-Some.ensures.link))

pub climb-preserved : goal.climb-preserved
climb-preserved c =
    let tree = c.args.self.now.tree in
    let distinct = c.arena_holds_document.ensures.document.distinct in
    let last = reverse c.climb.steps.items in
    record {
      live = parent-live tree c.climb.at c.in-Some.parent distinct c.climb.invariant.live (sym c.in-Some.ensures.link);
      route =
          c.climb.invariant.route
          ∙ ap (λ way. way ++ last) (route-child tree c.climb.at c.in-Some.parent distinct c.climb.invariant.live (sym c.in-Some.ensures.link))
          ∙ append_assoc (route_of tree c.in-Some.parent) (index_of tree c.climb.at ∷ []) last
          ∙ ap (λ index. route_of tree c.in-Some.parent ++ index ∷ last) (sym c.index_of.ensures)
          ∙ ap (λ steps. route_of tree c.in-Some.parent ++ steps) (sym (ap reverse c.in_ok-push.ensures.items ∙ reverse-append c.climb.steps.items (c.index_of.result ∷ [])));
    }

pub returns : goal.returns
returns c =
    let tree = c.args.self.now.tree in
    let steps : path_of tree c.args.key ≡ reverse c.climb.steps.items =
    ap (drop 1) (c.climb.invariant.route ∙ ap (λ way. way ++ reverse c.climb.steps.items) (route-of_root tree c.climb.at c.arena_holds_document.ensures.document.distinct c.climb.invariant.live (sym c.in_default.ensures.link))) in
    record { path = subst (λ way. IfOk c.of.result (λ path. path ≡ way)) (c.as_slice.ensures.value ∙ c.reverse.ensures.items ∙ sym steps) c.of.ensures.steps }
