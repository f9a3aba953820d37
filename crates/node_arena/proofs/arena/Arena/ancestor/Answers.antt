use Rattle.std.proofs.Common.{◌≡◌, ◌+◌, ◌-◌, length, take, sym, ap, ◌∙◌, arith, length-take}
use Rattle.forest.specs.Paths.{route_of}
use Rattle.forest.proofs.PathLaws.{parent-live}
use Rattle.forest.proofs.LevelLaws.{root-level, step-up}
use Rattle.node_arena.proofs.arena.Arena.ancestor.Goals as goal
use Rattle.node_arena.proofs.arena.Arena.ancestor.Goals.{in-Some, in_default}

pub climb-preserved : goal.climb-preserved
climb-preserved c =
    let tree = c.args.self.now.tree in
    let distinct = c.arena_holds_document.ensures.document.distinct in
    let way = route_of tree c.args.key in
    let left = length way - (c.climb._step + 1) in
    let more : length way - c.climb._step ≡ left + 1 = omega (arith, c.climb-test.true, c.requires.deep) in
    elim c.match-parent.branch [
      | in-Some w ↦
          let parent = sym w.in-Some.ensures.link in
          rw w.at-is (record {
            live = parent-live tree c.climb.at w.in-Some.parent distinct c.climb.invariant.live parent;
            route = step-up tree c.climb.at w.in-Some.parent left way distinct c.climb.invariant.live parent (c.climb.invariant.route ∙ ap (λ n. take n way) more) (omega arith);
          })
      | in_default w ↦
          absurd (omega (arith, root-level tree c.climb.at distinct c.climb.invariant.live (sym w.in_default.ensures.link), ap length c.climb.invariant.route, length-take (length way - c.climb._step) way, c.climb-test.true, c.requires.deep))
    ]
