use Rattle.node_arena.proofs.PrepareLaws.{prepares-set}
use Rattle.node_arena.proofs.arena.Arena.prepare_set.Goals as goal

pub returns : goal.returns
returns c =
    rw (c.in_ok-duplicate.ensures.same, c.in_ok-with_attr.ensures, c.as_slice.ensures.items)
    (prepares-set c.args.self.now c.args.path.now c.args.name.now c.args.value.now c.element-key.result.1.now c.element-key.result.2.now c.element-key.result.0 c.element-key.ensures.document c.element-key.ensures.key c.element-key.ensures.parts)
