use Rattle.node_arena.proofs.PrepareLaws.{prepares-removal}
use Rattle.node_arena.proofs.arena.Arena.prepare_removal.Goals as goal

pub returns : goal.returns
returns c = prepares-removal c.args.self.now c.args.path.now c.inner-key.result.0 c.inner-key.result.1 c.in_ok-keys.keys c.inner-key.ensures.document c.inner-key.ensures.key c.inner-key.ensures.place c.in_ok-keys.ensures
