use Rattle.std.proofs.Common.{sym, subst}
use Rattle.forest.specs.Spots.{IsLink}
use Rattle.forest.proofs.SpotLaws.{root_link}
use Rattle.node_arena.proofs.EntryLaws.{opened, root-first}
use Rattle.node_arena.proofs.arena.Arena.root.Goals as goal

pub returns-clause-live : goal.returns-clause-live
returns-clause-live c =
    let tree = c.args.self.now.tree in
    subst (IsLink tree) (sym (root-first c.self.inside.nodes c.self.inside.root tree (opened c.self.inside.nodes c.self.inside.root c.args.self.now c.self.invariant c.self.view_is).0)) (root_link tree)
