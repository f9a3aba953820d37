use Rattle.std.proofs.Common.{sym, subst}
use Rattle.forest.specs.Spots.{IsLink}
use Rattle.forest.proofs.SiblingLaws.{parent-link}
use Rattle.node_arena.proofs.arena.Arena.parent.Goals as goal

pub returns-clause-live : goal.returns-clause-live
returns-clause-live c = subst (IsLink c.args.self.now.tree) (sym c.entry.ensures.says.parent) (parent-link c.args.self.now.tree c.args.key c.entry.ensures.document.distinct c.requires)
