use Rattle.std.proofs.Common.{◌+◌, sym, subst}
use Rattle.std.specs.Prelude.{IsTrue}
use Rattle.plain_types.specs.Building.{accepts_node, IsBuilding}
use Rattle.plain_types.proofs.RowLemmas.{accepts-case, building-start}
use Rattle.plain_types.proofs.tree_builder.TreeBuilder.start.Goals as goal

pub invariant_of-self-2 : goal.invariant_of-self-2
invariant_of-self-2 c =
    subst (λ all. IsBuilding all (c.self.inside.begun + 1)) (sym c.in_ok-push.ensures.ok)
    (building-start c.self.inside.nodes c.self.inside.begun c.args.name c.args.attrs c.self.invariant
    (accepts-case _ _ (subst (λ building. IsTrue (accepts_node building)) (sym c.self.view_is) c.requires.accepts)) c.requires.distinct)
