use Rattle.std.proofs.Common.{sym, ap, ◌∙◌, subst, Some}
use Rattle.plain_types.specs.Tree.{HasDistinctNames}
use Rattle.plain_types.specs.declared.node.Node.TheVariants.{Element}
use Rattle.node_arena.proofs.ToTree.{sound-at}
use Rattle.node_arena.proofs.arena.Arena.put_node.Goals as goal

pub start-requires-clause-distinct : goal.start-requires-clause-distinct
start-requires-clause-distinct c =
    subst HasDistinctNames (sym c.in_ok-duplicate-in-Element-2.ensures.same)
    (sound-at c.args.self.now.tree c.args.key (Element c.in-Element.name c.in-Element.attrs) c.entry.ensures.document c.requires.live (ap Some (sym c.in-Element.is) ∙ c.entry.ensures.says.node))
