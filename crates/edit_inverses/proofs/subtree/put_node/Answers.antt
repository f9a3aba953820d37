use Rattle.std.proofs.Common.{sym, subst, ◌∙◌}
use Rattle.plain_types.specs.Tree.{HasDistinctNames}
use Rattle.edit_inverses.proofs.NodeFacts.{named_distinct}
use Rattle.edit_inverses.proofs.subtree.put_node.Goals as goal

pub start-requires-clause-distinct : goal.start-requires-clause-distinct
start-requires-clause-distinct c =
    subst HasDistinctNames (sym (c.in_ok-attrs-in-Some.ensures.same ∙ c.attrs.ensures))
    (named_distinct c.args.arena.now.tree c.args.key _ c.arena_holds_document.ensures.document c.requires.live (sym c.in-Some.ensures.characters))
