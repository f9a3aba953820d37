use Rattle.std.proofs.Common.{◌≡◌, None, IfOk, subst}
use Rattle.forest.specs.Forest.{Forest}
use Rattle.forest.specs.Keys.{Keyed}
use Rattle.changed_lines.specs.Changes.{lines_between}
use Rattle.dirty_walk.specs.Books.{fresh_entry}
use Rattle.plain_types.specs.declared.node.Node.{Node}
use Rattle.marker_session.proofs.lines.all_lines.Goals as goal

pub returns-clause-lines : goal.returns-clause-lines
returns-clause-lines g c =
    subst (λ (tree : Forest (Keyed Node)). IfOk c.arena_lines.result (λ lines. lines.items ≡ lines_between tree (λ _. None) (fresh_entry c.args.book.now)))
    c.arena.ensures.tree c.arena_lines.ensures.lines
