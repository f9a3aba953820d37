use Rattle.std.proofs.Common.{insert, sym, subst}
use Rattle.node_arena.specs.Entries.{links_in}
use Rattle.node_arena.specs.Children.{listed, AreOnce}
use Rattle.node_arena.proofs.ChildLaws.{room-there, lists-listed, hangs}
use Rattle.node_arena.proofs.children.put_child.Goals as goal

pub number_children-requires : goal.number_children-requires
number_children-requires c =
    let at = links_in c.args.nodes.now in
    let there = room-there c.args.nodes.now c.args.parent c.requires.room in
    record { once = subst AreOnce (sym (lists-listed at (links_in c.list_child.new.nodes) at c.args.parent (insert (listed at c.args.parent) c.args.index c.args.child) there.0 there.1 c.list_child.ensures.lists)) c.requires.once }

pub returns-clause-hangs : goal.returns-clause-hangs
returns-clause-hangs c =
    let at = links_in c.args.nodes.now in
    let there = room-there c.args.nodes.now c.args.parent c.requires.room in
    hangs at (links_in c.list_child.new.nodes) (links_in c.number_children.new.nodes) c.args.parent (insert (listed at c.args.parent) c.args.index c.args.child) c.args.index there.0 there.1 c.list_child.ensures.lists c.number_children.ensures.numbers c.requires.below
