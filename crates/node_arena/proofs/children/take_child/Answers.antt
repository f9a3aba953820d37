use Rattle.std.proofs.Common.{remove, sym, subst}
use Rattle.node_arena.specs.Entries.{links_in}
use Rattle.node_arena.specs.Children.{listed, AreOnce}
use Rattle.node_arena.proofs.ChildLaws.{listing-there, lists-listed, hangs}
use Rattle.node_arena.proofs.children.take_child.Goals as goal

pub number_children-requires : goal.number_children-requires
number_children-requires c =
    let at = links_in c.args.nodes.now in
    let there = listing-there at c.args.parent c.args.index c.requires.within in
    record { once = subst AreOnce (sym (lists-listed at (links_in c.unlist_child.new.nodes) at c.args.parent (remove (listed at c.args.parent) c.args.index) there.0 there.1 c.unlist_child.ensures.lists)) c.requires.once }

pub returns-clause-hangs : goal.returns-clause-hangs
returns-clause-hangs c =
    let at = links_in c.args.nodes.now in
    let there = listing-there at c.args.parent c.args.index c.requires.within in
    hangs at (links_in c.unlist_child.new.nodes) (links_in c.number_children.new.nodes) c.args.parent (remove (listed at c.args.parent) c.args.index) c.args.index there.0 there.1 c.unlist_child.ensures.lists c.number_children.ensures.numbers c.requires.below
