use Rattle.std.proofs.Common.{◌++◌, Some, reverse}
use Rattle.forest.specs.Spots.{on_link}
use Rattle.node_arena.specs.Changes.{alone}
use Rattle.edit_work.specs.KeyedSources.{element_key, elements_in}
use Rattle.referring_elements.proofs.NodeTurns.{Tells}
use Rattle.referring_elements.proofs.NodesLeft.{turns_left}
use Rattle.turned_stops.proofs.coming.put_tree.Given as goal

abbrev pub invariant-walk : goal.invariant-walk
invariant-walk l = Tells element_key l.arena.tree (l.fn.keys ++ elements_in (alone (on_link l.arena.tree (Some l.key)))) (reverse l.inside.items) l.link l.keys

abbrev pub decreases-walk : goal.decreases-walk
decreases-walk l = turns_left l.arena.tree (reverse l.inside.items) l.link
