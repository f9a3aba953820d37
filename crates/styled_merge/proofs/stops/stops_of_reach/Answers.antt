use Rattle.std.proofs.Common.{sym, ◌∙◌}
use Rattle.styled_merge.proofs.StopLemmas.{live-both, live-under}
use Rattle.styled_merge.proofs.stops.stops_of_reach.Goals as goal

pub stops_at_node-requires : goal.stops_at_node-requires
stops_at_node-requires c = record {
  live =
      live-under c.requires.reach.0 c.args.arena.now.tree c.arena_holds_document.ensures.document c.args.edit.now c.in-Under.top
      (sym c.requires.reach.1 ∙ c.in-Under.is);
}

pub stops_at_nodes-requires-clause-one : goal.stops_at_nodes-requires-clause-one
stops_at_nodes-requires-clause-one c =
    (live-both c.requires.reach.0 c.args.arena.now.tree c.arena_holds_document.ensures.document c.args.edit.now c.in-Both.first c.in-Both.second
    (sym c.requires.reach.1 ∙ c.in-Both.is)).0

pub stops_at_nodes-requires-clause-other : goal.stops_at_nodes-requires-clause-other
stops_at_nodes-requires-clause-other c =
    (live-both c.requires.reach.0 c.args.arena.now.tree c.arena_holds_document.ensures.document c.args.edit.now c.in-Both.first c.in-Both.second
    (sym c.requires.reach.1 ∙ c.in-Both.is)).1
