use Rattle.std.proofs.lemmas.List.Elements.{All-get_or}
use Rattle.forest.specs.Spots.{IsLive}
use Rattle.turned_stops.proofs.StopLemmas.{ways-more}
use Rattle.turned_stops.proofs.ways.with_ways.Goals as goal

pub add_way-requires : goal.add_way-requires
add_way-requires c = record {
  live = All-get_or (IsLive c.args.arena.now.tree) c.args.keys.now c.loop-key.key-index _ c.loop-key-test.true c.requires.live;
  links = c.loop-key.invariant.links;
}

pub loop-key-preserved : goal.loop-key-preserved
loop-key-preserved c = record {
  links = c.in_ok-add_way.ensures.links;
  ways =
      ways-more c.args.arena.now.tree c.args.keys.now c.args.stops.now c.loop-key.key-index _ c.loop-key.all.items c.add_way.new.stops.items
      c.loop-key-test.true c.loop-key.invariant.ways c.in_ok-add_way.ensures.stops;
}
