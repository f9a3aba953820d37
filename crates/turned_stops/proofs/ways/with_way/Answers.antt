use Rattle.std.proofs.Common.{arith}
use Rattle.std.proofs.lemmas.List.{take_rest}
use Rattle.std.proofs.lemmas.List.Elements.{All-get_or}
use Rattle.forest.specs.Spots.{IsLive}
use Rattle.turned_stops.proofs.StopLemmas.{node-put, rest-within}
use Rattle.turned_stops.proofs.ways.with_way.Goals as goal

pub overflow_add-from : goal.overflow_add-from
overflow_add-from c = record {
  fits = omega (
    arith,
    rest-within c.args.arena.now.tree c.args.way.now c.args.stops.now c.loop-depth.from c.in_ok-from.field-0 _ c.loop-depth.invariant.within
        (take_rest c.args.stops.now c.loop-depth.from) c.in_ok-from.ensures.begin,
  );
}

pub loop-depth-preserved : goal.loop-depth-preserved
loop-depth-preserved c =
    node-put c.args.arena.now.tree c.args.way.now c.args.stops.now c.loop-depth.depth _ c.loop-depth.from c.in_ok-from.field-0 _ c.loop-depth.all.items c.put_node.new.all.items
    c.requires.links c.loop-depth-test.true (All-get_or (IsLive c.args.arena.now.tree) c.args.way.now c.loop-depth.depth _ c.loop-depth-test.true c.requires.live) c.loop-depth.invariant
    (take_rest c.args.stops.now c.loop-depth.from) c.in_ok-from.ensures.begin c.in_ok-from.ensures.after c.in_ok-from.ensures.put
