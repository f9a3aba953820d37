use Rattle.std.proofs.lemmas.List.Elements.{All-get_or}
use Rattle.forest.specs.Spots.{IsLink}
use Rattle.merged_walk.specs.declared.stop.Stop.{Stop}
use Rattle.turned_stops.proofs.ComingLemmas.{coming-more}
use Rattle.turned_stops.proofs.coming.coming_keys.Goals as goal

pub put_coming-requires : goal.put_coming-requires
put_coming-requires c = record {
  link = All-get_or (λ (stop : Stop). IsLink c.args.arena.now.tree stop.link) c.args.stops.now c.loop-stop.stop-index _ c.loop-stop-test.true c.requires.links;
}

pub loop-stop-preserved : goal.loop-stop-preserved
loop-stop-preserved c =
    coming-more c.args.arena.now.tree c.args.stops.now c.loop-stop.stop-index _ c.loop-stop.keys c.put_coming.new.keys
    c.loop-stop-test.true c.loop-stop.invariant c.in_ok-put_coming.ensures.ok
