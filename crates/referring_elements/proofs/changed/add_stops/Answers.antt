use Rattle.std.proofs.lemmas.List.Elements.{All-get_or}
use Rattle.forest.specs.Spots.{IsLink}
use Rattle.edit_work.specs.KeyedSources.{is_among}
use Rattle.merged_walk.specs.declared.stop.Stop.{Stop}
use Rattle.referring_elements.proofs.ChangedLemmas.{stops-more}
use Rattle.referring_elements.proofs.changed.add_stops.Goals as goal

pub add_stop-requires : goal.add_stop-requires
add_stop-requires c = record {
  live = All-get_or (λ (stop : Stop). IsLink c.args.arena.now.tree stop.link) c.args.stops.now c.loop-stop.stop-index _ c.loop-stop-test.true c.requires.live;
}

pub loop-stop-preserved : goal.loop-stop-preserved
loop-stop-preserved c key =
    stops-more c.args.arena.now.tree key c.args.stops.now c.loop-stop.stop-index _ (is_among c.args.found.now key) (is_among c.loop-stop.found key) (is_among c.add_stop.new.found key)
    c.loop-stop-test.true (c.loop-stop.invariant key) (c.in_ok-add_stop.ensures.ok key)
