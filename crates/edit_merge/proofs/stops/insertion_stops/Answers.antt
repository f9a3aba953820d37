use Rattle.std.proofs.Common.{◌≡◌, ◌∙◌, length, ap, arith}
use Rattle.forest.specs.Spots.{on_link}
use Rattle.merged_walk.specs.EditStops.{come_stop}
use Rattle.edit_merge.specs.EditMerges.{is_element}
use Rattle.edit_merge.proofs.ApproachLaws.{insertion-is}
use Rattle.edit_merge.proofs.stops.insertion_stops.Goals as goal

pub returns : goal.returns
returns c =
    let tree = c.args.arena.now.tree in
    let told = c.in_ok-stops.ensures in
    let way = c.in_ok-stops.field-0 in
    record {
      stops =
          c.in_ok-push.ensures.items
          ∙ insertion-is tree c.args.path.now c.arena_holds_document.ensures.document.distinct way.stops.items told.stops c.args.key way.link c.come_stop-stop.result
          told.link
          (c.come_stop-stop.ensures.stop ∙ ap (λ depth. come_stop is_element depth c.args.key (on_link tree way.link)) (let deep : c.len.result ≡ length way.stops.items = omega (arith, c.len.ensures, way.stops.ok.0) in deep));
    }
