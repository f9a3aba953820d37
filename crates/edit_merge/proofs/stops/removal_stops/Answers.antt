use Rattle.std.proofs.Common.{◌≡◌, ◌∙◌, Vec, Global, Some, length, sym, ap, arith}
use Rattle.forest.specs.Spots.{on_link}
use Rattle.merged_walk.specs.declared.stop.Stop.{Stop}
use Rattle.merged_walk.specs.EditStops.{gone_stop}
use Rattle.edit_merge.specs.EditMerges.{is_element}
use Rattle.edit_merge.proofs.ApproachLaws.{removal-none, removal-some}
use Rattle.edit_merge.proofs.stops.removal_stops.Goals as goal
use Rattle.edit_merge.proofs.stops.removal_stops.Goals.{in-Some+in_ok-push, in_default}

pub returns : goal.returns
returns c =
    let tree = c.args.arena.now.tree in
    let distinct = c.arena_holds_document.ensures.document.distinct in
    let told = c.in_ok-stops.ensures in
    let way = c.in_ok-stops.field-0 in
    record {
      stops = elim c.match-link.branch [
        | in-Some+in_ok-push w ↦
            ap (λ (v : Vec Stop Global). v.items) w.stops-is ∙ w.in_ok-push.ensures.items
            ∙ removal-some tree c.args.path.now distinct way.stops.items told.stops w.in-Some.key w.gone_stop-stop.result (sym w.in-Some.is ∙ told.link)
            (w.gone_stop-stop.ensures.stop ∙ ap (λ depth. gone_stop is_element depth (on_link tree (Some w.in-Some.key))) (let deep : w.len.result ≡ length way.stops.items = omega (arith, w.len.ensures, way.stops.ok.0) in deep))
        | in_default w ↦ ap (λ (v : Vec Stop Global). v.items) w.stops-is ∙ removal-none tree c.args.path.now distinct way.stops.items told.stops (sym w.in_default.is ∙ told.link)
      ];
    }
