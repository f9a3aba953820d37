use Rattle.std.proofs.Common.{◌∙◌, sym, ap, arith}
use Rattle.forest.specs.Keys.{without_keys}
use Rattle.node_arena.specs.Edits.{place_fault}
use Rattle.edit_merge.proofs.PlaceLaws.{index-fits}
use Rattle.edit_merge.proofs.stops.stops_of_edit.Goals as goal

pub moving_stops-requires : goal.moving_stops-requires
moving_stops-requires c =
    let tree = c.args.arena.now.tree in
    record {
      fits =
          omega (
            arith,
            index-fits c.in-Move.from c.in-Move.parent c.in-Move.index tree c.arena_holds_document.ensures.document
                (ap (λ edit. place_fault edit (without_keys tree)) (sym c.in-Move.is) ∙ c.requires.allowed),
          );
    }
