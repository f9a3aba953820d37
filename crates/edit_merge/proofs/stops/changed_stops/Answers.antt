use Rattle.std.proofs.Common.{◌∷◌, [], ◌∙◌, Some, List, Option, ℕ, ap, ap₂}
use Rattle.forest.specs.Spots.{on_link}
use Rattle.merged_walk.specs.declared.stop.Stop.{Stop}
use Rattle.merged_walk.specs.declared.stop.Way.TheVariants.{Past}
use Rattle.merged_walk.specs.EditStops.{come_stop}
use Rattle.edit_merge.specs.EditMerges.{is_element}
use Rattle.edit_merge.proofs.ApproachLaws.{changed-here}
use Rattle.edit_merge.proofs.stops.changed_stops.Goals as goal

pub returns : goal.returns
returns c =
    let tree = c.args.arena.now.tree in
    let both : Option ℕ → Stop → List Stop = λ from come. record { depth = c.args.depth; link = Some c.args.key; way = Past; from = from } ∷ (come ∷ []) in
    record {
      stops =
          ap₂ both c.first_element-from.ensures.element
          (c.come_stop-come.ensures.stop ∙ ap (λ link. come_stop is_element c.args.depth c.args.key (on_link tree link)) c.next_sibling.ensures.link)
          ∙ changed-here tree c.arena_holds_document.ensures.document.distinct c.args.key c.requires.live c.args.depth;
    }
