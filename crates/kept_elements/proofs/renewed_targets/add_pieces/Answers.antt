use Rattle.std.proofs.Common.{◌||◌, ◌∙◌, ℕ, List, Option, false, ap, ap₂, sym, take}
use Rattle.std.specs.List.{filter_map, list_any}
use Rattle.std.specs.Option.{option_map_or}
use Rattle.content_eval.specs.Targets.{reference}
use Rattle.edit_work.specs.KeyedSources.{is_among}
use Rattle.referring_elements.specs.Found.{is_named}
use Rattle.kept_elements.proofs.RenewedLoops.{names_more, or_assoc}
use Rattle.kept_elements.proofs.renewed_targets.add_pieces.Goals as goal

pub loop-piece-preserved : goal.loop-piece-preserved
loop-piece-preserved c = record {
  named = λ other.
      let tree = c.args.lookup.now.arena.now.tree in
      let p = is_named tree other in
      let pieces = c.args.pieces.now in
      let place = c.loop-piece.piece-index in
      let was = is_among c.args.keys.now.keys other in
      let so_far = list_any p (filter_map reference (take place pieces)) in
      c.in_ok-add_target.ensures.ok other
      ∙ ap₂ (λ a b. a || b) (c.loop-piece.invariant.named other)
      (ap₂ (λ t (o : Option (List ℕ)). option_map_or (is_named t other) o false) c.loop-piece.invariant.tree c.reference.ensures.id)
      ∙ or_assoc was so_far (option_map_or p (reference c.piece-item.result) false)
      ∙ ap (λ b. was || b) (sym (names_more p pieces place c.piece-item.result c.loop-piece-test.true c.piece-item.is));
  tree = c.in_ok-add_target.ensures.tree ∙ c.loop-piece.invariant.tree;
}
