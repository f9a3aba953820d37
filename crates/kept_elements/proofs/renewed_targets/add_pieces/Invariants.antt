use Rattle.std.proofs.Common.{◌≡◌, ◌||◌, ℕ, take}
use Rattle.std.specs.List.{filter_map, list_any}
use Rattle.content_eval.specs.Targets.{reference}
use Rattle.edit_work.specs.KeyedSources.{is_among}
use Rattle.referring_elements.specs.Found.{is_named}
use Rattle.kept_elements.proofs.renewed_targets.add_pieces.Given as goal

abbrev pub invariant-loop-piece : goal.invariant-loop-piece
invariant-loop-piece l = record {
  named : (other : ℕ) → is_among l.keys.keys other ≡ (is_among l.initial.keys.keys other || list_any (is_named l.initial.lookup.arena.now.tree other) (filter_map reference (take l.piece-index l.pieces)));
  tree : l.lookup.arena.now.tree ≡ l.initial.lookup.arena.now.tree;
}
