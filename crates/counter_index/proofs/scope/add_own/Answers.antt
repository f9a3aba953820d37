use Rattle.std.proofs.Common.{◌∙◌}
use Rattle.std.specs.Str.{chars}
use Rattle.std.proofs.lemmas.Result.{on_ok_weaker}
use Rattle.forest.specs.Spots.{children_of}
use Rattle.counter_index.specs.Indexes.{countings}
use Rattle.counter_index.specs.Machinery.Rows.{tree_changes}
use Rattle.counter_index.proofs.EventTurns.{two_read}
use Rattle.counter_index.proofs.RowTurns.{row-after}
use Rattle.counter_index.proofs.scope.add_own.Goals as goal

pub returns : goal.returns
returns c = record {
  ok =
      on_ok_weaker c.add_row.result
      (λ row. two_read c.args.creator (chars c.args.name.now) c.args.events.now c.add_tree.new.events c.add_row.new.events
      (tree_changes (countings c.args.deeds.now.held) c.args.creator.key (children_of c.args.arena.now.tree c.args.creator.key)) _ c.in_ok-add_tree.ensures.ok
      (row ∙ row-after c.args.arena.now.tree (countings c.args.deeds.now.held) c.args.creator (chars c.args.name.now) c.arena_holds_document.ensures.document.distinct c.args.creator.key c.requires.live c.add_tree.new.events c.next_sibling.result c.next_sibling.ensures.link))
      c.add_row.ensures.ok;
}
