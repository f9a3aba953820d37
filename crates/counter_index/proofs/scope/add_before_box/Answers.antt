use Rattle.std.proofs.Common.{◌∙◌}
use Rattle.std.specs.Str.{chars}
use Rattle.std.proofs.lemmas.Result.{on_ok_weaker}
use Rattle.scope_deeds.specs.KeptScopes.{kept_after, kept_before, kept_row}
use Rattle.forest.specs.Spots.{children_of}
use Rattle.counter_index.specs.Indexes.{countings}
use Rattle.counter_index.proofs.EventTurns.{three_read}
use Rattle.counter_index.proofs.RowTurns.{row-under}
use Rattle.counter_index.proofs.scope.add_before_box.Goals as goal

pub returns : goal.returns
returns c = record {
  ok =
      on_ok_weaker c.add_after.result
      (λ last. three_read c.args.creator (chars c.args.name.now) c.args.events.now c.add_before.new.events c.add_row.new.events c.add_after.new.events
      (kept_before (countings c.args.deeds.now.held) c.args.creator.key) (kept_row (countings c.args.deeds.now.held) c.args.creator (chars c.args.name.now) (children_of c.args.arena.now.tree c.args.creator.key)) (kept_after (countings c.args.deeds.now.held) c.args.creator.key)
      c.in_ok-add_before.ensures.ok
      (c.in_ok-add_row.ensures.ok
      ∙ row-under c.args.arena.now.tree (countings c.args.deeds.now.held) c.args.creator (chars c.args.name.now) c.arena_holds_document.ensures.document.distinct c.args.creator.key c.requires.live c.add_before.new.events c.first_child.result c.first_child.ensures.link)
      last)
      c.add_after.ensures.ok;
}
