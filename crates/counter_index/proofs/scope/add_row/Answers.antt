use Rattle.std.proofs.Common.{◌++◌, sym, ◌∙◌}
use Rattle.std.specs.Str.{chars}
use Rattle.forest.specs.Spots.{on_link}
use Rattle.box_eval.specs.Starts.{events_of}
use Rattle.scope_deeds.specs.KeptScopes.{kept_row}
use Rattle.counter_index.specs.Indexes.{countings}
use Rattle.counter_index.proofs.RowTurns.{row-begins, row-turn}
use Rattle.counter_index.proofs.scope.add_row.Goals as goal

pub row-init : goal.row-init
row-init c = row-begins c.args.arena.now.tree (countings c.args.deeds.now.held) c.args.creator (chars c.args.name.now) c.args.first c.args.events.now c.requires.link

pub row-smaller : goal.row-smaller
row-smaller c =
    (row-turn c.args.arena.now.tree (countings c.args.deeds.now.held) c.args.creator (chars c.args.name.now)
    (c.args.events.now ++ events_of (kept_row (countings c.args.deeds.now.held) c.args.creator (chars c.args.name.now) (on_link c.args.arena.now.tree c.args.first)) c.args.creator (chars c.args.name.now))
    c.row.link c.next_sibling-link.result c.in-Some.node c.row.events c.add_boxed.new.events
    c.arena_holds_document.ensures.document.distinct c.row.invariant c.in-Some.is (sym c.lacks_counter.ensures.test ∙ c.if-lacks_counter.false) c.in_ok-add_boxed.ensures.ok c.next_sibling-link.ensures.link).1

pub row-preserved : goal.row-preserved
row-preserved c =
    (row-turn c.args.arena.now.tree (countings c.args.deeds.now.held) c.args.creator (chars c.args.name.now)
    (c.args.events.now ++ events_of (kept_row (countings c.args.deeds.now.held) c.args.creator (chars c.args.name.now) (on_link c.args.arena.now.tree c.args.first)) c.args.creator (chars c.args.name.now))
    c.row.link c.next_sibling-link.result c.in-Some.node c.row.events c.add_boxed.new.events
    c.arena_holds_document.ensures.document.distinct c.row.invariant c.in-Some.is (sym c.lacks_counter.ensures.test ∙ c.if-lacks_counter.false) c.in_ok-add_boxed.ensures.ok c.next_sibling-link.ensures.link).0
