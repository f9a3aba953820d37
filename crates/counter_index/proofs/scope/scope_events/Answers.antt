use Rattle.std.proofs.Common.{◌++◌, ap, sym, ◌∙◌}
use Rattle.std.specs.Str.{chars}
use Rattle.box_eval.specs.Starts.{events_of}
use Rattle.forest.specs.Spots.{after_of, children_of, parent_of}
use Rattle.scope_deeds.specs.KeptScopes.{kept_from}
use Rattle.counter_index.specs.Indexes.{countings}
use Rattle.counter_index.proofs.EventTurns.{two_read}
use Rattle.counter_index.proofs.ScopeLemmas.{scope-at, up}
use Rattle.counter_index.proofs.scope.scope_events.Goals as goal

pub returns : goal.returns
returns c =
    let from = kept_from (countings c.args.deeds.now.held) c.args.creator (chars c.args.name.now) c.args.creator.kind c.args.creator.key (children_of c.args.arena.now.tree c.args.creator.key) (after_of c.args.arena.now.tree c.args.creator.key) in
    let last = up (countings c.args.deeds.now.held) (parent_of c.args.arena.now.tree c.args.creator.key) in
    record {
      events =
          two_read c.args.creator (chars c.args.name.now) c.new-events.result c.add_from.new.events c.add_parent.new.events from last c.in_ok-add_from.ensures.ok c.in_ok-add_parent.ensures.ok
          ∙ ap (λ events. events ++ events_of (from ++ last) c.args.creator (chars c.args.name.now)) c.new-events.ensures.empty
          ∙ ap (λ read. events_of read c.args.creator (chars c.args.name.now)) (sym (scope-at (countings c.args.deeds.now.held) c.args.creator (chars c.args.name.now) c.args.arena.now.tree c.arena_holds_document.ensures.document.distinct c.requires.live));
    }
