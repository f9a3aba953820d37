use Rattle.std.proofs.Common.{subst}
use Rattle.kept_elements.specs.Changes.{AreBelow}
use Rattle.started_walk.proofs.CountedLemmas.{below-more}
use Rattle.started_walk.proofs.twice.walk_again.Goals as goal

pub returns-clause-room : goal.returns-clause-room
returns-clause-room g c = below-more c.zeros_of.new.zeros.room c.reserve.new.self.room c.in_ok-zeros.zeros.items c.in_ok-zeros.ensures.room c.reserve.ensures.grown

pub returns-clause-told_room : goal.returns-clause-told_room
returns-clause-told_room g c =
    below-more c.in_ok-room.room c.reserve.new.self.room c.in_ok-told.field-0.told (subst (AreBelow c.in_ok-room.room) c.as_slice-2.ensures.items c.in_ok-room.ensures.room) c.in_ok-reserve.ensures.room
