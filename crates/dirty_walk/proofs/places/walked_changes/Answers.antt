use Rattle.std.proofs.Common.{ℕ, List, subst}
use Rattle.kept_elements.specs.declared.kept_change.KeptChange.{KeptChange}
use Rattle.kept_elements.specs.Changes.{AreBelow}
use Rattle.kept_elements.proofs.ChangeLemmas.{below-more}
use Rattle.dirty_walk.proofs.places.walked_changes.Goals as goal

pub walked_entries-requires : goal.walked_entries-requires
walked_entries-requires g c = record { indexed = c.requires.indexed; walk = c.requires.walk }

pub returns-clause-renewal : goal.returns-clause-renewal
returns-clause-renewal g c = c.in_ok-changes.ensures.renewal

pub returns-clause-room : goal.returns-clause-room
returns-clause-room g c =
    below-more c.in_ok-room.room c.reserve.new.self.room c.in_ok-changes.changes.items c.in_ok-reserve.ensures.room
    (subst (λ (items : List (ℕ × KeptChange)). AreBelow c.in_ok-room.room items) c.as_slice.ensures.value c.in_ok-room.ensures.room)

pub returns-clause-few : goal.returns-clause-few
returns-clause-few g c = c.in_ok-changes.ensures.few
