use Rattle.std.proofs.Common.{ℕ, List, subst}
use Rattle.surroundings.specs.declared.walked.Walked.{Walked}
use Rattle.kept_elements.specs.Changes.{AreBelow}
use Rattle.started_walk.proofs.CountedLemmas.{below-more}
use Rattle.started_walk.proofs.zeros.zeros_of.Goals as goal

pub returns-clause-room : goal.returns-clause-room
returns-clause-room c =
    below-more c.in_ok-room.room c.reserve.new.self.room c.in_ok-walked.walked.items
    (subst (λ (entries : List (ℕ × Walked)). AreBelow c.in_ok-room.room entries) c.as_slice.ensures.value c.in_ok-room.ensures.room)
    c.in_ok-reserve.ensures.room
