use Rattle.touched_starts.proofs.LawLemmas.{starts_are_brought, untouched_starts_stay}
use Rattle.touched_starts.proofs.laws.untouched_starts_stay.Goals as goal

pub returns : goal.returns
returns c = record { stay = untouched_starts_stay; brought = starts_are_brought }
