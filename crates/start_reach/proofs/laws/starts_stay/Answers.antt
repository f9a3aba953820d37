use Rattle.start_reach.proofs.CounterLaws.{events_stay, starts_stay}
use Rattle.start_reach.proofs.DeedLaws.{compared_is_left_alone}
use Rattle.start_reach.proofs.LawLemmas.{edits_keep_starts}
use Rattle.start_reach.proofs.SkipLaws.{skipped_starts_stay}
use Rattle.start_reach.proofs.laws.starts_stay.Goals as goal

pub returns : goal.returns
returns c = record { events = events_stay; compared = compared_is_left_alone; starts = starts_stay; skipped = skipped_starts_stay; edits = edits_keep_starts }
