use Rattle.counter_index.proofs.ToldLemmas.{caught_is_put_over, deeds_are_told, exchanges_keep_deeds, new_indexes_keep_deeds}
use Rattle.counter_index.proofs.laws.indexes_follow_walks.Goals as goal

pub returns : goal.returns
returns c = record { deeds = deeds_are_told; over = caught_is_put_over; edits = exchanges_keep_deeds; whole = new_indexes_keep_deeds }
