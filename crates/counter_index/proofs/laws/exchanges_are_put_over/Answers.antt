use Rattle.counter_index.proofs.PutLemmas.{exchanges_are_put_over, told_are_exchanged}
use Rattle.counter_index.proofs.laws.exchanges_are_put_over.Goals as goal

pub returns : goal.returns
returns c = record { over = exchanges_are_put_over; told = told_are_exchanged }
