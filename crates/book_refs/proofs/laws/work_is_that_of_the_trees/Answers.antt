use Rattle.book_refs.proofs.RekeyedWork.{work_of_trees}
use Rattle.book_refs.proofs.laws.work_is_that_of_the_trees.Goals as goal

pub returns : goal.returns
returns c = record { work = work_of_trees }
