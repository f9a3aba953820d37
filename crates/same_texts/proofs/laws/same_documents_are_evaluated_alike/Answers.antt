use Rattle.same_texts.proofs.SameEvaluations.{evaluation_same}
use Rattle.same_texts.proofs.SameLines.{entries_same}
use Rattle.same_texts.proofs.laws.same_documents_are_evaluated_alike.Goals as goal

pub returns : goal.returns
returns c = record { records = λ document other same author. evaluation_same author document other same; entries = entries_same }
