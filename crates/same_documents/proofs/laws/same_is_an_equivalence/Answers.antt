use Rattle.same_documents.proofs.SameEdits.{same_refl, same_sym, same_trans}
use Rattle.same_documents.proofs.laws.same_is_an_equivalence.Goals as goal

pub returns : goal.returns
returns c = record { itself = same_refl; both = same_sym; through = same_trans }
