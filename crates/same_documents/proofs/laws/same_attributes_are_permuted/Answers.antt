use Rattle.same_documents.proofs.PermutedAttrs.{same_are_permuted}
use Rattle.same_documents.proofs.laws.same_attributes_are_permuted.Goals as goal

pub returns : goal.returns
returns c = record { permuted = same_are_permuted }
