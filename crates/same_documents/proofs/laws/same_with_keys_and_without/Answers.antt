use Rattle.same_documents.proofs.SameEdits.{same_bare, same_numbered}
use Rattle.same_documents.proofs.laws.same_with_keys_and_without.Goals as goal

pub returns : goal.returns
returns c = record { numbered = same_numbered 0; bare = same_bare }
