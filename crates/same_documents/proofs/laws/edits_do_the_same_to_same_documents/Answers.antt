use Rattle.same_documents.proofs.SameEdits.{same_edited, same_fault}
use Rattle.same_documents.proofs.laws.edits_do_the_same_to_same_documents.Goals as goal

pub returns : goal.returns
returns c = record { refused = same_fault; edited = same_edited }
