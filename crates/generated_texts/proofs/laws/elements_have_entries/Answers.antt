use Rattle.generated_texts.proofs.EntryKeys.{elements_keys}
use Rattle.generated_texts.proofs.laws.elements_have_entries.Goals as goal

pub returns : goal.returns
returns c = record { keys = elements_keys }
