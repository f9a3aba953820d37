use Rattle.reference_reach.proofs.LawLemmas.{flat_texts_stay, full_texts_stay, referring_rests_on_elements}
use Rattle.reference_reach.proofs.laws.texts_stay.Goals as goal

pub returns : goal.returns
returns c = record { flat = flat_texts_stay; full = full_texts_stay; listed = referring_rests_on_elements }
