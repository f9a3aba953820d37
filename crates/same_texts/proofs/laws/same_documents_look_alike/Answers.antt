use Rattle.same_texts.proofs.SameLines.{holder_same}
use Rattle.same_texts.proofs.SameStandings.{matched_alike}
use Rattle.same_texts.proofs.SameStyles.{attr_same}
use Rattle.same_texts.proofs.laws.same_documents_look_alike.Goals as goal

pub returns : goal.returns
returns c = record { attributes = attr_same; selectors = matched_alike; ids = holder_same }
