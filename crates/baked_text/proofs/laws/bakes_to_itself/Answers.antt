use Rattle.baked_text.proofs.BakedLaws.{bare_stays}
use Rattle.baked_text.proofs.laws.bakes_to_itself.Goals as goal

pub returns : goal.returns
returns c = λ text output document bare baked. bare_stays text output document bare baked
