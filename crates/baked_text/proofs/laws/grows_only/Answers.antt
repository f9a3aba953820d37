use Rattle.baked_text.proofs.BakedLaws.{baked_grows}
use Rattle.baked_text.proofs.laws.grows_only.Goals as goal

pub returns : goal.returns
returns c = λ text output document is baked. baked_grows text output document is baked
