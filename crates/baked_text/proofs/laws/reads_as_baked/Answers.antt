use Rattle.baked_text.proofs.BakedLaws.{baked_reads}
use Rattle.baked_text.proofs.laws.reads_as_baked.Goals as goal

pub returns : goal.returns
returns c = λ text output document is baked. baked_reads text output document is baked
