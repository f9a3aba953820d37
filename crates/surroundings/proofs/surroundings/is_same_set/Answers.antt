use Rattle.std.proofs.lemmas.Bool.Decides.{same_from_decides}
use Rattle.surroundings.proofs.SameLaws.{set-Decides}
use Rattle.surroundings.proofs.surroundings.is_same_set.Goals as goal

pub returns : goal.returns
returns c = record { test = same_from_decides _ _ c.is_same.ensures.test (set-Decides c.args.one.now c.args.other.now) }
