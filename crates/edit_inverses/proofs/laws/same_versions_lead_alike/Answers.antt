use Rattle.edit_inverses.proofs.VersionLaws.{allow_same, lead_same}
use Rattle.edit_inverses.proofs.laws.same_versions_lead_alike.Goals as goal

pub returns : goal.returns
returns c = record { places = allow_same; versions = lead_same }
