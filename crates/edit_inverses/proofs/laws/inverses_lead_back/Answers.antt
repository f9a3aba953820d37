use Rattle.edit_inverses.proofs.VersionLaws.{lead_back, stay_allowed}
use Rattle.edit_inverses.proofs.laws.inverses_lead_back.Goals as goal

pub returns : goal.returns
returns c = record { places = stay_allowed; versions = lead_back }
