use Rattle.edit_inverses.proofs.VersionLaws.{newest_back, newest_places}
use Rattle.edit_inverses.proofs.laws.newest_lead_back.Goals as goal

pub returns : goal.returns
returns c = record { places = newest_places; versions = newest_back }
