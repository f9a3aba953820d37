use Rattle.edit_inverses.proofs.VersionLaws.{prefix_places, prefix_versions}
use Rattle.edit_inverses.proofs.laws.prefixes_lead_to_prefixes.Goals as goal

pub returns : goal.returns
returns c = record { places = prefix_places; versions = prefix_versions }
