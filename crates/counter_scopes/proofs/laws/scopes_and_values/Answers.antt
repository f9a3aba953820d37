use Rattle.counter_scopes.proofs.LawLemmas.{changes_hold, creations_hold, scopes_hold, values_hold}
use Rattle.counter_scopes.proofs.laws.scopes_and_values.Goals as goal

pub returns : goal.returns
returns c = record { created = creations_hold; scopes = scopes_hold; changes = changes_hold; values = values_hold }
