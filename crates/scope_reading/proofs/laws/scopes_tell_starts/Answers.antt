use Rattle.scope_reading.proofs.LawLemmas.{scopes_tell_events, scopes_tell_starts}
use Rattle.scope_reading.proofs.OwnSets.{own_sets_are_behind_children}
use Rattle.scope_reading.proofs.laws.scopes_tell_starts.Goals as goal

pub returns : goal.returns
returns c = record { events = scopes_tell_events; starts = scopes_tell_starts; own = own_sets_are_behind_children }
