use Rattle.scope_deeds.proofs.ReversedLemmas.{others_are_idle, reversed_scopes_tell_starts}
use Rattle.scope_deeds.proofs.laws.reversed_scopes_tell_starts.Goals as goal

pub returns : goal.returns
returns c = record { others = others_are_idle; starts = reversed_scopes_tell_starts }
