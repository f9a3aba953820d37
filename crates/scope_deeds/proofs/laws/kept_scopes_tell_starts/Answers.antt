use Rattle.scope_deeds.proofs.LawLemmas.{changes_are_kept, deeds_are_kept, kept_scopes_tell_starts, scopes_are_kept}
use Rattle.scope_deeds.proofs.laws.kept_scopes_tell_starts.Goals as goal

pub returns : goal.returns
returns c = record { deeds = deeds_are_kept; changes = changes_are_kept; scopes = scopes_are_kept; starts = kept_scopes_tell_starts }
