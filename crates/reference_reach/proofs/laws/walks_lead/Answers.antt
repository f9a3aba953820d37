use Rattle.reference_reach.proofs.LawLemmas.{changes_are_told, changes_lead, unstarted_changes_are_told}
use Rattle.reference_reach.proofs.laws.walks_lead.Goals as goal

pub returns : goal.returns
returns c = record { leads = changes_lead; own = changes_are_told; unstarted = unstarted_changes_are_told }
