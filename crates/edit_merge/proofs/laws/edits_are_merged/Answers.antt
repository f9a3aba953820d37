use Rattle.edit_merge.proofs.EditLaws.{edits_have_leaves, edits_lead, edits_merge, edits_stop}
use Rattle.edit_merge.proofs.laws.edits_are_merged.Goals as goal

pub returns : goal.returns
returns c = record { merges = edits_merge; stops = edits_stop; leaves = edits_have_leaves; lead = edits_lead }
