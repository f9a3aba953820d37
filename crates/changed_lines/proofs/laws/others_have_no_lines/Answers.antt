use Rattle.changed_lines.proofs.SameLemmas.{lines_of_others}
use Rattle.changed_lines.proofs.laws.others_have_no_lines.Goals as goal

pub returns : goal.returns
returns c = record { others = lines_of_others }
