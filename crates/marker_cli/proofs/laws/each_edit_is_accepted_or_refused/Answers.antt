use Rattle.marker_cli.proofs.GeneratedLemmas.{all_counted}
use Rattle.marker_cli.proofs.laws.each_edit_is_accepted_or_refused.Goals as goal

pub returns : goal.returns
returns c = λ seed count. all_counted seed count
