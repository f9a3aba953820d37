use Rattle.styled_merge.proofs.LawLemmas.{all_is_led, own_reaches_nothing, reached_keep_levels, reached_merge_has_forests}
use Rattle.styled_merge.proofs.laws.reached_trees_go_and_come.Goals as goal

pub returns : goal.returns
returns c = record { forests = reached_merge_has_forests; levels = reached_keep_levels; own = own_reaches_nothing; all = all_is_led }
