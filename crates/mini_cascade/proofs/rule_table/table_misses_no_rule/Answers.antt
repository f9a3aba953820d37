use Rattle.mini_cascade.proofs.CandidateLaws.{candidates_declare_all, matching_are_looked_at}
use Rattle.mini_cascade.proofs.rule_table.table_misses_no_rule.Goals as goal

pub returns : goal.returns
returns c = record { selectors = matching_are_looked_at; declarations = candidates_declare_all }
