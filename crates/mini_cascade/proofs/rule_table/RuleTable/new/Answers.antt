use Rattle.std.proofs.Common.{List, subst}
use Rattle.plain_types.specs.declared.sheet.StyleRule.{StyleRule}
use Rattle.mini_cascade.specs.Machinery.Shelves.{AreFiled}
use Rattle.mini_cascade.proofs.rule_table.RuleTable.new.Goals as goal

pub invariant_of-result : goal.invariant_of-result
invariant_of-result c = subst (λ (rules : List StyleRule). AreFiled rules c.in_ok-shelves.shelves) c.as_slice.ensures.items c.in_ok-shelves.ensures.filed
