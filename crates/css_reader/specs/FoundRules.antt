-- The rules that are cut out of tokens, as the grammar has them.
use Rattle.css_reader.specs.Rules.{Rule, style_rule, at_rule}
use Rattle.css_reader.specs.declared.rules.FoundRule.{FoundRule}
use Rattle.css_reader.specs.declared.rules.FoundRule.TheVariants as found

abbrev pub rule_found : FoundRule → Rule
rule_found (found.Style prelude block) = style_rule prelude.now block.now
rule_found (found.At name prelude block) = at_rule name.now prelude.now block.now
