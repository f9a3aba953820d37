use Rattle.std.proofs.Common.{length}
use Rattle.css_reader.specs.Rules.{rule_at}
use Rattle.css_reader.specs.Sheets.{style_rule_of, style_def_of}
use Rattle.css_reader.proofs.Gathering.{Gathers}
use Rattle.css_reader.proofs.sheet.push_rules.Given as goal

abbrev pub invariant-rules : goal.invariant-rules
invariant-rules l = record {
  rules : Gathers rule_at (style_rule_of l.text) l.initial.sheet.rules l.tokens l.sheet.rules l.rest;
  styles : Gathers rule_at style_def_of l.initial.sheet.styles l.tokens l.sheet.styles l.rest;
}

abbrev pub decreases-rules : goal.decreases-rules
decreases-rules l = length l.rest
