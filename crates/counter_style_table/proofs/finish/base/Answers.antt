use Rattle.std.proofs.Common.{sym, ap, ◌∙◌}
use Rattle.std.specs.List.{position}
use Rattle.plain_types.specs.StyleNames.{style_name}
use Rattle.counter_style_table.specs.Rules.{is_named}
use Rattle.counter_style_table.proofs.SettledLemmas.{base_named}
use Rattle.counter_style_table.proofs.finish.base.Goals as goal

pub returns-in-Some : goal.returns-in-Some
returns-in-Some c = record {
  base =
      c.find.ensures.place
      ∙ ap (λ name. position (is_named (style_name name)) c.args.rules.now) c.as_str.ensures.characters
      ∙ sym (base_named c.args.rules.now c.args.place c.rule.result.now c.in-Some.name.now c.rule.ensures.rule c.in-Some.ensures.name);
}
