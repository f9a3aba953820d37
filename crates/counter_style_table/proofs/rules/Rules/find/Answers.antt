use Rattle.std.proofs.Common.{ap, ◌∙◌}
use Rattle.std.specs.List.{position}
use Rattle.std.specs.Str.{chars}
use Rattle.std.specs.String.{string_bytes}
use Rattle.std.proofs.lemmas.Str.{IsUtf8-string_bytes}
use Rattle.plain_types.specs.StyleNames.{style_name}
use Rattle.counter_style_table.specs.Rules.{is_named}
use Rattle.counter_style_table.proofs.RuleLemmas.{find_rule}
use Rattle.counter_style_table.proofs.rules.Rules.find.Goals as goal

pub returns : goal.returns
returns c = record {
  place =
      c.get_index_of.ensures.index
      ∙ find_rule string_bytes IsUtf8-string_bytes c.self.inside.by_name.entries (style_name (chars c.args.name.now)) c.style_name.result.now c.self.invariant c.style_name.utf8 c.style_name.ensures.name
      ∙ ap (position (is_named (style_name (chars c.args.name.now)))) c.self.view_is;
}
