use Rattle.std.proofs.Common.{ap, ◌∙◌}
use Rattle.std.specs.Str.{chars}
use Rattle.std.specs.String.{string_bytes}
use Rattle.std.proofs.lemmas.Str.{IsUtf8-string_bytes}
use Rattle.plain_types.specs.StyleNames.{style_name}
use Rattle.counter_style_table.specs.Rules.{with_rule}
use Rattle.counter_style_table.proofs.RuleLemmas.{put_rule}
use Rattle.counter_style_table.proofs.rules.Rules.put.Goals as goal

pub invariant_of-self-2 : goal.invariant_of-self-2
invariant_of-self-2 c =
    rw c.in_ok-insert.ensures.entries
    (put_rule string_bytes IsUtf8-string_bytes c.self.inside.by_name.entries c.in_ok-name.name c.args.rule c.self.invariant
    (ap chars c.in_ok-name.ensures.ok ∙ c.style_name.ensures.name ∙ ap style_name c.as_str.ensures.characters)).1

pub returns-clause-ok : goal.returns-clause-ok
returns-clause-ok c =
    rw c.in_ok-insert.ensures.entries
    (put_rule string_bytes IsUtf8-string_bytes c.self.inside.by_name.entries c.in_ok-name.name c.args.rule c.self.invariant
    (ap chars c.in_ok-name.ensures.ok ∙ c.style_name.ensures.name ∙ ap style_name c.as_str.ensures.characters)).0
    ∙ ap (λ rules. with_rule rules c.args.rule) c.self.view_is
