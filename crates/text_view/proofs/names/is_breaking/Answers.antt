use Rattle.std.proofs.Common.{◌∙◌}
use Rattle.text_view.specs.Breaks.{breaking_names}
use Rattle.text_view.proofs.NameLaws.{breaking_by_bytes}
use Rattle.text_view.proofs.names.is_breaking.Goals as goal

pub returns : goal.returns
unfolding breaking_names
returns c = c.is_among.ensures ∙ breaking_by_bytes c.args.name.now c.utf8.name
