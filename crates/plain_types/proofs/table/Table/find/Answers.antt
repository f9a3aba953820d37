use Rattle.std.proofs.Common.{ap, ◌∙◌}
use Rattle.std.specs.Str.{chars}
use Rattle.std.specs.String.{string_bytes}
use Rattle.std.proofs.lemmas.Str.{IsUtf8-string_bytes}
use Rattle.plain_types.specs.StyleNames.{style_name}
use Rattle.plain_types.specs.Table.{place_named}
use Rattle.plain_types.proofs.NameLemmas.{find_style}
use Rattle.plain_types.proofs.table.Table.find.Goals as goal

pub returns-clause-place : goal.returns-clause-place
returns-clause-place c =
    c.get_index_of.ensures.index
    ∙ find_style string_bytes IsUtf8-string_bytes c.self.inside.names.keys c.self.inside.styles (style_name (chars c.args.name.now)) c.style_name.result.now c.self.invariant.1 c.style_name.utf8 c.style_name.ensures.name
    ∙ ap (λ styles. place_named styles (chars c.args.name.now)) c.self.view_is
