use Rattle.std.specs.Str.{chars}
use Rattle.marker_cli.proofs.ReadLemmas.{fetched_size, on_ok, raised_as}
use Rattle.marker_cli.proofs.fetch_text.fetch_text.Goals as goal

pub returns-in-Ok-clause-came : goal.returns-in-Ok-clause-came
returns-in-Ok-clause-came g c files told =
    on_ok c.text_of.result (raised_as (fetched_size _ files (chars c.args.name.now) _ (g.S.Shelf.honest c.args.shelf.now) told c.in-Ok.ensures.told) c.in-Ok.ensures.came)
