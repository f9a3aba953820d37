use Rattle.std.specs.Str.{chars}
use Rattle.referring_elements.proofs.HolderLemmas.{first_is}
use Rattle.referring_elements.proofs.holders.first_holder.Goals as goal

pub returns-clause-first : goal.returns-clause-first
returns-clause-first c =
    first_is c.args.arena.now.tree c.arena_holds_document.ensures.document.distinct c.args.index.now c.requires.index (chars c.args.id.now) c.first.result c.first.ensures.first c.first.ensures.none
