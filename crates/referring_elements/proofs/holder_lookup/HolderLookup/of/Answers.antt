use Rattle.std.proofs.Common.{◌∙◌, subst, sym}
use Rattle.std.specs.Str.{chars}
use Rattle.forest.specs.Spots.{IsLink}
use Rattle.referring_elements.proofs.FirstHolderLemmas.{first-live}
use Rattle.referring_elements.proofs.holder_lookup.HolderLookup.of.Goals as goal

pub returns-in-Some-clause-live : goal.returns-in-Some-clause-live
returns-in-Some-clause-live c =
    let tree = c.args.self.now.arena.now.tree in
    let id = chars c.args.id.now in
    subst (IsLink tree) (c.args.self.now.first id c.in-Some.element (sym c.get.ensures.element ∙ c.in-Some.is)) (first-live tree c.arena_holds_document.ensures.document.distinct id)
