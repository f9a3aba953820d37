use Rattle.std.proofs.Common.{◌∙◌, subst, sym}
use Rattle.std.specs.Str.{chars}
use Rattle.forest.specs.Spots.{IsLink}
use Rattle.referring_elements.proofs.FirstHolderLemmas.{first-live}
use Rattle.referring_elements.proofs.first_holders.FirstHolders.of.Goals as goal

pub returns-clause-live : goal.returns-clause-live
returns-clause-live c =
    let tree = c.args.self.now.arena.now.tree in
    let id = chars c.args.id.now in
    subst (IsLink tree) (sym (c.get.ensures.element ∙ c.args.self.now.first id)) (first-live tree c.arena_holds_document.ensures.document.distinct id)
