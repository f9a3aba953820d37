use Rattle.std.proofs.Common.{sym, ap, ◌∙◌, subst, slice_get}
use Rattle.forest.specs.Spots.{IsLink}
use Rattle.forest.proofs.SiblingLaws.{child-link}
use Rattle.node_arena.proofs.arena.Arena.first_child.Goals as goal

pub returns-clause-live : goal.returns-clause-live
returns-clause-live c =
    subst (IsLink c.args.self.now.tree) (sym (c.copied.ensures ∙ c.first.ensures.value ∙ ap (λ keys. slice_get keys 0) (c.as_slice.ensures.value ∙ c.entry.ensures.says.children)))
    (child-link c.args.self.now.tree c.args.key 0 c.entry.ensures.document.distinct c.requires)
