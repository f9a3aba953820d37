use Rattle.std.proofs.Common.{sym, ap, ◌∙◌, ◌-◌, subst, slice_get, length}
use Rattle.forest.specs.Spots.{IsLink, child_count_of}
use Rattle.forest.proofs.SiblingLaws.{child-link}
use Rattle.node_arena.proofs.arena.Arena.last_child.Goals as goal

pub returns-clause-live : goal.returns-clause-live
returns-clause-live c =
    subst (IsLink c.args.self.now.tree) (sym (c.copied.ensures ∙ c.last.ensures.value ∙ ap (λ keys. slice_get keys (length keys - 1)) (c.as_slice.ensures.value ∙ c.entry.ensures.says.children)))
    (child-link c.args.self.now.tree c.args.key (child_count_of c.args.self.now.tree c.args.key - 1) c.entry.ensures.document.distinct c.requires)
