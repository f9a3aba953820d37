use Rattle.std.proofs.Common.{◌≡◌, sym, ap, ◌∙◌, subst, slice_get, arith}
use Rattle.std.proofs.lemmas.Grind.{common_steps}
use Rattle.std.proofs.lemmas.Option.{gets}
use Rattle.forest.specs.Spots.{IsLink}
use Rattle.forest.proofs.SiblingLaws.{child-link}
use Rattle.node_arena.proofs.arena.Arena.child.Goals as goal

pub returns-clause-live : goal.returns-clause-live
returns-clause-live c =
    let got : c.copied.result ≡ slice_get c.as_slice.result.now c.args.index = grind (arith, common_steps, gets) in
    subst (IsLink c.args.self.now.tree) (sym (got ∙ ap (λ keys. slice_get keys c.args.index) (c.as_slice.ensures.value ∙ c.entry.ensures.says.children)))
    (child-link c.args.self.now.tree c.args.key c.args.index c.entry.ensures.document.distinct c.requires)
