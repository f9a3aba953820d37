use Rattle.std.proofs.Common.{◌≡◌, ◌+◌, sym, ap, subst, ◌∙◌, slice_get, arith}
use Rattle.std.proofs.lemmas.Grind.{common_steps}
use Rattle.std.proofs.lemmas.Option.{gets}
use Rattle.forest.specs.Spots.{IsLink, index_of, previous_sibling_of}
use Rattle.forest.proofs.PathLaws.{parent-live}
use Rattle.forest.proofs.SiblingLaws.{previous-is-child, previous-none, previous-link, root-alone}
use Rattle.node_arena.proofs.EntryLaws.{one-tree}
use Rattle.node_arena.proofs.arena.Arena.previous_sibling.Goals as goal

pub returns-in_err-entry-clause-link : goal.returns-in_err-entry-clause-link
returns-in_err-entry-clause-link c =
    let document = c.entry-entry.ensures.document in
    c.from_residual.ensures
    ∙ sym (previous-none c.args.self.now.tree c.args.key (root-alone c.args.self.now.tree c.args.key document.distinct (one-tree c.args.self.now.tree document) c.requires (sym c.entry-entry.ensures.says.parent ∙ c.in_err-entry.was)).0)

pub entry-requires : goal.entry-requires
entry-requires c = parent-live c.args.self.now.tree c.args.key c.in_ok-entry.field-0 c.entry-entry.ensures.document.distinct c.requires (sym c.entry-entry.ensures.says.parent ∙ c.in_ok-entry.was)

-- the sibling that was found
found : (c : goal.After-copied) → c.copied.result ≡ previous_sibling_of c.args.self.now.tree c.args.key
found c =
    let before = c.in_ok-checked_sub.field-0 in
    let got : c.copied.result ≡ slice_get c.as_slice-siblings.result.now before = grind (arith, common_steps, gets) in
    let index : index_of c.args.self.now.tree c.args.key ≡ before + 1 = omega (arith, c.in_ok-checked_sub.ensures.0, c.in_ok-checked_sub.ensures.1, c.entry-entry.ensures.says.position) in
    got
    ∙ ap (λ keys. slice_get keys before) (c.as_slice-siblings.ensures.value ∙ c.entry.ensures.says.children)
    ∙ sym (previous-is-child c.args.self.now.tree c.args.key c.in_ok-entry.field-0 before c.entry-entry.ensures.document.distinct c.requires (sym c.entry-entry.ensures.says.parent ∙ c.in_ok-entry.was) index)

pub returns-clause-link : goal.returns-clause-link
returns-clause-link c = found c

pub returns-clause-live : goal.returns-clause-live
returns-clause-live c =
    subst (IsLink c.args.self.now.tree) (sym (found c))
    (previous-link c.args.self.now.tree c.args.key c.entry-entry.ensures.document.distinct (one-tree c.args.self.now.tree c.entry-entry.ensures.document) c.requires)
