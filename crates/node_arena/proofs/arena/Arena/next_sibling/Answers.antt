use Rattle.std.proofs.Common.{◌≡◌, ◌+◌, sym, ap, subst, ◌∙◌, slice_get, length, arith}
use Rattle.std.proofs.lemmas.Grind.{common_steps}
use Rattle.std.proofs.lemmas.Option.{gets}
use Rattle.forest.specs.Spots.{IsLink, child_of, next_sibling_of}
use Rattle.forest.proofs.SpotLaws.{on_next}
use Rattle.forest.proofs.PathLaws.{parent-live}
use Rattle.forest.proofs.SiblingLaws.{next-is-child, root-alone, index-within}
use Rattle.node_arena.proofs.EntryLaws.{one-tree}
use Rattle.node_arena.proofs.arena.Arena.next_sibling.Goals as goal

pub returns-in_err-entry-clause-link : goal.returns-in_err-entry-clause-link
returns-in_err-entry-clause-link c =
    let document = c.entry-entry.ensures.document in
    c.from_residual.ensures
    ∙ sym (root-alone c.args.self.now.tree c.args.key document.distinct (one-tree c.args.self.now.tree document) c.requires (sym c.entry-entry.ensures.says.parent ∙ c.in_err-entry.was)).1

pub entry-requires : goal.entry-requires
entry-requires c = parent-live c.args.self.now.tree c.args.key c.in_ok-entry.field-0 c.entry-entry.ensures.document.distinct c.requires (sym c.entry-entry.ensures.says.parent ∙ c.in_ok-entry.was)

pub overflow_add-entry : goal.overflow_add-entry
overflow_add-entry c =
    let h = index-within c.args.self.now.tree c.args.key c.in_ok-entry.field-0 c.entry-entry.ensures.document.distinct c.requires (sym c.entry-entry.ensures.says.parent ∙ c.in_ok-entry.was) in
    let e = ap length (c.as_slice-siblings.ensures.value ∙ c.entry.ensures.says.children) in
    let i = c.entry-entry.ensures.says.position in
    omega arith

-- the sibling that was found
found : (c : goal.After-copied) → c.copied.result ≡ next_sibling_of c.args.self.now.tree c.args.key
found c =
    let next = c.entry-entry.result.now.position + 1 in
    let got : c.copied.result ≡ slice_get c.as_slice-siblings.result.now next = grind (arith, common_steps, gets) in
    got
    ∙ ap (λ keys. slice_get keys next) (c.as_slice-siblings.ensures.value ∙ c.entry.ensures.says.children)
    ∙ ap (λ index. child_of c.args.self.now.tree c.in_ok-entry.field-0 (index + 1)) c.entry-entry.ensures.says.position
    ∙ sym (next-is-child c.args.self.now.tree c.args.key c.in_ok-entry.field-0 c.entry-entry.ensures.document.distinct c.requires (sym c.entry-entry.ensures.says.parent ∙ c.in_ok-entry.was))

pub returns-clause-link : goal.returns-clause-link
returns-clause-link c = found c

pub returns-clause-live : goal.returns-clause-live
returns-clause-live c = subst (IsLink c.args.self.now.tree) (sym (found c)) (on_next c.args.self.now.tree c.args.key c.entry-entry.ensures.document.distinct c.requires).1
