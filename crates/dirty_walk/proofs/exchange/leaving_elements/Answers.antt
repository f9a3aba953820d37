use Rattle.std.proofs.Common.{◌≡◌, ◌∙◌, IfOk, ap, inl, inr, subst, sym}
use Rattle.forest.specs.Paths.{on_path}
use Rattle.forest.specs.Spots.{on_link}
use Rattle.node_arena.specs.Changes.{alone}
use Rattle.dirty_walk.specs.Exchanges.{elements_in, first_node, leaving}
use Rattle.dirty_walk.proofs.PathLemmas.{on-link-path}
use Rattle.dirty_walk.proofs.exchange.leaving_elements.Goals as goal

pub returns-in-Remove : goal.returns-in-Remove
returns-in-Remove c =
    let tree = c.args.arena.now.tree in
    let there : alone (on_link tree c.at.result) ≡ leaving c.args.edit.now tree = ap (λ link. alone (on_link tree link)) c.at.ensures.link
    ∙ ap alone (on-link-path tree c.in-Remove.path c.arena_holds_document.ensures.document.distinct)
    ∙ ap (λ edit. leaving edit tree) (sym c.in-Remove.is) in
    record { elements = subst (λ trees. IfOk c.tree_elements.result (λ elements. elements ≡ elements_in trees)) there c.tree_elements.ensures.elements }

pub returns-in-SetAttr : goal.returns-in-SetAttr
returns-in-SetAttr c =
    let tree = c.args.arena.now.tree in
    let node = first_node (on_path c.in-SetAttr.path tree) in
    let same : node ≡ leaving c.args.edit.now tree = elim c.in-SetAttr.is [
      | inl set ↦ ap (λ edit. leaving edit tree) (sym set.2)
      | inr unset ↦ ap (λ edit. leaving edit tree) (sym unset.1)
    ] in
    let there : first_node (on_link tree c.at-in-SetAttr.result) ≡ leaving c.args.edit.now tree = ap (λ link. first_node (on_link tree link)) c.at-in-SetAttr.ensures.link
    ∙ ap first_node (on-link-path tree c.in-SetAttr.path c.arena_holds_document.ensures.document.distinct)
    ∙ same in
    record { elements = subst (λ trees. IfOk c.element_at.result (λ elements. elements ≡ elements_in trees)) there c.element_at.ensures.elements }
