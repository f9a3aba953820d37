use Rattle.std.proofs.Common.{◌≡◌, ◌++◌, ◌∷◌, [], ◌∙◌, IfOk, ap, inl, inr, subst, sym}
use Rattle.forest.specs.Paths.{on_path}
use Rattle.forest.specs.Spots.{on_link}
use Rattle.node_arena.specs.Changes.{alone}
use Rattle.dirty_walk.specs.Exchanges.{coming, elements_in, first_node}
use Rattle.dirty_walk.proofs.PathLemmas.{on-link-path}
use Rattle.dirty_walk.proofs.exchange.coming_elements.Goals as goal

pub returns-in-Insert : goal.returns-in-Insert
returns-in-Insert c =
    let tree = c.args.arena.now.tree in
    let there : alone (on_link tree c.child_at.result) ≡ coming c.args.edit.now tree = ap (λ link. alone (on_link tree link)) c.child_at.ensures.link
    ∙ ap alone (on-link-path tree (c.in-Insert.parent ++ c.in-Insert.index ∷ []) c.arena_holds_document.ensures.document.distinct)
    ∙ ap (λ edit. coming edit tree) (sym c.in-Insert.is) in
    record { elements = subst (λ trees. IfOk c.tree_elements.result (λ elements. elements ≡ elements_in trees)) there c.tree_elements.ensures.elements }

pub returns-in-SetAttr : goal.returns-in-SetAttr
returns-in-SetAttr c =
    let tree = c.args.arena.now.tree in
    let node = first_node (on_path c.in-SetAttr.path tree) in
    let same : node ≡ coming c.args.edit.now tree = elim c.in-SetAttr.is [
      | inl set ↦ ap (λ edit. coming edit tree) (sym set.2)
      | inr unset ↦ ap (λ edit. coming edit tree) (sym unset.1)
    ] in
    let there : first_node (on_link tree c.at.result) ≡ coming c.args.edit.now tree = ap (λ link. first_node (on_link tree link)) c.at.ensures.link
    ∙ ap first_node (on-link-path tree c.in-SetAttr.path c.arena_holds_document.ensures.document.distinct)
    ∙ same in
    record { elements = subst (λ trees. IfOk c.element_at.result (λ elements. elements ≡ elements_in trees)) there c.element_at.ensures.elements }
