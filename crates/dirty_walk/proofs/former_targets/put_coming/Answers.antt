use Rattle.std.proofs.Common.{◌≡◌, ◌++◌, ◌∙◌, ap, subst, sym}
use Rattle.std.specs.Prelude.{OnOk}
use Rattle.forest.specs.Spots.{on_link}
use Rattle.node_arena.specs.Changes.{alone}
use Rattle.dirty_walk.specs.Exchanges.{elements_in}
use Rattle.dirty_walk.specs.Machinery.FormerLists.{coming_formers, formers_of}
use Rattle.dirty_walk.proofs.PathLemmas.{on-link-path}
use Rattle.dirty_walk.proofs.former_targets.put_coming.Goals as goal

pub returns-in_ok-moved-in-Move : goal.returns-in_ok-moved-in-Move
returns-in_ok-moved-in-Move c =
    let tree = c.args.lookup.now.arena.now.tree in
    let there : formers_of tree c.as_slice.result.now ≡ coming_formers tree c.args.edit.now = ap (formers_of tree) (c.as_slice.ensures.items ∙ c.in_ok-moved-in-Move.ensures.elements)
    ∙ ap (λ link. formers_of tree (elements_in (alone (on_link tree link)))) c.at.ensures.link
    ∙ ap (λ trees. formers_of tree (elements_in (alone trees))) (on-link-path tree c.in-Move.from c.arena_holds_document.ensures.document.distinct)
    ∙ ap (coming_formers tree) (sym c.in-Move.is) in
    record { ok = subst (λ all. OnOk c.put_elements.result (c.put_elements.new.former ≡ c.args.former.now ++ all)) there c.put_elements.ensures.ok }
