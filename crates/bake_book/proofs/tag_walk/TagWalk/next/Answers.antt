use Rattle.std.proofs.Common.{◌∷◌, ◌++◌, ◌∙◌, ap, reverse, subst, sym}
use Rattle.std.specs.Prelude.{IfSome, IsSome}
use Rattle.bake_book.proofs.WalkLaws.{element_live, into_element, out_of_element, pushed}
use Rattle.bake_book.specs.Walks.{AreElements, begins, ends, tags_behind, tags_from, tree_tags}
use Rattle.forest.specs.Spots.{IsLink, on_link}
use Rattle.node_arena.specs.Nodes.{name_of}
use Rattle.bake_book.proofs.tag_walk.TagWalk.next.Goals as goal

pub returns-in-Some-clause-next : goal.returns-in-Some-clause-next
returns-in-Some-clause-next c =
    let f = c.args.arena.now.tree in
    let stack = reverse c.args.self.now.inside.items in
    let live = subst (IsLink f) c.in-Some.is c.first_element.ensures.link in
    let named = subst (λ o. IfSome o (λ key. IsSome (name_of f key))) c.in-Some.is c.first_element.ensures.element in
    ap (λ t. t ++ tags_behind f stack) (sym c.first_element.ensures.tags ∙ ap (λ o. tree_tags (on_link f o)) c.in-Some.is)
    ∙ into_element f c.arena_holds_document.ensures.document.distinct stack c.in-Some.key live named
    ∙ ap (λ o. begins c.in-Some.key ∷ tags_from f (c.in-Some.key ∷ stack) o) (sym c.first_child-self.ensures.link)
    ∙ ap (λ keys. begins c.in-Some.key ∷ tags_from f keys c.first_child-self.result) (sym (pushed _ _ c.in-Some.key c.in_ok-push.ensures.items))

pub returns-clause-next : goal.returns-clause-next
returns-clause-next c =
    let f = c.args.arena.now.tree in
    let stack = reverse c.pop.new.self.items in
    let opened = pushed _ _ c.in-Some-pop.key c.in-Some-pop.ensures.items in
    let live = element_live f c.in-Some-pop.key (subst (AreElements f) opened c.requires.walk.inside).0 in
    ap (λ t. t ++ tags_behind f (reverse c.args.self.now.inside.items)) (sym c.first_element.ensures.tags ∙ ap (λ o. tree_tags (on_link f o)) c.in_default.is)
    ∙ ap (λ keys. tags_behind f keys) opened
    ∙ out_of_element f c.arena_holds_document.ensures.document.distinct stack c.in-Some-pop.key live
    ∙ ap (λ o. ends c.in-Some-pop.key ∷ tags_from f stack o) (sym c.next_sibling-self.ensures.link)
