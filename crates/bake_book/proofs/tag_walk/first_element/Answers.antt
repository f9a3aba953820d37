use Rattle.std.proofs.Common.{◌∙◌, ap, arith, subst, sym}
use Rattle.bake_book.proofs.WalkLaws.{past_smaller, past_text, unnamed}
use Rattle.bake_book.specs.Walks.{tree_tags}
use Rattle.forest.specs.Forest.{size}
use Rattle.forest.specs.Spots.{IsLink, on_link}
use Rattle.bake_book.proofs.tag_walk.first_element.Goals as goal

pub loop-at-smaller : goal.loop-at-smaller
loop-at-smaller c =
    let f = c.args.arena.now.tree in
    let live = subst (IsLink f) c.in-Some.is c.loop-at.invariant.link in
    let less = past_smaller f c.arena_holds_document.ensures.document.distinct c.in-Some.key live in
    omega (arith, less, ap (λ o. size (on_link f o)) c.next_sibling-at.ensures.link, ap (λ o. size (on_link f o)) c.in-Some.is)

pub loop-at-preserved : goal.loop-at-preserved
loop-at-preserved c =
    let f = c.args.arena.now.tree in
    let live = subst (IsLink f) c.in-Some.is c.loop-at.invariant.link in
    let none = unnamed c.name.result _ (sym c.is_some.ensures ∙ c.if-is_some.false) c.name.ensures.characters in
    record {
      link = c.next_sibling-at.ensures.live;
      tags =
          ap (λ o. tree_tags (on_link f o)) c.next_sibling-at.ensures.link
          ∙ past_text f c.arena_holds_document.ensures.document.distinct c.in-Some.key live none
          ∙ ap (λ o. tree_tags (on_link f o)) (sym c.in-Some.is)
          ∙ c.loop-at.invariant.tags;
    }
