use Rattle.std.proofs.Common.{◌≡◌, ◌<◌, ◌∙◌, Some, false, is_some, sym, ap, subst}
use Rattle.forest.specs.Forest.{size}
use Rattle.forest.specs.Spots.{IsLink, on_link}
use Rattle.node_arena.specs.Nodes.{name_of}
use Rattle.merged_walk.specs.Stops.{first_element}
use Rattle.edit_merge.specs.EditMerges.{is_element}
use Rattle.edit_merge.proofs.ApproachLaws.{element-later, fewer-later, name-found}
use Rattle.edit_merge.proofs.stops.first_element.Goals as goal

pub siblings-preserved : goal.siblings-preserved
siblings-preserved c =
    let tree = c.args.arena.now.tree in
    let live = subst (IsLink tree) c.in-Some.is c.siblings.invariant.live in
    let unnamed : is_some (name_of tree c.in-Some.key) ≡ false = name-found c.name.result (name_of tree c.in-Some.key) c.name.ensures.characters ∙ sym c.is_some.ensures ∙ c.if-is_some.false in
    record {
      live = c.next_sibling-at.ensures.live;
      same =
          c.siblings.invariant.same
          ∙ ap (λ link. first_element is_element (on_link tree link)) c.in-Some.is
          ∙ element-later tree c.arena_holds_document.ensures.document.distinct c.in-Some.key live unnamed
          ∙ ap (λ link. first_element is_element (on_link tree link)) (sym c.next_sibling-at.ensures.link);
    }

pub siblings-smaller : goal.siblings-smaller
siblings-smaller c =
    let tree = c.args.arena.now.tree in
    let live = subst (IsLink tree) c.in-Some.is c.siblings.invariant.live in
    subst (λ link. size (on_link tree c.next_sibling-at.result) < size (on_link tree link)) (sym c.in-Some.is)
    (subst (λ link. size (on_link tree link) < size (on_link tree (Some c.in-Some.key))) (sym c.next_sibling-at.ensures.link)
    (fewer-later tree c.arena_holds_document.ensures.document.distinct c.in-Some.key live))
