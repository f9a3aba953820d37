use Rattle.std.proofs.Common.{sym, ap, subst, ◌∙◌, arith}
use Rattle.forest.specs.Forest.{size}
use Rattle.forest.specs.Keys.{without_keys}
use Rattle.forest.specs.Spots.{IsLive, IsLink, on_link}
use Rattle.forest.proofs.SpotLaws.{on_first}
use Rattle.selector_match.specs.Elements.{are_nothing}
use Rattle.selector_match.proofs.EmptyLaws.{something, nothing, fewer}
use Rattle.selector_match.proofs.neighbours.is_empty.Goals as goal

pub children-init : goal.children-init
children-init c = record {
  link = c.first_child-child.ensures.live;
  nothing =
      ap (λ link. are_nothing (without_keys (on_link c.args.arena.now.tree link))) c.first_child-child.ensures.link
      ∙ ap (λ g. are_nothing (without_keys g)) (on_first c.args.arena.now.tree c.args.key c.arena_holds_document.ensures.document.distinct c.requires).0;
}

pub children-smaller : goal.children-smaller
children-smaller c =
    let tree = c.args.arena.now.tree in
    let live : IsLive tree c.in-Some.at = subst (IsLink tree) c.in-Some.is c.children.invariant.link in
    let less = fewer tree c.in-Some.at live c.arena_holds_document.ensures.document.distinct in
    let before = ap (λ link. size (on_link tree link)) c.in-Some.is in
    let after = ap (λ link. size (on_link tree link)) c.next_sibling-child.ensures.link in
    omega arith

pub children-preserved : goal.children-preserved
children-preserved c =
    let tree = c.args.arena.now.tree in
    let live : IsLive tree c.in-Some.at = subst (IsLink tree) c.in-Some.is c.children.invariant.link in
    record {
      link = c.next_sibling-child.ensures.live;
      nothing =
          ap (λ link. are_nothing (without_keys (on_link tree link))) c.next_sibling-child.ensures.link
          ∙ nothing tree c.in-Some.at live c.arena_holds_document.ensures.document.distinct (sym c.is_nothing.ensures ∙ c.if-not-is_nothing.false)
          ∙ sym (ap (λ link. are_nothing (without_keys (on_link tree link))) c.in-Some.is)
          ∙ c.children.invariant.nothing;
    }

pub returns-then-not-is_nothing : goal.returns-then-not-is_nothing
returns-then-not-is_nothing c =
    let tree = c.args.arena.now.tree in
    let live : IsLive tree c.in-Some.at = subst (IsLink tree) c.in-Some.is c.children.invariant.link in
    sym (sym c.children.invariant.nothing
    ∙ ap (λ link. are_nothing (without_keys (on_link tree link))) c.in-Some.is
    ∙ something tree c.in-Some.at live (sym c.is_nothing.ensures ∙ c.if-not-is_nothing.true))
