use Rattle.std.proofs.Common.{sym, ap, subst, ◌∙◌, ◌≡◌, ◌<◌, ◌+◌, true, cond, count_by, length, arith}
use Rattle.std.proofs.lemmas.List.Sums.{count_by-le-length, sum_by-cons}
use Rattle.forest.specs.Forest.{size}
use Rattle.selector_match.specs.Elements.{Standing}
use Rattle.selector_match.specs.Machinery.Sides.{is_later}
use Rattle.selector_match.specs.Positions.{siblings, is_counted}
use Rattle.selector_match.proofs.StandingLaws.{siblings-few}
use Rattle.selector_match.proofs.element.Element.count_along.Goals as goal

pub overflow_add-count : goal.overflow_add-count
overflow_add-count c =
    let tree = c.self.inside.arena.now.tree in
    let document = c.arena_holds_document.ensures.document in
    let test = is_counted c.args.same_type c.args.self.now.level.element in
    let counts : test c.in-Some.sibling.level.element ≡ true = sym c.is_counted.ensures ∙ c.if-is_counted.true in
    let rest = siblings (is_later c.args.side) c.in-Some.sibling.level in
    let more : count_by test (siblings (is_later c.args.side) c.beside.at.level) ≡ 1 + count_by test rest =
    ap (count_by test) c.in-Some.ensures.onward
    ∙ sum_by-cons (λ sibling. cond (test sibling) 1 0) c.in-Some.sibling.level.element rest
    ∙ ap (λ b. cond b 1 0 + count_by test rest) counts in
    let few = count_by-le-length test (siblings (is_later c.args.side) c.args.self.now.level) in
    let all = subst (λ (s : Standing). length (siblings (is_later c.args.side) s.level) < size tree) c.self.view_is (siblings-few tree document (is_later c.args.side) c.self.inside.key c.self.invariant.0 c.self.invariant.1) in
    omega (arith, document.few, c.beside.invariant)
