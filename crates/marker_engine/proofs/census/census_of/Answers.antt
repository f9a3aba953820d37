use Rattle.std.proofs.Common.{◌≡◌, ◌∙◌, ◌+◌, ap, arith, option_copied, subst, sym}
use Rattle.dirty_walk.specs.Books.{fresh_entry}
use Rattle.forest.specs.Forest.{Forest}
use Rattle.forest.specs.Keys.{HasDistinctKeys, Keyed}
use Rattle.forest.specs.Order.{next_in_order_of}
use Rattle.plain_types.specs.declared.node.Node.{Node}
use Rattle.document_walk.specs.Elements.{one_where}
use Rattle.marker_engine.specs.Census.{saturated}
use Rattle.marker_engine.proofs.Counting.{element_weight, same_numbers, some_copied, total_before}
use Rattle.marker_engine.proofs.Counts.{elements-end, ends, turn}
use Rattle.marker_engine.proofs.census.census_of.Goals as goal

same_distinct : {f h : Forest (Keyed Node)} → f ≡ h → HasDistinctKeys f → HasDistinctKeys h
same_distinct {f} {h} e d = subst HasDistinctKeys e d

pub loop-link-smaller : goal.loop-link-smaller
loop-link-smaller g c =
    (turn c.args.book.now.tree (same_distinct c.arena-arena.ensures.tree c.root.ensures.document.distinct) (fresh_entry c.args.book.now)
    c.in-Some.key c.loop-link.link c.next_in_order-link.result c.loop-link.census c.with_node-census.result (option_copied c.find_entry.result) c.in-Some.is c.loop-link.invariant.link_is
    c.loop-link.invariant.census (some_copied c.find_entry.result ∙ c.find_entry.ensures.element) c.find_entry.ensures.entry
    (same_numbers _ _ (c.with_node-census.ensures.elements ∙ ap (λ b. saturated (c.loop-link.census.elements + one_where b)) (sym (some_copied c.find_entry.result))) c.with_node-census.ensures.boxes c.with_node-census.ensures.lines)
    (c.next_in_order-link.ensures.link ∙ ap (λ (t : Forest (Keyed Node)). next_in_order_of t c.in-Some.key) c.arena-arena.ensures.tree)).1.0

pub loop-link-preserved : goal.loop-link-preserved
loop-link-preserved g c =
    let next =
    turn c.args.book.now.tree (same_distinct c.arena-arena.ensures.tree c.root.ensures.document.distinct) (fresh_entry c.args.book.now)
    c.in-Some.key c.loop-link.link c.next_in_order-link.result c.loop-link.census c.with_node-census.result (option_copied c.find_entry.result) c.in-Some.is c.loop-link.invariant.link_is
    c.loop-link.invariant.census (some_copied c.find_entry.result ∙ c.find_entry.ensures.element) c.find_entry.ensures.entry
    (same_numbers _ _ (c.with_node-census.ensures.elements ∙ ap (λ b. saturated (c.loop-link.census.elements + one_where b)) (sym (some_copied c.find_entry.result))) c.with_node-census.ensures.boxes c.with_node-census.ensures.lines)
    (c.next_in_order-link.ensures.link ∙ ap (λ (t : Forest (Keyed Node)). next_in_order_of t c.in-Some.key) c.arena-arena.ensures.tree) in
    let more = next.1.1 in
    record {
      link_is = rw (← c.arena-arena.ensures.tree) c.next_in_order-link.ensures.live;
      census = next.0;
      spent = omega (arith, more, c.loop-link.invariant.spent, c.find_entry.ensures.steps);
    }

pub returns-clause-elements : goal.returns-clause-elements
returns-clause-elements g c =
    (ends c.args.book.now.tree (same_distinct c.arena-arena.ensures.tree c.root.ensures.document.distinct) (fresh_entry c.args.book.now)
    c.loop-link.link c.loop-link.census c.in_default.is c.loop-link.invariant.census).0

pub returns-clause-boxes : goal.returns-clause-boxes
returns-clause-boxes g c =
    (ends c.args.book.now.tree (same_distinct c.arena-arena.ensures.tree c.root.ensures.document.distinct) (fresh_entry c.args.book.now)
    c.loop-link.link c.loop-link.census c.in_default.is c.loop-link.invariant.census).1.0

pub returns-clause-lines : goal.returns-clause-lines
returns-clause-lines g c =
    (ends c.args.book.now.tree (same_distinct c.arena-arena.ensures.tree c.root.ensures.document.distinct) (fresh_entry c.args.book.now)
    c.loop-link.link c.loop-link.census c.in_default.is c.loop-link.invariant.census).1.1

pub returns-clause-steps : goal.returns-clause-steps
returns-clause-steps g c =
    let all = elements-end c.args.book.now.tree (same_distinct c.arena-arena.ensures.tree c.root.ensures.document.distinct) in
    let at = ap (λ l. total_before c.args.book.now.tree (element_weight c.args.book.now.tree) l) c.in_default.is in
    omega (arith, all, at, c.loop-link.invariant.spent)
