use Rattle.std.proofs.Common.{◌≡◌, ℕ, Option, ap, subst, arith}
use Rattle.dump_definitions.specs.Dump.{dump}
use Rattle.forest.specs.Forest.{Forest}
use Rattle.forest.specs.Keys.{Keyed, without_keys}
use Rattle.forest.specs.Spots.{IsLive}
use Rattle.generated_texts.specs.declared.entry.NodeEntry.{NodeEntry}
use Rattle.generated_texts.specs.Lines.{tree_lines}
use Rattle.plain_types.specs.declared.node.Node.{Node}
use Rattle.dirty_walk.specs.Books.{fresh_entry}
use Rattle.ports.proofs.GrownLemmas.{front_same, front_whole, on_err}
use Rattle.document_walk.specs.Elements.{element_count}
use Rattle.marker_engine.proofs.Counting.{element_weight}
use Rattle.marker_engine.proofs.Turns.{begins, elements_at_root, leave_live, leave_stops, leave_turn, reach_left, reach_stops, reach_turn}
use Rattle.marker_engine.proofs.lines.put_lines.Goals as goal

-- the arena's document is the book's
module _ {f h : Forest (Keyed Node)} (same : f ≡ h) where
  same_lines : (entry_of : ℕ → Option NodeEntry) → dump (tree_lines f entry_of f) ≡ dump (tree_lines h entry_of h)
  same_lines entry_of = ap (λ (t : Forest (Keyed Node)). dump (tree_lines t entry_of t)) same

  same_count : element_count (without_keys f) ≡ element_count (without_keys h)
  same_count = ap (λ (t : Forest (Keyed Node)). element_count (without_keys t)) same

  same_weight : (key : ℕ) → element_weight f key ≡ element_weight h key
  same_weight key = ap (λ (t : Forest (Keyed Node)). element_weight t key) same

pub walk-init : goal.walk-init
walk-init g c = record {
  walks = rw c.new-inside.ensures.items (begins c.arena-arena.result.now.tree (fresh_entry c.args.book.now) c.root.ensures.document.distinct (g.O.Sink.out c.args.out.now) c.root.result c.root.ensures.root);
  later = omega arith;
  spent =
      rw c.new-inside.ensures.items
      (let all = elements_at_root c.arena-arena.result.now.tree (fresh_entry c.args.book.now) c.root.ensures.document.distinct c.root.result c.root.ensures.root in omega (arith, all));
}

-- a node is reached

pub find_entry-entry-requires-clause-live : goal.find_entry-entry-requires-clause-live
find_entry-entry-requires-clause-live g c =
    subst (λ (t : Forest (Keyed Node)). IsLive t c.in-Some.key) c.arena-arena.ensures.tree
    (rw c.in-Some.is at c.walk.invariant.walks.link_is)

pub returns-in_err-put_first-in-Some-clause-failed : goal.returns-in_err-put_first-in-Some-clause-failed
returns-in_err-put_first-in-Some-clause-failed g c =
    on_err _ (front_same (same_lines c.arena-arena.ensures.tree (fresh_entry c.args.book.now))
    (reach_stops c.arena-arena.result.now.tree (fresh_entry c.args.book.now) c.root.ensures.document.distinct
    (g.O.Sink.out c.args.out.now) (g.O.Sink.out c.walk.out) (g.O.Sink.out c.put_first.new.out) c.walk.inside.items c.walk.inside.items c.walk.link c.walk.link
    (record { key = c.in-Some.key; entry = c.find_entry-entry.result })
    c.walk.invariant.walks c.in-Some.is c.find_entry-entry.ensures.entry c.in_err-put_first-in-Some.ensures.failed))

pub returns-in_err-push-in-Some-clause-failed : goal.returns-in_err-push-in-Some-clause-failed
returns-in_err-push-in-Some-clause-failed g c =
    on_err _ (front_same (same_lines c.arena-arena.ensures.tree (fresh_entry c.args.book.now))
    (reach_stops c.arena-arena.result.now.tree (fresh_entry c.args.book.now) c.root.ensures.document.distinct
    (g.O.Sink.out c.args.out.now) (g.O.Sink.out c.walk.out) (g.O.Sink.out c.put_first.new.out) c.walk.inside.items c.walk.inside.items c.walk.link c.walk.link
    (record { key = c.in-Some.key; entry = c.find_entry-entry.result })
    c.walk.invariant.walks c.in-Some.is c.find_entry-entry.ensures.entry (front_whole _ _ _ c.in_ok-put_first-in-Some.ensures.ok)))

pub returns-in_err-put_first-in-Some-clause-steps : goal.returns-in_err-put_first-in-Some-clause-steps
returns-in_err-put_first-in-Some-clause-steps g c =
    let left =
    reach_left c.arena-arena.result.now.tree (fresh_entry c.args.book.now) c.root.ensures.document.distinct
    (g.O.Sink.out c.args.out.now) (g.O.Sink.out c.walk.out) c.walk.inside.items c.walk.link (record { key = c.in-Some.key; entry = c.find_entry-entry.result })
    c.walk.invariant.walks c.in-Some.is in
    let weight = same_weight c.arena-arena.ensures.tree c.in-Some.key in
    let count = same_count c.arena-arena.ensures.tree in
    omega (arith, left, weight, count, c.walk.invariant.spent, c.find_entry-entry.ensures.steps)

pub returns-in_err-push-in-Some-clause-steps : goal.returns-in_err-push-in-Some-clause-steps
returns-in_err-push-in-Some-clause-steps g c =
    let left =
    reach_left c.arena-arena.result.now.tree (fresh_entry c.args.book.now) c.root.ensures.document.distinct
    (g.O.Sink.out c.args.out.now) (g.O.Sink.out c.walk.out) c.walk.inside.items c.walk.link (record { key = c.in-Some.key; entry = c.find_entry-entry.result })
    c.walk.invariant.walks c.in-Some.is in
    let weight = same_weight c.arena-arena.ensures.tree c.in-Some.key in
    let count = same_count c.arena-arena.ensures.tree in
    omega (arith, left, weight, count, c.walk.invariant.spent, c.find_entry-entry.ensures.steps)

pub walk-smaller-in-Some : goal.walk-smaller-in-Some
walk-smaller-in-Some g c =
    (reach_turn c.arena-arena.result.now.tree (fresh_entry c.args.book.now) c.root.ensures.document.distinct
    (g.O.Sink.out c.args.out.now) (g.O.Sink.out c.walk.out) (g.O.Sink.out c.put_first.new.out) c.walk.inside.items c.push.new.self.items c.walk.link c.first_child-link.result
    (record { key = c.in-Some.key; entry = c.find_entry-entry.result })
    c.walk.invariant.walks c.in-Some.is c.find_entry-entry.ensures.entry c.in_ok-put_first-in-Some.ensures.ok c.in_ok-push-in-Some.ensures.items c.first_child-link.ensures.link).1.0

pub walk-preserved-in-Some : goal.walk-preserved-in-Some
walk-preserved-in-Some g c =
    let turn =
    reach_turn c.arena-arena.result.now.tree (fresh_entry c.args.book.now) c.root.ensures.document.distinct
    (g.O.Sink.out c.args.out.now) (g.O.Sink.out c.walk.out) (g.O.Sink.out c.put_first.new.out) c.walk.inside.items c.push.new.self.items c.walk.link c.first_child-link.result
    (record { key = c.in-Some.key; entry = c.find_entry-entry.result })
    c.walk.invariant.walks c.in-Some.is c.find_entry-entry.ensures.entry c.in_ok-put_first-in-Some.ensures.ok c.in_ok-push-in-Some.ensures.items c.first_child-link.ensures.link in
    let left = turn.1.1 in
    let weight = same_weight c.arena-arena.ensures.tree c.in-Some.key in
    record {
      walks = turn.0;
      later = omega (arith, c.walk.invariant.later, c.put_first.ensures.cause.later);
      spent = omega (arith, left, weight, c.walk.invariant.spent, c.find_entry-entry.ensures.steps);
    }

-- a node is left

pub put_last-requires : goal.put_last-requires
put_last-requires g c = record {
  live =
      leave_live c.arena-arena.result.now.tree (fresh_entry c.args.book.now) c.root.ensures.document.distinct
      (g.O.Sink.out c.args.out.now) (g.O.Sink.out c.walk.out) (g.O.Sink.out c.walk.out) c.walk.inside.items c.pop.new.self.items c.walk.link c.walk.link c.in-Some-pop.node
      c.walk.invariant.walks c.in-Some-pop.ensures.items;
}

pub returns-in_err-put_last-in-Some-pop-clause-failed : goal.returns-in_err-put_last-in-Some-pop-clause-failed
returns-in_err-put_last-in-Some-pop-clause-failed g c =
    on_err _ (front_same (same_lines c.arena-arena.ensures.tree (fresh_entry c.args.book.now))
    (leave_stops c.arena-arena.result.now.tree (fresh_entry c.args.book.now) c.root.ensures.document.distinct
    (g.O.Sink.out c.args.out.now) (g.O.Sink.out c.walk.out) (g.O.Sink.out c.put_last.new.out) c.walk.inside.items c.pop.new.self.items c.walk.link c.walk.link c.in-Some-pop.node
    c.walk.invariant.walks c.in-None.is c.in-Some-pop.ensures.items c.in_err-put_last-in-Some-pop.ensures.failed))

pub next_sibling-link-requires : goal.next_sibling-link-requires
next_sibling-link-requires g c =
    leave_live c.arena-arena.result.now.tree (fresh_entry c.args.book.now) c.root.ensures.document.distinct
    (g.O.Sink.out c.args.out.now) (g.O.Sink.out c.walk.out) (g.O.Sink.out c.walk.out) c.walk.inside.items c.pop.new.self.items c.walk.link c.walk.link c.in-Some-pop.node
    c.walk.invariant.walks c.in-Some-pop.ensures.items

pub walk-smaller : goal.walk-smaller
walk-smaller g c =
    (leave_turn c.arena-arena.result.now.tree (fresh_entry c.args.book.now) c.root.ensures.document.distinct
    (g.O.Sink.out c.args.out.now) (g.O.Sink.out c.walk.out) (g.O.Sink.out c.put_last.new.out) c.walk.inside.items c.pop.new.self.items c.walk.link c.next_sibling-link.result c.in-Some-pop.node
    c.walk.invariant.walks c.in-None.is c.in_ok-put_last-in-Some-pop.ensures.ok c.in-Some-pop.ensures.items c.next_sibling-link.ensures.link).1.0

pub walk-preserved : goal.walk-preserved
walk-preserved g c =
    let turn =
    leave_turn c.arena-arena.result.now.tree (fresh_entry c.args.book.now) c.root.ensures.document.distinct
    (g.O.Sink.out c.args.out.now) (g.O.Sink.out c.walk.out) (g.O.Sink.out c.put_last.new.out) c.walk.inside.items c.pop.new.self.items c.walk.link c.next_sibling-link.result c.in-Some-pop.node
    c.walk.invariant.walks c.in-None.is c.in_ok-put_last-in-Some-pop.ensures.ok c.in-Some-pop.ensures.items c.next_sibling-link.ensures.link in
    let left = turn.1.1 in
    record {
      walks = turn.0;
      later = omega (arith, c.walk.invariant.later, c.put_last.ensures.cause.later);
      spent = omega (arith, left, c.walk.invariant.spent);
    }
