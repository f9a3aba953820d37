use Rattle.std.proofs.Common.{[], Some, ap, reverse, subst, sym, ◌∙◌, arith}
use Rattle.std.proofs.lemmas.List.{nil_from_length}
use Rattle.dirty_walk.specs.Books.{fresh_entry}
use Rattle.forest.specs.Forest.{Forest}
use Rattle.forest.specs.Keys.{HasDistinctKeys, Keyed}
use Rattle.forest.specs.Spots.{first_child_of, first_key, label_of, next_sibling_of}
use Rattle.plain_types.specs.declared.node.Node.{Node}
use Rattle.ports.proofs.GrownLemmas.{front_whole, on_err}
use Rattle.text_view.specs.Machinery.Walking.{IsEnteredAt}
use Rattle.text_view.specs.declared.line_state.LineState.{LineState}
use Rattle.text_view.proofs.WalkLaws.{Walks, begins, elements_at_root, ends, ends_early, enter_stops, into_turn, leave_stops, leave_turn, past_turn, reach_left}
use Rattle.text_view.proofs.view.put_view.Goals as goal

pub walk-init : goal.walk-init
walk-init g c =
    let root = c.root.ensures.root ∙ ap (λ (t : Forest (Keyed Node)). first_key t) c.arena-arena.ensures.tree in
    record {
      walks = rw c.new-inside.ensures.items (subst (λ (s : LineState). Walks c.args.book.now.tree (fresh_entry c.args.book.now) [] (Some c.root.result) s (g.O.Sink.out c.args.out.now) (g.O.Sink.out c.args.out.now)) (sym c.new-writer.ensures.start) (begins c.args.book.now.tree (fresh_entry c.args.book.now) (subst HasDistinctKeys c.arena-arena.ensures.tree c.root.ensures.document.distinct) (g.O.Sink.out c.args.out.now) c.root.result root));
      later = omega arith;
      spent = rw c.new-inside.ensures.items (let all = elements_at_root c.args.book.now.tree (fresh_entry c.args.book.now) (subst HasDistinctKeys c.arena-arena.ensures.tree c.root.ensures.document.distinct) c.root.result root in omega (arith, all));
    }

-- a node is reached

pub returns-in_err-reached-in-Some-clause-failed : goal.returns-in_err-reached-in-Some-clause-failed
returns-in_err-reached-in-Some-clause-failed g c =
    on_err _ (enter_stops c.args.book.now.tree (fresh_entry c.args.book.now) (subst HasDistinctKeys c.arena-arena.ensures.tree c.root.ensures.document.distinct)
    (g.O.Sink.out c.args.out.now) (g.O.Sink.out c.walk.out) (g.O.Sink.out c.enter.new.out) c.walk.inside.items c.walk.inside.items c.walk.link c.walk.link c.walk.writer c.walk.writer
    c.in-Some.key c.walk.invariant.walks c.in-Some.is c.in_err-reached-in-Some.ensures.failed)

pub returns-in_err-reached-in-Some-clause-steps : goal.returns-in_err-reached-in-Some-clause-steps
returns-in_err-reached-in-Some-clause-steps g c =
    let left = reach_left c.args.book.now.tree (fresh_entry c.args.book.now) (subst HasDistinctKeys c.arena-arena.ensures.tree c.root.ensures.document.distinct)
    (g.O.Sink.out c.args.out.now) (g.O.Sink.out c.walk.out) (g.O.Sink.out c.enter.new.out) c.walk.inside.items c.walk.inside.items c.walk.link c.walk.link c.walk.writer c.walk.writer c.in-Some.key c.walk.invariant.walks c.in-Some.is in
    omega (arith, left, c.walk.invariant.spent, c.enter.ensures.steps)

pub returns-in_err-push-in-Some-reached-clause-failed : goal.returns-in_err-push-in-Some-reached-clause-failed
returns-in_err-push-in-Some-reached-clause-failed g c =
    on_err _ (enter_stops c.args.book.now.tree (fresh_entry c.args.book.now) (subst HasDistinctKeys c.arena-arena.ensures.tree c.root.ensures.document.distinct)
    (g.O.Sink.out c.args.out.now) (g.O.Sink.out c.walk.out) (g.O.Sink.out c.enter.new.out) c.walk.inside.items c.walk.inside.items c.walk.link c.walk.link c.walk.writer c.walk.writer
    c.in-Some.key c.walk.invariant.walks c.in-Some.is (front_whole _ _ _ c.in_ok-reached-in-Some.ensures.ok))

pub returns-in_err-push-in-Some-reached-clause-steps : goal.returns-in_err-push-in-Some-reached-clause-steps
returns-in_err-push-in-Some-reached-clause-steps g c =
    let left = reach_left c.args.book.now.tree (fresh_entry c.args.book.now) (subst HasDistinctKeys c.arena-arena.ensures.tree c.root.ensures.document.distinct)
    (g.O.Sink.out c.args.out.now) (g.O.Sink.out c.walk.out) (g.O.Sink.out c.enter.new.out) c.walk.inside.items c.walk.inside.items c.walk.link c.walk.link c.walk.writer c.walk.writer c.in-Some.key c.walk.invariant.walks c.in-Some.is in
    omega (arith, left, c.walk.invariant.spent, c.enter.ensures.steps)

pub walk-smaller-in-Some-reached : goal.walk-smaller-in-Some-reached
walk-smaller-in-Some-reached g c = (into_turn c.args.book.now.tree (fresh_entry c.args.book.now) (subst HasDistinctKeys c.arena-arena.ensures.tree c.root.ensures.document.distinct)
    (g.O.Sink.out c.args.out.now) (g.O.Sink.out c.walk.out) (g.O.Sink.out c.enter.new.out) c.walk.inside.items c.push.new.self.items c.walk.link c.first_child-link.result c.walk.writer c.enter.new.writer
    c.in-Some-reached.element c.in-Some.key c.walk.invariant.walks c.in-Some.is (subst (IsEnteredAt (fresh_entry c.args.book.now c.in-Some.key) (label_of c.args.book.now.tree c.in-Some.key) c.in-Some.key) c.in-Some-reached.is c.in_ok-reached-in-Some.ensures.entered) c.in_ok-reached-in-Some.ensures.state c.in_ok-reached-in-Some.ensures.ok c.in_ok-push-in-Some-reached.ensures.items
    (c.first_child-link.ensures.link ∙ ap (λ (t : Forest (Keyed Node)). first_child_of t c.in-Some.key) c.arena-arena.ensures.tree)).1.0

pub walk-preserved-in-Some-reached : goal.walk-preserved-in-Some-reached
walk-preserved-in-Some-reached g c =
    let turn = into_turn c.args.book.now.tree (fresh_entry c.args.book.now) (subst HasDistinctKeys c.arena-arena.ensures.tree c.root.ensures.document.distinct)
    (g.O.Sink.out c.args.out.now) (g.O.Sink.out c.walk.out) (g.O.Sink.out c.enter.new.out) c.walk.inside.items c.push.new.self.items c.walk.link c.first_child-link.result c.walk.writer c.enter.new.writer
    c.in-Some-reached.element c.in-Some.key c.walk.invariant.walks c.in-Some.is (subst (IsEnteredAt (fresh_entry c.args.book.now c.in-Some.key) (label_of c.args.book.now.tree c.in-Some.key) c.in-Some.key) c.in-Some-reached.is c.in_ok-reached-in-Some.ensures.entered) c.in_ok-reached-in-Some.ensures.state c.in_ok-reached-in-Some.ensures.ok c.in_ok-push-in-Some-reached.ensures.items
    (c.first_child-link.ensures.link ∙ ap (λ (t : Forest (Keyed Node)). first_child_of t c.in-Some.key) c.arena-arena.ensures.tree) in
    let left = turn.1.1 in
    record { walks = turn.0; later = omega (arith, c.walk.invariant.later, c.enter.ensures.cause.later); spent = omega (arith, left, c.walk.invariant.spent, c.enter.ensures.steps) }

pub walk-smaller-in-None-reached : goal.walk-smaller-in-None-reached
walk-smaller-in-None-reached g c = (past_turn c.args.book.now.tree (fresh_entry c.args.book.now) (subst HasDistinctKeys c.arena-arena.ensures.tree c.root.ensures.document.distinct)
    (g.O.Sink.out c.args.out.now) (g.O.Sink.out c.walk.out) (g.O.Sink.out c.enter.new.out) c.walk.inside.items c.walk.inside.items c.walk.link c.next_sibling-link.result c.walk.writer c.enter.new.writer
    c.in-Some.key c.walk.invariant.walks c.in-Some.is (subst (IsEnteredAt (fresh_entry c.args.book.now c.in-Some.key) (label_of c.args.book.now.tree c.in-Some.key) c.in-Some.key) c.in-None-reached.is c.in_ok-reached-in-Some.ensures.entered) c.in_ok-reached-in-Some.ensures.state c.in_ok-reached-in-Some.ensures.ok
    (c.next_sibling-link.ensures.link ∙ ap (λ (t : Forest (Keyed Node)). next_sibling_of t c.in-Some.key) c.arena-arena.ensures.tree)).1.0

pub walk-preserved-in-None-reached : goal.walk-preserved-in-None-reached
walk-preserved-in-None-reached g c =
    let turn = past_turn c.args.book.now.tree (fresh_entry c.args.book.now) (subst HasDistinctKeys c.arena-arena.ensures.tree c.root.ensures.document.distinct)
    (g.O.Sink.out c.args.out.now) (g.O.Sink.out c.walk.out) (g.O.Sink.out c.enter.new.out) c.walk.inside.items c.walk.inside.items c.walk.link c.next_sibling-link.result c.walk.writer c.enter.new.writer
    c.in-Some.key c.walk.invariant.walks c.in-Some.is (subst (IsEnteredAt (fresh_entry c.args.book.now c.in-Some.key) (label_of c.args.book.now.tree c.in-Some.key) c.in-Some.key) c.in-None-reached.is c.in_ok-reached-in-Some.ensures.entered) c.in_ok-reached-in-Some.ensures.state c.in_ok-reached-in-Some.ensures.ok
    (c.next_sibling-link.ensures.link ∙ ap (λ (t : Forest (Keyed Node)). next_sibling_of t c.in-Some.key) c.arena-arena.ensures.tree) in
    let left = turn.1.1 in
    record { walks = turn.0; later = omega (arith, c.walk.invariant.later, c.enter.ensures.cause.later); spent = omega (arith, left, c.walk.invariant.spent, c.enter.ensures.steps) }

-- a node is left

pub returns-in_err-leave-in-Some-pop-clause-failed : goal.returns-in_err-leave-in-Some-pop-clause-failed
returns-in_err-leave-in-Some-pop-clause-failed g c =
    on_err _ (leave_stops c.args.book.now.tree (fresh_entry c.args.book.now) (subst HasDistinctKeys c.arena-arena.ensures.tree c.root.ensures.document.distinct)
    (g.O.Sink.out c.args.out.now) (g.O.Sink.out c.walk.out) (g.O.Sink.out c.leave.new.out) c.walk.inside.items c.pop.new.self.items c.walk.link c.walk.link c.walk.writer c.walk.writer
    c.in-Some-pop.element c.walk.invariant.walks c.in-None.is c.in-Some-pop.ensures.items c.in_err-leave-in-Some-pop.ensures.failed)

pub walk-smaller : goal.walk-smaller
walk-smaller g c = (leave_turn c.args.book.now.tree (fresh_entry c.args.book.now) (subst HasDistinctKeys c.arena-arena.ensures.tree c.root.ensures.document.distinct)
    (g.O.Sink.out c.args.out.now) (g.O.Sink.out c.walk.out) (g.O.Sink.out c.leave.new.out) c.walk.inside.items c.pop.new.self.items c.walk.link c.next_sibling-link-in-Some-pop.result c.walk.writer c.leave.new.writer
    c.in-Some-pop.element c.walk.invariant.walks c.in-None.is c.in_ok-leave-in-Some-pop.ensures.state c.in_ok-leave-in-Some-pop.ensures.ok c.in-Some-pop.ensures.items
    (c.next_sibling-link-in-Some-pop.ensures.link ∙ ap (λ (t : Forest (Keyed Node)). next_sibling_of t c.in-Some-pop.element.key) c.arena-arena.ensures.tree)).1.0

pub walk-preserved : goal.walk-preserved
walk-preserved g c =
    let turn = leave_turn c.args.book.now.tree (fresh_entry c.args.book.now) (subst HasDistinctKeys c.arena-arena.ensures.tree c.root.ensures.document.distinct)
    (g.O.Sink.out c.args.out.now) (g.O.Sink.out c.walk.out) (g.O.Sink.out c.leave.new.out) c.walk.inside.items c.pop.new.self.items c.walk.link c.next_sibling-link-in-Some-pop.result c.walk.writer c.leave.new.writer
    c.in-Some-pop.element c.walk.invariant.walks c.in-None.is c.in_ok-leave-in-Some-pop.ensures.state c.in_ok-leave-in-Some-pop.ensures.ok c.in-Some-pop.ensures.items
    (c.next_sibling-link-in-Some-pop.ensures.link ∙ ap (λ (t : Forest (Keyed Node)). next_sibling_of t c.in-Some-pop.element.key) c.arena-arena.ensures.tree) in
    let left = turn.1.1 in
    record { walks = turn.0; later = omega (arith, c.walk.invariant.later, c.leave.ensures.cause.later); spent = omega (arith, left, c.walk.invariant.spent) }

-- the end

pub returns-in_err-put_break-in-None-pop-clause-failed : goal.returns-in_err-put_break-in-None-pop-clause-failed
returns-in_err-put_break-in-None-pop-clause-failed g c =
    on_err _ (ends_early c.args.book.now.tree (fresh_entry c.args.book.now) (subst HasDistinctKeys c.arena-arena.ensures.tree c.root.ensures.document.distinct)
    (g.O.Sink.out c.args.out.now) (reverse c.walk.inside.items) c.walk.link c.walk.writer (g.O.Sink.out c.walk.out) (g.O.Sink.out c.put_break.new.out)
    c.walk.invariant.walks (ap reverse (nil_from_length c.walk.inside.items (omega (arith, c.walk.inside.ok.0, c.in-None-pop.ensures.cases.0)))) c.in-None.is c.in_err-put_break-in-None-pop.ensures.failed)

pub returns-in-None-pop-clause-ok : goal.returns-in-None-pop-clause-ok
returns-in-None-pop-clause-ok g c =
    ends c.args.book.now.tree (fresh_entry c.args.book.now) (subst HasDistinctKeys c.arena-arena.ensures.tree c.root.ensures.document.distinct)
    (g.O.Sink.out c.args.out.now) (reverse c.walk.inside.items) c.walk.link c.walk.writer (g.O.Sink.out c.walk.out) (g.O.Sink.out c.put_break.new.out)
    c.walk.invariant.walks (ap reverse (nil_from_length c.walk.inside.items (omega (arith, c.walk.inside.ok.0, c.in-None-pop.ensures.cases.0)))) c.in-None.is c.in_ok-put_break-in-None-pop.ensures.ok
