use Rattle.std.proofs.Common.{◌≤◌, ◌*◌, List, None, Some, arith, subst, sym}
use Rattle.ports.proofs.GrownLemmas.{front_whole, on_err}
use Rattle.book_refs.specs.ShowWork.{chapter_work}
use Rattle.book_refs.specs.declared.lines.OpenNode.{OpenNode}
use Rattle.book_refs.proofs.ChapterWalks.{IsAt, all_left, enter_failed, enter_within, entered, leave_failed, leave_within, left, live_there, stands, starts, steps_left}
use Rattle.book_refs.proofs.PutCauses.{caused_after}
use Rattle.book_refs.proofs.lines.put_chapter.Goals as goal

pub walk-init : goal.walk-init
walk-init g c =
    let all =
    subst (λ (stack : List OpenNode). steps_left c.args.volume.now c.args.own.now stack (Some c.root.result) ≤ 4 * chapter_work c.args.volume.now c.args.own.now) (sym c.new-inside.ensures.items)
    (all_left c.args.volume.now c.args.own.now c.arena-arena.result.now.tree c.arena-arena.ensures.tree c.arena-arena.ensures.document (g.O.Sink.out c.args.out.now) c.root.result c.root.ensures.root) in
    record {
      walks =
          subst (λ (stack : List OpenNode). IsAt c.args.volume.now c.args.own.now stack (Some c.root.result) (g.O.Sink.out c.args.out.now) (g.O.Sink.out c.args.out.now)) (sym c.new-inside.ensures.items)
          (starts c.args.volume.now c.args.own.now c.arena-arena.result.now.tree c.arena-arena.ensures.tree c.arena-arena.ensures.document (g.O.Sink.out c.args.out.now) c.root.result c.root.ensures.root);
      later = omega arith;
      spent = omega (arith, all);
    }

-- a node is entered

pub enter-requires : goal.enter-requires
enter-requires g c = record { live = rw c.in-Some.is at c.walk.invariant.walks.link_is }

pub returns-in_err-entry-in-Some-clause-failed : goal.returns-in_err-entry-in-Some-clause-failed
returns-in_err-entry-in-Some-clause-failed g c =
    on_err _
    (enter_failed c.args.volume.now c.args.own.now c.arena-arena.result.now.tree c.arena-arena.ensures.tree c.arena-arena.ensures.document
    (g.O.Sink.out c.args.out.now) (g.O.Sink.out c.walk.out) (g.O.Sink.out c.enter.new.out) c.walk.inside.items c.walk.inside.items c.walk.link c.walk.link
    (record { key = c.in-Some.key; entry = None }) c.walk.invariant.walks c.in-Some.is c.in_err-entry-in-Some.ensures.failed)

pub returns-in_err-entry-in-Some-clause-cause : goal.returns-in_err-entry-in-Some-clause-cause
returns-in_err-entry-in-Some-clause-cause g c =
    caused_after (g.O.Sink.faults c.args.out.now) (g.O.Sink.faults c.walk.out) (g.O.Sink.faults c.enter.new.out) c.in_err-entry-in-Some.field-0.0 c.from_residual.result c.from_residual.ensures
    c.walk.invariant.later c.in_err-entry-in-Some.ensures.cause

pub returns-in_err-entry-in-Some-clause-steps : goal.returns-in_err-entry-in-Some-clause-steps
returns-in_err-entry-in-Some-clause-steps g c =
    let within =
    enter_within c.args.volume.now c.args.own.now c.arena-arena.result.now.tree c.arena-arena.ensures.tree c.arena-arena.ensures.document
    (g.O.Sink.out c.args.out.now) (g.O.Sink.out c.walk.out) (g.O.Sink.out c.enter.new.out) c.walk.inside.items c.walk.inside.items c.walk.link c.walk.link
    (record { key = c.in-Some.key; entry = None }) c.walk.invariant.walks c.in-Some.is in
    omega (arith, within, c.walk.invariant.spent, c.enter.ensures.steps)

pub returns-in_err-push-in-Some-clause-failed : goal.returns-in_err-push-in-Some-clause-failed
returns-in_err-push-in-Some-clause-failed g c =
    on_err _
    (enter_failed c.args.volume.now c.args.own.now c.arena-arena.result.now.tree c.arena-arena.ensures.tree c.arena-arena.ensures.document
    (g.O.Sink.out c.args.out.now) (g.O.Sink.out c.walk.out) (g.O.Sink.out c.enter.new.out) c.walk.inside.items c.walk.inside.items c.walk.link c.walk.link
    (record { key = c.in-Some.key; entry = None }) c.walk.invariant.walks c.in-Some.is (front_whole _ _ _ c.in_ok-entry-in-Some.ensures.ok))

pub returns-in_err-push-in-Some-clause-steps : goal.returns-in_err-push-in-Some-clause-steps
returns-in_err-push-in-Some-clause-steps g c =
    let within =
    enter_within c.args.volume.now c.args.own.now c.arena-arena.result.now.tree c.arena-arena.ensures.tree c.arena-arena.ensures.document
    (g.O.Sink.out c.args.out.now) (g.O.Sink.out c.walk.out) (g.O.Sink.out c.enter.new.out) c.walk.inside.items c.walk.inside.items c.walk.link c.walk.link
    (record { key = c.in-Some.key; entry = None }) c.walk.invariant.walks c.in-Some.is in
    omega (arith, within, c.walk.invariant.spent, c.enter.ensures.steps)

pub first_child-link-requires : goal.first_child-link-requires
first_child-link-requires g c =
    live_there c.args.volume.now c.args.own.now c.arena-arena.result.now.tree c.arena-arena.ensures.tree c.arena-arena.ensures.document (g.O.Sink.out c.args.out.now) c.in-Some.key
    (rw c.in-Some.is at c.walk.invariant.walks.link_is)

pub walk-smaller-in-Some : goal.walk-smaller-in-Some
walk-smaller-in-Some g c =
    (entered c.args.volume.now c.args.own.now c.arena-arena.result.now.tree c.arena-arena.ensures.tree c.arena-arena.ensures.document
    (g.O.Sink.out c.args.out.now) (g.O.Sink.out c.walk.out) (g.O.Sink.out c.enter.new.out) c.walk.inside.items c.push.new.self.items c.walk.link c.first_child-link.result
    (record { key = c.in-Some.key; entry = c.in_ok-entry-in-Some.entry })
    c.walk.invariant.walks c.in-Some.is c.in_ok-entry-in-Some.ensures.entry c.in_ok-entry-in-Some.ensures.ok c.in_ok-push-in-Some.ensures.items c.first_child-link.ensures.link).1.0

pub walk-preserved-in-Some : goal.walk-preserved-in-Some
walk-preserved-in-Some g c =
    let turn =
    entered c.args.volume.now c.args.own.now c.arena-arena.result.now.tree c.arena-arena.ensures.tree c.arena-arena.ensures.document
    (g.O.Sink.out c.args.out.now) (g.O.Sink.out c.walk.out) (g.O.Sink.out c.enter.new.out) c.walk.inside.items c.push.new.self.items c.walk.link c.first_child-link.result
    (record { key = c.in-Some.key; entry = c.in_ok-entry-in-Some.entry })
    c.walk.invariant.walks c.in-Some.is c.in_ok-entry-in-Some.ensures.entry c.in_ok-entry-in-Some.ensures.ok c.in_ok-push-in-Some.ensures.items c.first_child-link.ensures.link in
    let spent = turn.1.1 in
    record {
      walks = turn.0;
      later = omega (arith, c.walk.invariant.later, c.enter.ensures.cause.later);
      spent = omega (arith, spent, c.walk.invariant.spent, c.enter.ensures.steps);
    }

-- a node is left

pub leave-requires : goal.leave-requires
leave-requires g c =
    let there =
    stands c.args.volume.now c.args.own.now c.arena-arena.result.now.tree c.arena-arena.ensures.tree c.arena-arena.ensures.document
    (g.O.Sink.out c.args.out.now) (g.O.Sink.out c.walk.out) (g.O.Sink.out c.walk.out) c.walk.inside.items c.pop.new.self.items c.walk.link c.walk.link c.in-Some-pop.node
    c.walk.invariant.walks c.in-Some-pop.ensures.items in
    record { node = record { live = there.0; entry = there.1 } }

pub returns-in_err-leave-in-Some-pop-clause-failed : goal.returns-in_err-leave-in-Some-pop-clause-failed
returns-in_err-leave-in-Some-pop-clause-failed g c =
    on_err _
    (leave_failed c.args.volume.now c.args.own.now c.arena-arena.result.now.tree c.arena-arena.ensures.tree c.arena-arena.ensures.document
    (g.O.Sink.out c.args.out.now) (g.O.Sink.out c.walk.out) (g.O.Sink.out c.leave.new.out) c.walk.inside.items c.pop.new.self.items c.walk.link c.walk.link c.in-Some-pop.node
    c.walk.invariant.walks c.in-None.is c.in-Some-pop.ensures.items c.in_err-leave-in-Some-pop.ensures.failed)

pub returns-in_err-leave-in-Some-pop-clause-cause : goal.returns-in_err-leave-in-Some-pop-clause-cause
returns-in_err-leave-in-Some-pop-clause-cause g c =
    caused_after (g.O.Sink.faults c.args.out.now) (g.O.Sink.faults c.walk.out) (g.O.Sink.faults c.leave.new.out) c.in_err-leave-in-Some-pop.field-0.0
    c.from_residual-in_err-leave-in-Some-pop.result c.from_residual-in_err-leave-in-Some-pop.ensures c.walk.invariant.later c.in_err-leave-in-Some-pop.ensures.cause

pub returns-in_err-leave-in-Some-pop-clause-steps : goal.returns-in_err-leave-in-Some-pop-clause-steps
returns-in_err-leave-in-Some-pop-clause-steps g c =
    let within =
    leave_within c.args.volume.now c.args.own.now c.arena-arena.result.now.tree c.arena-arena.ensures.tree c.arena-arena.ensures.document
    (g.O.Sink.out c.args.out.now) (g.O.Sink.out c.walk.out) (g.O.Sink.out c.leave.new.out) c.walk.inside.items c.pop.new.self.items c.walk.link c.walk.link c.in-Some-pop.node
    c.walk.invariant.walks c.in-None.is c.in-Some-pop.ensures.items in
    omega (arith, within, c.walk.invariant.spent, c.leave.ensures.steps)

pub next_sibling-link-requires : goal.next_sibling-link-requires
next_sibling-link-requires g c =
    live_there c.args.volume.now c.args.own.now c.arena-arena.result.now.tree c.arena-arena.ensures.tree c.arena-arena.ensures.document (g.O.Sink.out c.args.out.now) c.in-Some-pop.node.key
    (stands c.args.volume.now c.args.own.now c.arena-arena.result.now.tree c.arena-arena.ensures.tree c.arena-arena.ensures.document
    (g.O.Sink.out c.args.out.now) (g.O.Sink.out c.walk.out) (g.O.Sink.out c.walk.out) c.walk.inside.items c.pop.new.self.items c.walk.link c.walk.link c.in-Some-pop.node
    c.walk.invariant.walks c.in-Some-pop.ensures.items).0

pub walk-smaller : goal.walk-smaller
walk-smaller g c =
    (left c.args.volume.now c.args.own.now c.arena-arena.result.now.tree c.arena-arena.ensures.tree c.arena-arena.ensures.document
    (g.O.Sink.out c.args.out.now) (g.O.Sink.out c.walk.out) (g.O.Sink.out c.leave.new.out) c.walk.inside.items c.pop.new.self.items c.walk.link c.next_sibling-link.result c.in-Some-pop.node
    c.walk.invariant.walks c.in-None.is c.in_ok-leave-in-Some-pop.ensures.ok c.in-Some-pop.ensures.items c.next_sibling-link.ensures.link).1.0

pub walk-preserved : goal.walk-preserved
walk-preserved g c =
    let turn =
    left c.args.volume.now c.args.own.now c.arena-arena.result.now.tree c.arena-arena.ensures.tree c.arena-arena.ensures.document
    (g.O.Sink.out c.args.out.now) (g.O.Sink.out c.walk.out) (g.O.Sink.out c.leave.new.out) c.walk.inside.items c.pop.new.self.items c.walk.link c.next_sibling-link.result c.in-Some-pop.node
    c.walk.invariant.walks c.in-None.is c.in_ok-leave-in-Some-pop.ensures.ok c.in-Some-pop.ensures.items c.next_sibling-link.ensures.link in
    let spent = turn.1.1 in
    record {
      walks = turn.0;
      later = omega (arith, c.walk.invariant.later, c.leave.ensures.cause.later);
      spent = omega (arith, spent, c.walk.invariant.spent, c.leave.ensures.steps);
    }
