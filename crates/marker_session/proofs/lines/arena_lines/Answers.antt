use Rattle.std.proofs.Common.{◌++◌, ◌∙◌, ap, arith, sym}
use Rattle.referring_elements.proofs.WalkLemmas.{fewer_left}
use Rattle.dirty_walk.proofs.WalkLemmas.{last_told, next_told}
use Rattle.marker_session.proofs.LineWalk.{all_elements, next_elements, no_more_elements, shown_at}
use Rattle.marker_session.proofs.lines.arena_lines.Goals as goal

pub walk-smaller : goal.walk-smaller
walk-smaller g c = fewer_left c.args.arena.now.tree c.root-at.ensures.document.distinct c.walk.at c.walk.invariant.live c.in-Some.next (sym c.in-Some.ensures.link)

pub walk-preserved : goal.walk-preserved
walk-preserved g c =
    let tree = c.args.arena.now.tree in
    let distinct = c.root-at.ensures.document.distinct in
    let more = next_elements tree distinct c.walk.at c.walk.invariant.live c.in-Some.next (sym c.in-Some.ensures.link) in
    record {
      live = c.in-Some.ensures.live;
      gathered = c.in_ok-push_node.ensures.ok
          ∙ ap (λ lines. lines ++ shown_at tree c.args.book.now c.walk.at) c.walk.invariant.gathered
          ∙ sym (next_told tree distinct c.walk.at c.walk.invariant.live (shown_at tree c.args.book.now) c.in-Some.next (sym c.in-Some.ensures.link));
      spent = omega (arith, more, c.walk.invariant.spent, c.in_ok-push_node.ensures.steps);
    }

pub returns-in-None : goal.returns-in-None
returns-in-None g c =
    let tree = c.args.arena.now.tree in
    let distinct = c.root-at.ensures.document.distinct in
    let all = all_elements tree distinct c.walk.at c.walk.invariant.live (sym c.in-None.ensures.link) in
    record {
      lines = c.in_ok-push_node.ensures.ok
          ∙ ap (λ lines. lines ++ shown_at tree c.args.book.now c.walk.at) c.walk.invariant.gathered
          ∙ sym (last_told tree distinct c.walk.at c.walk.invariant.live (shown_at tree c.args.book.now) (sym c.in-None.ensures.link));
      steps = omega (arith, all, c.walk.invariant.spent, c.in_ok-push_node.ensures.steps);
    }

pub returns-in_err-push_node-clause-steps : goal.returns-in_err-push_node-clause-steps
returns-in_err-push_node-clause-steps g c =
    let most = no_more_elements c.args.arena.now.tree c.root-at.ensures.document.distinct c.walk.at c.walk.invariant.live in
    omega (arith, most, c.walk.invariant.spent, c.in_err-push_node.ensures.steps)
