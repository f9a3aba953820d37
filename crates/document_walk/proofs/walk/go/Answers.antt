use Rattle.std.proofs.Common.{arith, refl, sym, ap, ◌∙◌, ◌+◌, ◌*◌, reverse}
use Rattle.box_eval.specs.Evaluation.{all_changes}
use Rattle.surroundings.proofs.Said.{sound}
use Rattle.forest.specs.Keys.{without_keys}
use Rattle.document_walk.specs.Elements.{element_count}
use Rattle.document_walk.specs.Catching.{document_of, reading, with_changes}
use Rattle.document_walk.specs.CatchingUp.{budget, told_all}
use Rattle.document_walk.proofs.BeginningLemmas.{all_collected, all_told, at_once, begins_way, can_leave, counted_alone, covers, goes_way, leaving_few, leaving_limit, leaving_whole, tells, told_few, whole_few, whole_limit, within, within_whole}
use Rattle.document_walk.proofs.ChoiceLemmas.{end_is}
use Rattle.document_walk.proofs.StackLemmas.{last_first, none_left}
use Rattle.document_walk.proofs.StandingLemmas.{leaves}
use Rattle.document_walk.proofs.walk.go.Goals as goal

pub turns-init : goal.turns-init
turns-init g c = (
  c.new-siblings.ensures.tree,
  λ merge held can.
      begins_way (reading g.T.Starts.starts c.args.sources.now) (g.B.Snapshots.kept c.args.board.now) c.root-root.ensures.document.distinct c.args.walk.now merge held c.args.steps.now can
      c.requires.frames c.requires.link c.requires.around c.requires.told,
)

-- A turn at a stop.

pub turn_at_stop-requires-clause-somewhere : goal.turn_at_stop-requires-clause-somewhere
turn_at_stop-requires-clause-somewhere g c =
    let from = reading g.T.Starts.starts c.args.sources.now in
    let can = c.requires.stands in
    record { held = can.1.0; all = told_all from (document_of from); most = c.args.steps.now + budget from can.0; at = (c.turns.invariant.1 can.0 can.1.0 can.1.1).at }

pub returns-in_err-turn_at_stop-clause-most : goal.returns-in_err-turn_at_stop-clause-most
returns-in_err-turn_at_stop-clause-most g c = λ merge held can.
    let from = reading g.T.Starts.starts c.args.sources.now in
    (c.turn_at_stop.ensures.most held (told_all from (document_of from)) (c.args.steps.now + budget from merge) (c.turns.invariant.1 merge held can).at).0

pub returns-in_err-turn_at_stop-clause-whole : goal.returns-in_err-turn_at_stop-clause-whole
returns-in_err-turn_at_stop-clause-whole g c = λ merge held can.
    let from = reading g.T.Starts.starts c.args.sources.now in
    let way = c.turns.invariant.1 merge held can in
    within_whole c.turn_at_stop.new.steps c.turns.steps _ _ (c.turn_at_stop.ensures.most held (told_all from (document_of from)) (c.args.steps.now + budget from merge) way.at).1 way.few

pub turns-smaller-then-is_at_stop : goal.turns-smaller-then-is_at_stop
turns-smaller-then-is_at_stop g c =
    let from = reading g.T.Starts.starts c.args.sources.now in
    let can = c.requires.stands in
    (c.in_ok-turn_at_stop.ensures.next can.1.0 (told_all from (document_of from)) (c.args.steps.now + budget from can.0) (c.turns.invariant.1 can.0 can.1.0 can.1.1).at).1.0

pub turns-preserved-then-is_at_stop : goal.turns-preserved-then-is_at_stop
turns-preserved-then-is_at_stop g c = (
  c.turn_at_stop.ensures.same ∙ c.turns.invariant.0,
  λ merge held can.
      let from = reading g.T.Starts.starts c.args.sources.now in
      let way = c.turns.invariant.1 merge held can in
      goes_way from (g.B.Snapshots.kept c.args.board.now) merge held c.args.steps.now c.args.walk.now.changes c.turns.walk c.turn_at_stop.new.walk c.turns.steps c.turn_at_stop.new.steps way
      (c.in_ok-turn_at_stop.ensures.next held (told_all from (document_of from)) (c.args.steps.now + budget from merge) way.at)
      (c.in_ok-turn_at_stop.ensures.found held (told_all from (document_of from)) (0 + budget from merge) way.found),
)

-- A turn at a node.

pub turn_at-requires-clause-somewhere : goal.turn_at-requires-clause-somewhere
turn_at-requires-clause-somewhere g c =
    let from = reading g.T.Starts.starts c.args.sources.now in
    let can = c.requires.stands in
    record { held = can.1.0; all = told_all from (document_of from); most = c.args.steps.now + budget from can.0; at = (c.turns.invariant.1 can.0 can.1.0 can.1.1).at }

pub returns-in_err-turn_at-in-Some-clause-most : goal.returns-in_err-turn_at-in-Some-clause-most
returns-in_err-turn_at-in-Some-clause-most g c = λ merge held can.
    let from = reading g.T.Starts.starts c.args.sources.now in
    (c.turn_at.ensures.most held (told_all from (document_of from)) (c.args.steps.now + budget from merge) (c.turns.invariant.1 merge held can).at).0

pub returns-in_err-turn_at-in-Some-clause-whole : goal.returns-in_err-turn_at-in-Some-clause-whole
returns-in_err-turn_at-in-Some-clause-whole g c = λ merge held can.
    let from = reading g.T.Starts.starts c.args.sources.now in
    let way = c.turns.invariant.1 merge held can in
    within_whole c.turn_at.new.steps c.turns.steps _ _ (c.turn_at.ensures.most held (told_all from (document_of from)) (c.args.steps.now + budget from merge) way.at).1 way.few

pub turns-smaller-in-Continue-branch-2 : goal.turns-smaller-in-Continue-branch-2
turns-smaller-in-Continue-branch-2 g c =
    let from = reading g.T.Starts.starts c.args.sources.now in
    let can = c.requires.stands in
    (c.in_ok-turn_at-in-Some.ensures.next can.1.0 (told_all from (document_of from)) (c.args.steps.now + budget from can.0) (c.turns.invariant.1 can.0 can.1.0 can.1.1).at).1.0

pub turns-preserved-in-Continue-branch-2 : goal.turns-preserved-in-Continue-branch-2
turns-preserved-in-Continue-branch-2 g c = (
  c.turn_at.ensures.same ∙ c.turns.invariant.0,
  λ merge held can.
      let from = reading g.T.Starts.starts c.args.sources.now in
      let way = c.turns.invariant.1 merge held can in
      goes_way from (g.B.Snapshots.kept c.args.board.now) merge held c.args.steps.now c.args.walk.now.changes c.turns.walk c.turn_at.new.walk c.turns.steps c.turn_at.new.steps way
      (c.in_ok-turn_at-in-Some.ensures.next held (told_all from (document_of from)) (c.args.steps.now + budget from merge) way.at)
      (c.in_ok-turn_at-in-Some.ensures.found held (told_all from (document_of from)) (0 + budget from merge) way.found),
)

-- An element is left.

pub leave-requires : goal.leave-requires
leave-requires g c =
    let from = reading g.T.Starts.starts c.args.sources.now in
    let kept = g.B.Snapshots.kept c.args.board.now in
    let can = c.requires.stands in
    let all = told_all from (document_of from) in
    let most = c.args.steps.now + budget from can.0 in
    let way = c.turns.invariant.1 can.0 can.1.0 can.1.1 in
    let leave = can_leave from kept can.1.0 all most c.turns.walk c.turns.steps way.at c.in-Some-pop.frame _ (last_first c.turns.walk.stack.items c.pop.new.self.items c.in-Some-pop.frame c.in-Some-pop.ensures.items)
    (end_is from kept can.1.0 all most (sound from.table) c.root-root.ensures.document.distinct c.turns.walk c.turns.steps way.at (sym c.is_at_stop.ensures.test ∙ c.if-is_at_stop.false) c.in-None.is) in
    record { live = leave.live; closes = leave.closes }

pub turns-smaller : goal.turns-smaller
turns-smaller g c =
    let from = reading g.T.Starts.starts c.args.sources.now in
    let kept = g.B.Snapshots.kept c.args.board.now in
    let can = c.requires.stands in
    let all = told_all from (document_of from) in
    let most = c.args.steps.now + budget from can.0 in
    let walk = c.turns.walk in
    let way = c.turns.invariant.1 can.0 can.1.0 can.1.1 in
    (leaves from kept can.1.0 all most (sound from.table) walk c.turns.steps way.at c.root-root.ensures.document.distinct
    (record { stack = c.pop.new.self; stops = walk.stops; link = walk.link; around = walk.around; told = walk.told; changes = walk.changes }) c.leave.new.self c.in-Some-pop.frame c.leave.new.steps
    (last_first c.turns.walk.stack.items c.pop.new.self.items c.in-Some-pop.frame c.in-Some-pop.ensures.items) refl refl refl refl c.in_ok-leave-in-Some-pop.ensures.left
    (end_is from kept can.1.0 all most (sound from.table) c.root-root.ensures.document.distinct c.turns.walk c.turns.steps way.at (sym c.is_at_stop.ensures.test ∙ c.if-is_at_stop.false) c.in-None.is) c.leave.ensures.steps).1.0

pub turns-preserved : goal.turns-preserved
turns-preserved g c = (
  c.turns.invariant.0,
  λ merge held can.
      let from = reading g.T.Starts.starts c.args.sources.now in
      let kept = g.B.Snapshots.kept c.args.board.now in
      let all = told_all from (document_of from) in
      let most = c.args.steps.now + budget from merge in
      let walk = c.turns.walk in
      let way = c.turns.invariant.1 merge held can in
      goes_way from kept merge held c.args.steps.now c.args.walk.now.changes walk c.leave.new.self c.turns.steps c.leave.new.steps way
      (leaves from kept held all most (sound from.table) walk c.turns.steps way.at c.root-root.ensures.document.distinct
      (record { stack = c.pop.new.self; stops = walk.stops; link = walk.link; around = walk.around; told = walk.told; changes = walk.changes }) c.leave.new.self c.in-Some-pop.frame c.leave.new.steps
      (last_first c.turns.walk.stack.items c.pop.new.self.items c.in-Some-pop.frame c.in-Some-pop.ensures.items) refl refl refl refl c.in_ok-leave-in-Some-pop.ensures.left
      (end_is from kept held all most (sound from.table) c.root-root.ensures.document.distinct c.turns.walk c.turns.steps way.at (sym c.is_at_stop.ensures.test ∙ c.if-is_at_stop.false) c.in-None.is) c.leave.ensures.steps)
      (leaves from kept held all (0 + budget from merge) (sound from.table) walk 0 way.found c.root-root.ensures.document.distinct
      (record { stack = c.pop.new.self; stops = walk.stops; link = walk.link; around = walk.around; told = walk.told; changes = walk.changes }) c.leave.new.self c.in-Some-pop.frame 0
      (last_first c.turns.walk.stack.items c.pop.new.self.items c.in-Some-pop.frame c.in-Some-pop.ensures.items) refl refl refl refl c.in_ok-leave-in-Some-pop.ensures.left
      (end_is from kept held all (0 + budget from merge) (sound from.table) c.root-root.ensures.document.distinct c.turns.walk 0 way.found (sym c.is_at_stop.ensures.test ∙ c.if-is_at_stop.false) c.in-None.is) (omega arith)),
)

pub returns-in_err-leave-in-Some-pop-clause-most : goal.returns-in_err-leave-in-Some-pop-clause-most
returns-in_err-leave-in-Some-pop-clause-most g c = λ merge held can.
    let from = reading g.T.Starts.starts c.args.sources.now in
    let kept = g.B.Snapshots.kept c.args.board.now in
    let all = told_all from (document_of from) in
    let most = c.args.steps.now + budget from merge in
    let way = c.turns.invariant.1 merge held can in
    let leave = can_leave from kept held all most c.turns.walk c.turns.steps way.at c.in-Some-pop.frame _ (last_first c.turns.walk.stack.items c.pop.new.self.items c.in-Some-pop.frame c.in-Some-pop.ensures.items)
    (end_is from kept held all most (sound from.table) c.root-root.ensures.document.distinct c.turns.walk c.turns.steps way.at (sym c.is_at_stop.ensures.test ∙ c.if-is_at_stop.false) c.in-None.is) in
    leaving_few c.leave.new.steps c.turns.steps _ most c.leave.ensures.steps leave.few

pub returns-in_err-leave-in-Some-pop-clause-whole : goal.returns-in_err-leave-in-Some-pop-clause-whole
returns-in_err-leave-in-Some-pop-clause-whole g c = λ merge held can.
    let from = reading g.T.Starts.starts c.args.sources.now in
    let kept = g.B.Snapshots.kept c.args.board.now in
    let all = told_all from (document_of from) in
    let most = c.args.steps.now + budget from merge in
    let way = c.turns.invariant.1 merge held can in
    let leave = can_leave from kept held all most c.turns.walk c.turns.steps way.at c.in-Some-pop.frame _ (last_first c.turns.walk.stack.items c.pop.new.self.items c.in-Some-pop.frame c.in-Some-pop.ensures.items)
    (end_is from kept held all most (sound from.table) c.root-root.ensures.document.distinct c.turns.walk c.turns.steps way.at (sym c.is_at_stop.ensures.test ∙ c.if-is_at_stop.false) c.in-None.is) in
    leaving_whole from c.leave.new.steps c.turns.steps _ c.turns.walk c.leave.ensures.steps leave.some way.few

-- All is found.

pub returns-in-None-pop-clause-covers : goal.returns-in-None-pop-clause-covers
returns-in-None-pop-clause-covers g c = λ merge held can.
    let from = reading g.T.Starts.starts c.args.sources.now in
    let kept = g.B.Snapshots.kept c.args.board.now in
    let all = told_all from (document_of from) in
    let most = c.args.steps.now + budget from merge in
    let way = c.turns.invariant.1 merge held can in
    covers from kept held all most c.turns.walk c.turns.steps way.at
    (ap reverse (none_left c.turns.walk.stack.items c.pop.new.self.items _ c.in-None-pop.ensures.items c.in-None-pop.ensures.rest c.in-None-pop.ensures.cases.0))
    (end_is from kept held all most (sound from.table) c.root-root.ensures.document.distinct c.turns.walk c.turns.steps way.at (sym c.is_at_stop.ensures.test ∙ c.if-is_at_stop.false) c.in-None.is)

pub returns-in-None-pop-clause-among : goal.returns-in-None-pop-clause-among
returns-in-None-pop-clause-among g c = λ merge held can.
    let from = reading g.T.Starts.starts c.args.sources.now in
    tells from (g.B.Snapshots.kept c.args.board.now) held (told_all from (document_of from)) (c.args.steps.now + budget from merge) c.turns.walk c.turns.steps (c.turns.invariant.1 merge held can).at

pub returns-in-None-pop-clause-few : goal.returns-in-None-pop-clause-few
returns-in-None-pop-clause-few g c = λ merge held can.
    let from = reading g.T.Starts.starts c.args.sources.now in
    within from (g.B.Snapshots.kept c.args.board.now) held (told_all from (document_of from)) (c.args.steps.now + budget from merge) c.turns.walk c.turns.steps (c.turns.invariant.1 merge held can).at

pub returns-in-None-pop-clause-most : goal.returns-in-None-pop-clause-most
returns-in-None-pop-clause-most g c = λ merge held can.
    let from = reading g.T.Starts.starts c.args.sources.now in
    at_once c.turns.steps _ _ (within from (g.B.Snapshots.kept c.args.board.now) held (told_all from (document_of from)) (c.args.steps.now + budget from merge) c.turns.walk c.turns.steps (c.turns.invariant.1 merge held can).at)

pub returns-in-None-pop-clause-count : goal.returns-in-None-pop-clause-count
returns-in-None-pop-clause-count g c = λ merge held can.
    told_few _ _ _ (c.turns.invariant.1 merge held can).told

pub returns-in-None-pop-clause-whole : goal.returns-in-None-pop-clause-whole
returns-in-None-pop-clause-whole g c = λ merge held can.
    whole_few _ _ _ (c.turns.invariant.1 merge held can).few

pub returns-in_err-turn_at_stop-clause-three : goal.returns-in_err-turn_at_stop-clause-three
returns-in_err-turn_at_stop-clause-three g c = λ merge held can come.
    let from = reading g.T.Starts.starts c.args.sources.now in
    let way = c.turns.invariant.1 merge held can in
    let collected = with_changes c.args.walk.now.changes (all_changes from.table (document_of from)) in
    let limit = c.args.steps.now + 3 * element_count (without_keys from.tree) in
    (c.turn_at_stop.ensures.most held (told_all from (document_of from)) (c.args.steps.now + budget from merge) way.at).2 collected limit (way.whole come)

pub returns-in_err-turn_at-in-Some-clause-three : goal.returns-in_err-turn_at-in-Some-clause-three
returns-in_err-turn_at-in-Some-clause-three g c = λ merge held can come.
    let from = reading g.T.Starts.starts c.args.sources.now in
    let way = c.turns.invariant.1 merge held can in
    let collected = with_changes c.args.walk.now.changes (all_changes from.table (document_of from)) in
    let limit = c.args.steps.now + 3 * element_count (without_keys from.tree) in
    (c.turn_at.ensures.most held (told_all from (document_of from)) (c.args.steps.now + budget from merge) way.at).2 collected limit (way.whole come)

pub returns-in_err-leave-in-Some-pop-clause-three : goal.returns-in_err-leave-in-Some-pop-clause-three
returns-in_err-leave-in-Some-pop-clause-three g c = λ merge held can come.
    let from = reading g.T.Starts.starts c.args.sources.now in
    let kept = g.B.Snapshots.kept c.args.board.now in
    let all = told_all from (document_of from) in
    let most = c.args.steps.now + budget from merge in
    let way = c.turns.invariant.1 merge held can in
    let collected = with_changes c.args.walk.now.changes (all_changes from.table (document_of from)) in
    let limit = c.args.steps.now + 3 * element_count (without_keys from.tree) in
    let leave = can_leave from kept held all most c.turns.walk c.turns.steps way.at c.in-Some-pop.frame _ (last_first c.turns.walk.stack.items c.pop.new.self.items c.in-Some-pop.frame c.in-Some-pop.ensures.items)
    (end_is from kept held all most (sound from.table) c.root-root.ensures.document.distinct c.turns.walk c.turns.steps way.at (sym c.is_at_stop.ensures.test ∙ c.if-is_at_stop.false) c.in-None.is) in
    leaving_limit from all collected limit c.leave.new.steps c.turns.steps c.turns.walk way.at.above way.at.here c.leave.ensures.steps leave.some (way.whole come)

pub returns-in-None-pop-clause-three : goal.returns-in-None-pop-clause-three
returns-in-None-pop-clause-three g c = λ merge held can come.
    let from = reading g.T.Starts.starts c.args.sources.now in
    let all = told_all from (document_of from) in
    let way = c.turns.invariant.1 merge held can in
    let collected = with_changes c.args.walk.now.changes (all_changes from.table (document_of from)) in
    let limit = c.args.steps.now + 3 * element_count (without_keys from.tree) in
    whole_limit from all collected limit c.turns.steps c.turns.walk way.at.above way.at.here (way.whole come)

pub returns-in-None-pop-clause-all : goal.returns-in-None-pop-clause-all
returns-in-None-pop-clause-all g c = λ merge held can come.
    let from = reading g.T.Starts.starts c.args.sources.now in
    let kept = g.B.Snapshots.kept c.args.board.now in
    let all = told_all from (document_of from) in
    let most = c.args.steps.now + budget from merge in
    let way = c.turns.invariant.1 merge held can in
    let collected = with_changes c.args.walk.now.changes (all_changes from.table (document_of from)) in
    let limit = c.args.steps.now + 3 * element_count (without_keys from.tree) in
    all_told from kept held all most c.turns.walk c.turns.steps way.at
    (ap reverse (none_left c.turns.walk.stack.items c.pop.new.self.items _ c.in-None-pop.ensures.items c.in-None-pop.ensures.rest c.in-None-pop.ensures.cases.0))
    (end_is from kept held all most (sound from.table) c.root-root.ensures.document.distinct c.turns.walk c.turns.steps way.at (sym c.is_at_stop.ensures.test ∙ c.if-is_at_stop.false) c.in-None.is) collected limit (way.whole come)

pub returns-in-None-pop-clause-changes : goal.returns-in-None-pop-clause-changes
returns-in-None-pop-clause-changes g c = λ merge held can come.
    let from = reading g.T.Starts.starts c.args.sources.now in
    let kept = g.B.Snapshots.kept c.args.board.now in
    let all = told_all from (document_of from) in
    let most = c.args.steps.now + budget from merge in
    let way = c.turns.invariant.1 merge held can in
    let collected = with_changes c.args.walk.now.changes (all_changes from.table (document_of from)) in
    let limit = c.args.steps.now + 3 * element_count (without_keys from.tree) in
    all_collected from kept held all most c.turns.walk c.turns.steps way.at
    (ap reverse (none_left c.turns.walk.stack.items c.pop.new.self.items _ c.in-None-pop.ensures.items c.in-None-pop.ensures.rest c.in-None-pop.ensures.cases.0))
    (end_is from kept held all most (sound from.table) c.root-root.ensures.document.distinct c.turns.walk c.turns.steps way.at (sym c.is_at_stop.ensures.test ∙ c.if-is_at_stop.false) c.in-None.is) collected limit (way.whole come)

pub returns-in-None-pop-clause-found : goal.returns-in-None-pop-clause-found
returns-in-None-pop-clause-found g c = λ merge held can.
    let from = reading g.T.Starts.starts c.args.sources.now in
    counted_alone _ _ (within from (g.B.Snapshots.kept c.args.board.now) held (told_all from (document_of from)) (0 + budget from merge) c.turns.walk 0 (c.turns.invariant.1 merge held can).found)
