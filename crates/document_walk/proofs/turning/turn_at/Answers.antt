use Rattle.std.proofs.Common.{ℕ, arith, refl, sym, ◌∙◌, true, false}
use Rattle.surroundings.proofs.Said.{sound}
use Rattle.document_walk.specs.Catching.{HasEntered, HasSkipped, reading, stops_left}
use Rattle.document_walk.specs.Machinery.Standing.{GoesOn}
use Rattle.document_walk.proofs.BeginningLemmas.{on_ok, plus}
use Rattle.document_walk.proofs.ChoiceLemmas.{can_open, fresh_entering, other_entering, passes_turn, skip_most, skip_turn}
use Rattle.document_walk.proofs.StandingLemmas.{entering-paid, enters, still}
use Rattle.document_walk.proofs.turning.turn_at.Goals as goal

pub returns-then-not-is_element-clause-next : goal.returns-then-not-is_element-clause-next
returns-then-not-is_element-clause-next g c = λ held all most at.
    let from = reading g.T.Starts.starts c.args.sources.now in
    let walk = c.args.walk.now in
    passes_turn from (g.B.Snapshots.kept c.args.board.now) held all most (sound from.table) c.root-root.ensures.document.distinct walk c.args.steps.now at c.requires.off c.args.key c.requires.link
    (record { stack = walk.stack; stops = walk.stops; link = c.next_sibling-walk.result; around = walk.around; told = walk.told; changes = walk.changes }) refl refl refl refl refl
    c.next_sibling-walk.ensures.link (sym c.is_element.ensures.test ∙ c.if-not-is_element.true)

pub returns-then-is_fresh-clause-next : goal.returns-then-is_fresh-clause-next
returns-then-is_fresh-clause-next g c =
    let from = reading g.T.Starts.starts c.args.sources.now in
    let kept = g.B.Snapshots.kept c.args.board.now in
    let walk = c.args.walk.now in
    let more = c.enter.new.steps in
    on_ok c.enter.result (HasEntered from walk c.enter.new.self c.args.key true) (GoesOn from kept walk c.args.steps.now c.enter.new.self more) c.enter.ensures.entered
    (λ entered held all most at. enters from kept held all most (sound from.table) walk c.args.steps.now at c.root-root.ensures.document.distinct walk c.enter.new.self c.args.key true (stops_left walk) more
    (fresh_entering from kept held all most (sound from.table) c.root-root.ensures.document.distinct walk c.args.steps.now at c.requires.off c.args.key c.requires.link
    (sym c.is_element.ensures.test ∙ c.if-not-is_element.false) more (sym c.is_fresh.ensures.fresh ∙ c.if-is_fresh.true) c.enter.ensures.steps)
    c.requires.link refl refl refl refl refl entered)

pub returns-then-is_same-clause-next : goal.returns-then-is_same-clause-next
returns-then-is_same-clause-next g c =
    let from = reading g.T.Starts.starts c.args.sources.now in
    let kept = g.B.Snapshots.kept c.args.board.now in
    let walk = c.args.walk.now in
    let more = c.skip.new.steps in
    on_ok c.skip.result (HasSkipped kept walk c.skip.new.self) (GoesOn from kept walk c.args.steps.now c.skip.new.self more) c.skip.ensures.skipped
    (λ skipped held all most at. skip_turn from kept held all most (sound from.table) c.root-root.ensures.document.distinct walk c.args.steps.now at c.requires.off c.args.key c.requires.link
    (sym c.is_element.ensures.test ∙ c.if-not-is_element.false) c.skip.new.self more (sym c.is_fresh.ensures.fresh ∙ c.if-is_fresh.false) (sym c.is_same.ensures.test ∙ c.if-is_same.true) skipped
    (plus c.args.steps.now c.is_same.new.steps more 1 1 c.is_same.ensures.step c.skip.ensures.step))

pub returns-clause-next : goal.returns-clause-next
returns-clause-next g c =
    let from = reading g.T.Starts.starts c.args.sources.now in
    let kept = g.B.Snapshots.kept c.args.board.now in
    let walk = c.args.walk.now in
    let more = c.enter-2.new.steps in
    on_ok c.enter-2.result (HasEntered from walk c.enter-2.new.self c.args.key false) (GoesOn from kept walk c.args.steps.now c.enter-2.new.self more) c.enter-2.ensures.entered
    (λ entered held all most at. enters from kept held all most (sound from.table) walk c.args.steps.now at c.root-root.ensures.document.distinct walk c.enter-2.new.self c.args.key false (stops_left walk) more
    (other_entering from kept held all most (sound from.table) c.root-root.ensures.document.distinct walk c.args.steps.now at c.requires.off c.args.key c.requires.link
    (sym c.is_element.ensures.test ∙ c.if-not-is_element.false) more (sym c.is_fresh.ensures.fresh ∙ c.if-is_fresh.false) (sym c.is_same.ensures.test ∙ c.if-is_same.false)
    (plus c.args.steps.now c.is_same.new.steps more 1 2 c.is_same.ensures.step c.enter-2.ensures.steps))
    c.requires.link refl refl refl refl refl entered)

-- The steps.

pub returns-then-is_fresh-clause-most : goal.returns-then-is_fresh-clause-most
returns-then-is_fresh-clause-most g c = λ held all most at.
    let from = reading g.T.Starts.starts c.args.sources.now in
    let kept = g.B.Snapshots.kept c.args.board.now in
    let walk = c.args.walk.now in
    let more = c.enter.new.steps in
    entering-paid from kept held all most (sound from.table) walk c.args.steps.now at true (stops_left walk) more
    (fresh_entering from kept held all most (sound from.table) c.root-root.ensures.document.distinct walk c.args.steps.now at c.requires.off c.args.key c.requires.link
    (sym c.is_element.ensures.test ∙ c.if-not-is_element.false) more (sym c.is_fresh.ensures.fresh ∙ c.if-is_fresh.true) c.enter.ensures.steps)

pub returns-then-is_same-clause-most : goal.returns-then-is_same-clause-most
returns-then-is_same-clause-most g c = λ held all most at.
    let from = reading g.T.Starts.starts c.args.sources.now in
    let kept = g.B.Snapshots.kept c.args.board.now in
    let walk = c.args.walk.now in
    let more = c.skip.new.steps in
    skip_most from kept held all most (sound from.table) c.root-root.ensures.document.distinct walk c.args.steps.now at c.requires.off c.args.key c.requires.link
    (sym c.is_element.ensures.test ∙ c.if-not-is_element.false) more (sym c.is_fresh.ensures.fresh ∙ c.if-is_fresh.false) (sym c.is_same.ensures.test ∙ c.if-is_same.true)
    (plus c.args.steps.now c.is_same.new.steps more 1 1 c.is_same.ensures.step c.skip.ensures.step)

pub returns-clause-most : goal.returns-clause-most
returns-clause-most g c = λ held all most at.
    let from = reading g.T.Starts.starts c.args.sources.now in
    let kept = g.B.Snapshots.kept c.args.board.now in
    let walk = c.args.walk.now in
    let more = c.enter-2.new.steps in
    entering-paid from kept held all most (sound from.table) walk c.args.steps.now at false (stops_left walk) more
    (other_entering from kept held all most (sound from.table) c.root-root.ensures.document.distinct walk c.args.steps.now at c.requires.off c.args.key c.requires.link
    (sym c.is_element.ensures.test ∙ c.if-not-is_element.false) more (sym c.is_fresh.ensures.fresh ∙ c.if-is_fresh.false) (sym c.is_same.ensures.test ∙ c.if-is_same.false)
    (plus c.args.steps.now c.is_same.new.steps more 1 2 c.is_same.ensures.step c.enter-2.ensures.steps))

pub returns-then-not-is_element-clause-most : goal.returns-then-not-is_element-clause-most
returns-then-not-is_element-clause-most g c = λ held all most at.
    let from = reading g.T.Starts.starts c.args.sources.now in
    let kept = g.B.Snapshots.kept c.args.board.now in
    let walk = c.args.walk.now in
    still from kept held all most (sound from.table) walk c.args.steps.now at

pub enter-requires-clause-opens : goal.enter-requires-clause-opens
enter-requires-clause-opens g c =
    let from = reading g.T.Starts.starts c.args.sources.now in
    let somewhere = c.requires.somewhere in
    can_open from (g.B.Snapshots.kept c.args.board.now) somewhere.held somewhere.all somewhere.most (sound from.table) c.root-root.ensures.document.distinct c.args.walk.now c.args.steps.now somewhere.at c.args.key c.requires.link

-- The same with no step counted.

pub returns-then-not-is_element-clause-found : goal.returns-then-not-is_element-clause-found
returns-then-not-is_element-clause-found g c = λ held all most at.
    let from = reading g.T.Starts.starts c.args.sources.now in
    let walk = c.args.walk.now in
    passes_turn from (g.B.Snapshots.kept c.args.board.now) held all most (sound from.table) c.root-root.ensures.document.distinct walk 0 at c.requires.off c.args.key c.requires.link
    (record { stack = walk.stack; stops = walk.stops; link = c.next_sibling-walk.result; around = walk.around; told = walk.told; changes = walk.changes }) refl refl refl refl refl
    c.next_sibling-walk.ensures.link (sym c.is_element.ensures.test ∙ c.if-not-is_element.true)

pub returns-then-is_fresh-clause-found : goal.returns-then-is_fresh-clause-found
returns-then-is_fresh-clause-found g c =
    let from = reading g.T.Starts.starts c.args.sources.now in
    let kept = g.B.Snapshots.kept c.args.board.now in
    let walk = c.args.walk.now in
    let more : ℕ = 0 in
    on_ok c.enter.result (HasEntered from walk c.enter.new.self c.args.key true) (GoesOn from kept walk 0 c.enter.new.self more) c.enter.ensures.entered
    (λ entered held all most at. enters from kept held all most (sound from.table) walk 0 at c.root-root.ensures.document.distinct walk c.enter.new.self c.args.key true (stops_left walk) more
    (fresh_entering from kept held all most (sound from.table) c.root-root.ensures.document.distinct walk 0 at c.requires.off c.args.key c.requires.link
    (sym c.is_element.ensures.test ∙ c.if-not-is_element.false) more (sym c.is_fresh.ensures.fresh ∙ c.if-is_fresh.true) (omega arith))
    c.requires.link refl refl refl refl refl entered)

pub returns-then-is_same-clause-found : goal.returns-then-is_same-clause-found
returns-then-is_same-clause-found g c =
    let from = reading g.T.Starts.starts c.args.sources.now in
    let kept = g.B.Snapshots.kept c.args.board.now in
    let walk = c.args.walk.now in
    let more : ℕ = 0 in
    on_ok c.skip.result (HasSkipped kept walk c.skip.new.self) (GoesOn from kept walk 0 c.skip.new.self more) c.skip.ensures.skipped
    (λ skipped held all most at. skip_turn from kept held all most (sound from.table) c.root-root.ensures.document.distinct walk 0 at c.requires.off c.args.key c.requires.link
    (sym c.is_element.ensures.test ∙ c.if-not-is_element.false) c.skip.new.self more (sym c.is_fresh.ensures.fresh ∙ c.if-is_fresh.false) (sym c.is_same.ensures.test ∙ c.if-is_same.true) skipped
    (omega arith))

pub returns-clause-found : goal.returns-clause-found
returns-clause-found g c =
    let from = reading g.T.Starts.starts c.args.sources.now in
    let kept = g.B.Snapshots.kept c.args.board.now in
    let walk = c.args.walk.now in
    let more : ℕ = 0 in
    on_ok c.enter-2.result (HasEntered from walk c.enter-2.new.self c.args.key false) (GoesOn from kept walk 0 c.enter-2.new.self more) c.enter-2.ensures.entered
    (λ entered held all most at. enters from kept held all most (sound from.table) walk 0 at c.root-root.ensures.document.distinct walk c.enter-2.new.self c.args.key false (stops_left walk) more
    (other_entering from kept held all most (sound from.table) c.root-root.ensures.document.distinct walk 0 at c.requires.off c.args.key c.requires.link
    (sym c.is_element.ensures.test ∙ c.if-not-is_element.false) more (sym c.is_fresh.ensures.fresh ∙ c.if-is_fresh.false) (sym c.is_same.ensures.test ∙ c.if-is_same.false)
    (omega arith))
    c.requires.link refl refl refl refl refl entered)
