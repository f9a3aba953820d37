use Rattle.std.proofs.Common.{ℕ, arith, refl, sym, ◌∙◌, true, false}
use Rattle.surroundings.proofs.Said.{sound}
use Rattle.document_walk.specs.Catching.{reading}
use Rattle.document_walk.proofs.BeginningLemmas.{at_more}
use Rattle.document_walk.proofs.ChoiceLemmas.{anew_entering, can_open, inside_entering, link_there, past_turn, text_turn}
use Rattle.document_walk.proofs.StackLemmas.{last_first}
use Rattle.document_walk.proofs.StandingLemmas.{entering-paid, enters, still}
use Rattle.document_walk.proofs.turning.turn_at_stop.Goals as goal

pub returns-in-Past-clause-next : goal.returns-in-Past-clause-next
returns-in-Past-clause-next g c = λ held all most at.
    let from = reading g.T.Starts.starts c.args.sources.now in
    let walk = c.args.walk.now in
    past_turn from (g.B.Snapshots.kept c.args.board.now) held all most (sound from.table) c.root-root.ensures.document.distinct walk c.args.steps.now at
    c.in-Some.stop _ (last_first walk.stops.items c.pop.new.self.items c.in-Some.stop c.in-Some.ensures.items) c.requires.at
    (record { stack = walk.stack; stops = c.pop.new.self; link = walk.link; around = walk.around; told = walk.told; changes = walk.changes }) refl refl refl refl refl c.in-Past.is refl

pub returns-in-Past-clause-most : goal.returns-in-Past-clause-most
returns-in-Past-clause-most g c = λ held all most at.
    let from = reading g.T.Starts.starts c.args.sources.now in
    still from (g.B.Snapshots.kept c.args.board.now) held all most (sound from.table) c.args.walk.now c.args.steps.now at

pub returns-in_ok-enter-in-Inside-clause-next : goal.returns-in_ok-enter-in-Inside-clause-next
returns-in_ok-enter-in-Inside-clause-next g c = λ held all most at.
    let from = reading g.T.Starts.starts c.args.sources.now in
    let kept = g.B.Snapshots.kept c.args.board.now in
    let walk = c.args.walk.now in
    let taken = last_first walk.stops.items c.pop.new.self.items c.in-Some.stop c.in-Some.ensures.items in
    let more = c.enter.new.steps in
    enters from kept held all most (sound from.table) walk c.args.steps.now at c.root-root.ensures.document.distinct
    (record { stack = walk.stack; stops = c.pop.new.self; link = walk.link; around = walk.around; told = walk.told; changes = walk.changes }) c.enter.new.self c.in-Some-link.key _ _ more
    (inside_entering from kept held all most (sound from.table) c.root-root.ensures.document.distinct walk c.args.steps.now at c.in-Some.stop _ taken c.requires.at more c.in-Inside.is (at_more more c.args.steps.now c.enter.ensures.steps))
    c.in-Some-link.is refl refl refl refl refl c.in_ok-enter-in-Inside.ensures.entered

pub returns-in_ok-enter-in-Anew-clause-next : goal.returns-in_ok-enter-in-Anew-clause-next
returns-in_ok-enter-in-Anew-clause-next g c = λ held all most at.
    let from = reading g.T.Starts.starts c.args.sources.now in
    let kept = g.B.Snapshots.kept c.args.board.now in
    let walk = c.args.walk.now in
    let taken = last_first walk.stops.items c.pop.new.self.items c.in-Some.stop c.in-Some.ensures.items in
    let more = c.enter-then-is_element.new.steps in
    enters from kept held all most (sound from.table) walk c.args.steps.now at c.root-root.ensures.document.distinct
    (record { stack = walk.stack; stops = c.pop.new.self; link = walk.link; around = walk.around; told = walk.told; changes = walk.changes }) c.enter-then-is_element.new.self c.in-Some-link.key _ _ more
    (anew_entering from kept held all most (sound from.table) c.root-root.ensures.document.distinct walk c.args.steps.now at c.in-Some.stop _ taken c.requires.at c.in-Some-link.key more c.in-Anew.is c.in-Some-link.is
    (sym c.is_element.ensures.test ∙ c.if-is_element.true) c.enter-then-is_element.ensures.steps)
    c.in-Some-link.is refl refl refl refl refl c.in_ok-enter-in-Anew.ensures.entered

pub returns-else-is_element-clause-next : goal.returns-else-is_element-clause-next
returns-else-is_element-clause-next g c = λ held all most at.
    let from = reading g.T.Starts.starts c.args.sources.now in
    let walk = c.args.walk.now in
    text_turn from (g.B.Snapshots.kept c.args.board.now) held all most (sound from.table) c.root-root.ensures.document.distinct walk c.args.steps.now at
    c.in-Some.stop _ (last_first walk.stops.items c.pop.new.self.items c.in-Some.stop c.in-Some.ensures.items) c.requires.at
    (record { stack = walk.stack; stops = c.pop.new.self; link = c.next_sibling-walk.result; around = walk.around; told = walk.told; changes = walk.changes }) refl refl refl refl refl
    c.in-Some-link.key c.in-Anew.is c.in-Some-link.is c.next_sibling-walk.ensures.link (sym c.is_element.ensures.test ∙ c.if-is_element.false)

pub returns-in_default-link-clause-next : goal.returns-in_default-link-clause-next
returns-in_default-link-clause-next g c = λ held all most at.
    let from = reading g.T.Starts.starts c.args.sources.now in
    let kept = g.B.Snapshots.kept c.args.board.now in
    let walk = c.args.walk.now in
    let taken = last_first walk.stops.items c.pop.new.self.items c.in-Some.stop c.in-Some.ensures.items in
    past_turn from kept held all most (sound from.table) c.root-root.ensures.document.distinct walk c.args.steps.now at c.in-Some.stop _ taken c.requires.at
    (record { stack = walk.stack; stops = c.pop.new.self; link = walk.link; around = walk.around; told = walk.told; changes = walk.changes }) refl refl refl refl refl
    (link_there from kept held all most (sound from.table) c.root-root.ensures.document.distinct walk c.args.steps.now at c.in-Some.stop _ taken c.requires.at c.in_default-link.is) refl

pub enter-requires-clause-opens : goal.enter-requires-clause-opens
enter-requires-clause-opens g c =
    let from = reading g.T.Starts.starts c.args.sources.now in
    let somewhere = c.requires.somewhere in
    can_open from (g.B.Snapshots.kept c.args.board.now) somewhere.held somewhere.all somewhere.most (sound from.table) c.root-root.ensures.document.distinct c.args.walk.now c.args.steps.now somewhere.at c.in-Some-link.key c.in-Some-link.is

pub returns-in_err-enter-in-Inside-clause-most : goal.returns-in_err-enter-in-Inside-clause-most
returns-in_err-enter-in-Inside-clause-most g c = λ held all most at.
    let from = reading g.T.Starts.starts c.args.sources.now in
    let kept = g.B.Snapshots.kept c.args.board.now in
    let walk = c.args.walk.now in
    let taken = last_first walk.stops.items c.pop.new.self.items c.in-Some.stop c.in-Some.ensures.items in
    let more = c.enter.new.steps in
    entering-paid from kept held all most (sound from.table) walk c.args.steps.now at false _ more
    (inside_entering from kept held all most (sound from.table) c.root-root.ensures.document.distinct walk c.args.steps.now at c.in-Some.stop _ taken c.requires.at more c.in-Inside.is (at_more more c.args.steps.now c.enter.ensures.steps))

pub returns-in_ok-enter-in-Inside-clause-most : goal.returns-in_ok-enter-in-Inside-clause-most
returns-in_ok-enter-in-Inside-clause-most g c = λ held all most at.
    let from = reading g.T.Starts.starts c.args.sources.now in
    let kept = g.B.Snapshots.kept c.args.board.now in
    let walk = c.args.walk.now in
    let taken = last_first walk.stops.items c.pop.new.self.items c.in-Some.stop c.in-Some.ensures.items in
    let more = c.enter.new.steps in
    entering-paid from kept held all most (sound from.table) walk c.args.steps.now at false _ more
    (inside_entering from kept held all most (sound from.table) c.root-root.ensures.document.distinct walk c.args.steps.now at c.in-Some.stop _ taken c.requires.at more c.in-Inside.is (at_more more c.args.steps.now c.enter.ensures.steps))

pub returns-in_err-enter-in-Anew-clause-most : goal.returns-in_err-enter-in-Anew-clause-most
returns-in_err-enter-in-Anew-clause-most g c = λ held all most at.
    let from = reading g.T.Starts.starts c.args.sources.now in
    let kept = g.B.Snapshots.kept c.args.board.now in
    let walk = c.args.walk.now in
    let taken = last_first walk.stops.items c.pop.new.self.items c.in-Some.stop c.in-Some.ensures.items in
    let more = c.enter-then-is_element.new.steps in
    entering-paid from kept held all most (sound from.table) walk c.args.steps.now at true _ more
    (anew_entering from kept held all most (sound from.table) c.root-root.ensures.document.distinct walk c.args.steps.now at c.in-Some.stop _ taken c.requires.at c.in-Some-link.key more c.in-Anew.is c.in-Some-link.is
    (sym c.is_element.ensures.test ∙ c.if-is_element.true) c.enter-then-is_element.ensures.steps)

pub returns-in_ok-enter-in-Anew-clause-most : goal.returns-in_ok-enter-in-Anew-clause-most
returns-in_ok-enter-in-Anew-clause-most g c = λ held all most at.
    let from = reading g.T.Starts.starts c.args.sources.now in
    let kept = g.B.Snapshots.kept c.args.board.now in
    let walk = c.args.walk.now in
    let taken = last_first walk.stops.items c.pop.new.self.items c.in-Some.stop c.in-Some.ensures.items in
    let more = c.enter-then-is_element.new.steps in
    entering-paid from kept held all most (sound from.table) walk c.args.steps.now at true _ more
    (anew_entering from kept held all most (sound from.table) c.root-root.ensures.document.distinct walk c.args.steps.now at c.in-Some.stop _ taken c.requires.at c.in-Some-link.key more c.in-Anew.is c.in-Some-link.is
    (sym c.is_element.ensures.test ∙ c.if-is_element.true) c.enter-then-is_element.ensures.steps)

pub returns-else-is_element-clause-most : goal.returns-else-is_element-clause-most
returns-else-is_element-clause-most g c = λ held all most at.
    let from = reading g.T.Starts.starts c.args.sources.now in
    let kept = g.B.Snapshots.kept c.args.board.now in
    let walk = c.args.walk.now in
    still from kept held all most (sound from.table) walk c.args.steps.now at

pub returns-in_default-link-clause-most : goal.returns-in_default-link-clause-most
returns-in_default-link-clause-most g c = λ held all most at.
    let from = reading g.T.Starts.starts c.args.sources.now in
    let kept = g.B.Snapshots.kept c.args.board.now in
    let walk = c.args.walk.now in
    still from kept held all most (sound from.table) walk c.args.steps.now at

-- The same with no step counted.

pub returns-in-Past-clause-found : goal.returns-in-Past-clause-found
returns-in-Past-clause-found g c = λ held all most at.
    let from = reading g.T.Starts.starts c.args.sources.now in
    let walk = c.args.walk.now in
    past_turn from (g.B.Snapshots.kept c.args.board.now) held all most (sound from.table) c.root-root.ensures.document.distinct walk 0 at
    c.in-Some.stop _ (last_first walk.stops.items c.pop.new.self.items c.in-Some.stop c.in-Some.ensures.items) c.requires.at
    (record { stack = walk.stack; stops = c.pop.new.self; link = walk.link; around = walk.around; told = walk.told; changes = walk.changes }) refl refl refl refl refl c.in-Past.is refl

pub returns-in_ok-enter-in-Inside-clause-found : goal.returns-in_ok-enter-in-Inside-clause-found
returns-in_ok-enter-in-Inside-clause-found g c = λ held all most at.
    let from = reading g.T.Starts.starts c.args.sources.now in
    let kept = g.B.Snapshots.kept c.args.board.now in
    let walk = c.args.walk.now in
    let taken = last_first walk.stops.items c.pop.new.self.items c.in-Some.stop c.in-Some.ensures.items in
    let more : ℕ = 0 in
    enters from kept held all most (sound from.table) walk 0 at c.root-root.ensures.document.distinct
    (record { stack = walk.stack; stops = c.pop.new.self; link = walk.link; around = walk.around; told = walk.told; changes = walk.changes }) c.enter.new.self c.in-Some-link.key _ _ more
    (inside_entering from kept held all most (sound from.table) c.root-root.ensures.document.distinct walk 0 at c.in-Some.stop _ taken c.requires.at more c.in-Inside.is (omega arith))
    c.in-Some-link.is refl refl refl refl refl c.in_ok-enter-in-Inside.ensures.entered

pub returns-in_ok-enter-in-Anew-clause-found : goal.returns-in_ok-enter-in-Anew-clause-found
returns-in_ok-enter-in-Anew-clause-found g c = λ held all most at.
    let from = reading g.T.Starts.starts c.args.sources.now in
    let kept = g.B.Snapshots.kept c.args.board.now in
    let walk = c.args.walk.now in
    let taken = last_first walk.stops.items c.pop.new.self.items c.in-Some.stop c.in-Some.ensures.items in
    let more : ℕ = 0 in
    enters from kept held all most (sound from.table) walk 0 at c.root-root.ensures.document.distinct
    (record { stack = walk.stack; stops = c.pop.new.self; link = walk.link; around = walk.around; told = walk.told; changes = walk.changes }) c.enter-then-is_element.new.self c.in-Some-link.key _ _ more
    (anew_entering from kept held all most (sound from.table) c.root-root.ensures.document.distinct walk 0 at c.in-Some.stop _ taken c.requires.at c.in-Some-link.key more c.in-Anew.is c.in-Some-link.is
    (sym c.is_element.ensures.test ∙ c.if-is_element.true) (omega arith))
    c.in-Some-link.is refl refl refl refl refl c.in_ok-enter-in-Anew.ensures.entered

pub returns-else-is_element-clause-found : goal.returns-else-is_element-clause-found
returns-else-is_element-clause-found g c = λ held all most at.
    let from = reading g.T.Starts.starts c.args.sources.now in
    let walk = c.args.walk.now in
    text_turn from (g.B.Snapshots.kept c.args.board.now) held all most (sound from.table) c.root-root.ensures.document.distinct walk 0 at
    c.in-Some.stop _ (last_first walk.stops.items c.pop.new.self.items c.in-Some.stop c.in-Some.ensures.items) c.requires.at
    (record { stack = walk.stack; stops = c.pop.new.self; link = c.next_sibling-walk.result; around = walk.around; told = walk.told; changes = walk.changes }) refl refl refl refl refl
    c.in-Some-link.key c.in-Anew.is c.in-Some-link.is c.next_sibling-walk.ensures.link (sym c.is_element.ensures.test ∙ c.if-is_element.false)

pub returns-in_default-link-clause-found : goal.returns-in_default-link-clause-found
returns-in_default-link-clause-found g c = λ held all most at.
    let from = reading g.T.Starts.starts c.args.sources.now in
    let kept = g.B.Snapshots.kept c.args.board.now in
    let walk = c.args.walk.now in
    let taken = last_first walk.stops.items c.pop.new.self.items c.in-Some.stop c.in-Some.ensures.items in
    past_turn from kept held all most (sound from.table) c.root-root.ensures.document.distinct walk 0 at c.in-Some.stop _ taken c.requires.at
    (record { stack = walk.stack; stops = c.pop.new.self; link = walk.link; around = walk.around; told = walk.told; changes = walk.changes }) refl refl refl refl refl
    (link_there from kept held all most (sound from.table) c.root-root.ensures.document.distinct walk 0 at c.in-Some.stop _ taken c.requires.at c.in_default-link.is) refl
