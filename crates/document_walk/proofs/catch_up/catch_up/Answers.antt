use Rattle.std.proofs.Common.{◌+◌, length, subst}
use Rattle.document_walk.specs.Catching.{reading}
use Rattle.document_walk.specs.CatchingUp.{AreAllAmong, AreOfElements, CoversAll, IsWithinBudget, IsWithinElements}
use Rattle.document_walk.proofs.catch_up.catch_up.Goals as goal

pub returns-in_err-go-clause-most : goal.returns-in_err-go-clause-most
returns-in_err-go-clause-most g c =
    let from = reading g.T.Starts.starts c.args.sources.now in
    let kept = g.B.Snapshots.kept c.args.board.now in
    subst (λ stops. IsWithinBudget from kept stops c.args.steps.now c.go.new.steps) c.in_ok-walk.ensures.stops c.go.ensures.most

pub returns-in_err-go-clause-whole : goal.returns-in_err-go-clause-whole
returns-in_err-go-clause-whole g c =
    let from = reading g.T.Starts.starts c.args.sources.now in
    let kept = g.B.Snapshots.kept c.args.board.now in
    subst (λ stops. IsWithinElements from kept stops c.args.steps.now c.go.new.steps) c.in_ok-walk.ensures.stops c.go.ensures.whole

pub returns-clause-covers : goal.returns-clause-covers
returns-clause-covers g c =
    let from = reading g.T.Starts.starts c.args.sources.now in
    let kept = g.B.Snapshots.kept c.args.board.now in
    subst (λ stops. CoversAll from kept stops c.go.new.walk.told) c.in_ok-walk.ensures.stops c.in_ok-go.ensures.covers

pub returns-clause-among : goal.returns-clause-among
returns-clause-among g c =
    let from = reading g.T.Starts.starts c.args.sources.now in
    let kept = g.B.Snapshots.kept c.args.board.now in
    subst (λ stops. AreAllAmong from kept stops c.go.new.walk.told) c.in_ok-walk.ensures.stops c.in_ok-go.ensures.among

pub returns-clause-few : goal.returns-clause-few
returns-clause-few g c =
    let from = reading g.T.Starts.starts c.args.sources.now in
    let kept = g.B.Snapshots.kept c.args.board.now in
    subst (λ stops. IsWithinBudget from kept stops c.args.steps.now (c.go.new.steps + length c.go.new.walk.told)) c.in_ok-walk.ensures.stops c.in_ok-go.ensures.few

pub returns-clause-most : goal.returns-clause-most
returns-clause-most g c =
    let from = reading g.T.Starts.starts c.args.sources.now in
    let kept = g.B.Snapshots.kept c.args.board.now in
    subst (λ stops. IsWithinBudget from kept stops c.args.steps.now c.go.new.steps) c.in_ok-walk.ensures.stops c.go.ensures.most

pub returns-clause-count : goal.returns-clause-count
returns-clause-count g c =
    let from = reading g.T.Starts.starts c.args.sources.now in
    let kept = g.B.Snapshots.kept c.args.board.now in
    subst (λ stops. AreOfElements from kept stops c.go.new.walk.told) c.in_ok-walk.ensures.stops c.in_ok-go.ensures.count

pub returns-clause-whole : goal.returns-clause-whole
returns-clause-whole g c =
    let from = reading g.T.Starts.starts c.args.sources.now in
    let kept = g.B.Snapshots.kept c.args.board.now in
    subst (λ stops. IsWithinElements from kept stops c.args.steps.now c.go.new.steps) c.in_ok-walk.ensures.stops c.go.ensures.whole

pub returns-clause-found : goal.returns-clause-found
returns-clause-found g c =
    let from = reading g.T.Starts.starts c.args.sources.now in
    let kept = g.B.Snapshots.kept c.args.board.now in
    subst (λ stops. IsWithinBudget from kept stops 0 (length c.go.new.walk.told)) c.in_ok-walk.ensures.stops c.in_ok-go.ensures.found
