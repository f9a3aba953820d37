use Rattle.std.proofs.Common.{◌+◌, length}
use Rattle.document_walk.specs.Catching.{reading}
use Rattle.started_walk.proofs.WalkLemmas.{counted, finds, stands, whole, within}
use Rattle.started_walk.proofs.walk.turned_walk.Goals as goal

pub catch_up-requires : goal.catch_up-requires
catch_up-requires g c =
    let from = reading g.T.Starts.starts c.args.sources.now in
    let kept = g.B.Snapshots.kept c.args.board.now in
    record { stands = stands from kept c.args.stops.now c.requires.stands c.in_ok-from.from.items c.in_ok-from.ensures.items }

pub returns-in_err-changes-clause-most : goal.returns-in_err-changes-clause-most
returns-in_err-changes-clause-most g c =
    let from = reading g.T.Starts.starts c.args.sources.now in
    let kept = g.B.Snapshots.kept c.args.board.now in
    λ walk. within from kept c.args.stops.now walk c.in_ok-from.from.items c.in_ok-from.ensures.items c.args.steps.now c.catch_up.new.steps c.catch_up.ensures.most

pub returns-in_err-changes-clause-whole : goal.returns-in_err-changes-clause-whole
returns-in_err-changes-clause-whole g c =
    let from = reading g.T.Starts.starts c.args.sources.now in
    let kept = g.B.Snapshots.kept c.args.board.now in
    whole from kept c.args.stops.now c.requires.stands c.in_ok-from.from.items c.in_ok-from.ensures.items c.args.steps.now c.catch_up.new.steps c.catch_up.ensures.whole

pub returns-clause-finds : goal.returns-clause-finds
returns-clause-finds g c =
    let from = reading g.T.Starts.starts c.args.sources.now in
    let kept = g.B.Snapshots.kept c.args.board.now in
    λ walk.
    finds from kept c.args.stops.now walk c.in_ok-from.from.items c.in_ok-from.ensures.items c.in_ok-changes.field-0.changes c.in_ok-changes.ensures.covers c.in_ok-changes.ensures.among

pub returns-clause-count : goal.returns-clause-count
returns-clause-count g c =
    let from = reading g.T.Starts.starts c.args.sources.now in
    let kept = g.B.Snapshots.kept c.args.board.now in
    counted from kept c.args.stops.now c.requires.stands c.in_ok-from.from.items c.in_ok-from.ensures.items c.in_ok-changes.field-0.changes c.in_ok-changes.ensures.count

pub returns-clause-few : goal.returns-clause-few
returns-clause-few g c =
    let from = reading g.T.Starts.starts c.args.sources.now in
    let kept = g.B.Snapshots.kept c.args.board.now in
    λ walk.
    within from kept c.args.stops.now walk c.in_ok-from.from.items c.in_ok-from.ensures.items c.args.steps.now (c.catch_up.new.steps + length c.in_ok-changes.field-0.changes) c.in_ok-changes.ensures.few

pub returns-clause-found : goal.returns-clause-found
returns-clause-found g c =
    let from = reading g.T.Starts.starts c.args.sources.now in
    let kept = g.B.Snapshots.kept c.args.board.now in
    λ walk. within from kept c.args.stops.now walk c.in_ok-from.from.items c.in_ok-from.ensures.items 0 (length c.in_ok-changes.field-0.changes) c.in_ok-changes.ensures.found

pub returns-clause-most : goal.returns-clause-most
returns-clause-most g c =
    let from = reading g.T.Starts.starts c.args.sources.now in
    let kept = g.B.Snapshots.kept c.args.board.now in
    λ walk. within from kept c.args.stops.now walk c.in_ok-from.from.items c.in_ok-from.ensures.items c.args.steps.now c.catch_up.new.steps c.catch_up.ensures.most

pub returns-clause-whole : goal.returns-clause-whole
returns-clause-whole g c =
    let from = reading g.T.Starts.starts c.args.sources.now in
    let kept = g.B.Snapshots.kept c.args.board.now in
    whole from kept c.args.stops.now c.requires.stands c.in_ok-from.from.items c.in_ok-from.ensures.items c.args.steps.now c.catch_up.new.steps c.catch_up.ensures.whole
