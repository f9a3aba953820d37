use Rattle.std.proofs.lemmas.Int.{to_z-of_z}
use Rattle.reading.proofs.Following.{takes_shorter}
use Rattle.reading.proofs.Runs.{Goes-start, Goes-more, Goes-read}
use Rattle.css_values.specs.Parts.{solid}
use Rattle.css_values.specs.Lists.{counter_op_at}
use Rattle.css_values.proofs.Shortening.{counter_op_takes}
use Rattle.css_values.proofs.counters.counter_op_run.Goals as goal

pub pieces-init : goal.pieces-init
pieces-init c = rw c.new-ops.ensures.empty (Goes-start _ (solid c.args.tokens.now))

pub pieces-smaller : goal.pieces-smaller
pieces-smaller c =
    let fits = c.ranges.missing in
    let gives = simp to_z-of_z at (rw c.in-Some.is at c.in_ok-entry.ensures) in
    takes_shorter (counter_op_at c.args.missing) (counter_op_takes c.args.missing) (solid c.pieces.rest.now) _ gives

pub pieces-preserved : goal.pieces-preserved
pieces-preserved c = let gives = rw c.in-Some.is at c.in_ok-entry.ensures in rw c.in_ok-push.ensures.ok (Goes-more _ _ _ _ c.in-Some.entry _ c.pieces.invariant gives)

pub returns : goal.returns
returns c =
    let fits = c.ranges.missing in
    let goes = simp to_z-of_z at c.pieces.invariant in
    let gives = simp to_z-of_z at (rw c.in_default.is at c.in_ok-entry.ensures) in
    Goes-read (counter_op_at c.args.missing) (takes_shorter (counter_op_at c.args.missing) (counter_op_takes c.args.missing)) _ _ _ goes gives
