use Rattle.reading.proofs.Following.{takes_shorter}
use Rattle.reading.proofs.Runs.{Goes-start, Goes-more, Goes-read}
use Rattle.css_values.specs.Parts.{solid}
use Rattle.css_values.specs.Contents.{item_at}
use Rattle.css_values.proofs.Shortening.{item_takes}
use Rattle.css_values.proofs.contents.items.Goals as goal

pub pieces-init : goal.pieces-init
pieces-init c = rw c.new-items.ensures.empty (Goes-start _ (solid c.args.tokens.now))

pub pieces-smaller : goal.pieces-smaller
pieces-smaller c = let gives = rw c.in-Some.is at c.in_ok-entry.ensures in takes_shorter item_at item_takes (solid c.pieces.rest.now) _ gives

pub pieces-preserved : goal.pieces-preserved
pieces-preserved c = let gives = rw c.in-Some.is at c.in_ok-entry.ensures in rw c.in_ok-push.ensures.ok (Goes-more _ _ _ _ c.in-Some.entry _ c.pieces.invariant gives)

pub returns : goal.returns
returns c = let gives = rw c.in_default.is at c.in_ok-entry.ensures in Goes-read item_at (takes_shorter item_at item_takes) _ _ _ c.pieces.invariant gives
