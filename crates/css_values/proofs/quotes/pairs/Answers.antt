use Rattle.reading.proofs.Following.{takes_shorter}
use Rattle.reading.proofs.Runs.{Goes-start, Goes-more, Goes-read}
use Rattle.css_values.specs.Parts.{solid}
use Rattle.css_values.specs.Contents.{pair_at}
use Rattle.css_values.proofs.Shortening.{pair_takes}
use Rattle.css_values.proofs.quotes.pairs.Goals as goal

pub pieces-init : goal.pieces-init
pieces-init c = rw c.new-pairs.ensures.empty (Goes-start _ (solid c.args.tokens.now))

pub pieces-smaller : goal.pieces-smaller
pieces-smaller c = let gives = rw c.in-Some.is at c.in_ok-entry.ensures in takes_shorter pair_at pair_takes (solid c.pieces.rest.now) _ gives

pub pieces-preserved : goal.pieces-preserved
pieces-preserved c = let gives = rw c.in-Some.is at c.in_ok-entry.ensures in rw c.in_ok-push.ensures.ok (Goes-more _ _ _ _ c.in-Some.entry _ c.pieces.invariant gives)

pub returns : goal.returns
returns c = let gives = rw c.in_default.is at c.in_ok-entry.ensures in Goes-read pair_at (takes_shorter pair_at pair_takes) _ _ _ c.pieces.invariant gives
