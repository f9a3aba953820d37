use Rattle.reading.proofs.Following.{takes_shorter}
use Rattle.css_values.specs.Parts.{solid, after_comma_at}
use Rattle.css_values.specs.Descriptors.{weight_at}
use Rattle.css_values.proofs.Listing.{Lists-start, Lists-more, Lists-read}
use Rattle.css_values.proofs.Shortening.{more_weights_takes}
use Rattle.css_values.proofs.descriptors.all_weights.Goals as goal

pub pieces-init : goal.pieces-init
pieces-init c = Lists-start (after_comma_at weight_at) c.args.first (solid c.args.tokens.now) _ _ c.new-all.ensures.empty c.in_ok-push.ensures.ok

pub pieces-smaller : goal.pieces-smaller
pieces-smaller c = let gives = rw c.in-Some.is at c.in_ok-entry.ensures in takes_shorter (after_comma_at weight_at) more_weights_takes (solid c.pieces.rest.now) _ gives

pub pieces-preserved : goal.pieces-preserved
pieces-preserved c = let gives = rw c.in-Some.is at c.in_ok-entry.ensures in Lists-more (after_comma_at weight_at) c.args.first (solid c.args.tokens.now) _ _ _ c.in-Some.entry _ c.pieces.invariant gives c.in_ok-push-2.ensures.ok

pub returns-clause-all : goal.returns-clause-all
returns-clause-all c = let gives = rw c.in_default.is at c.in_ok-entry.ensures in (Lists-read (after_comma_at weight_at) c.args.first (solid c.args.tokens.now) (takes_shorter (after_comma_at weight_at) more_weights_takes) _ _ c.pieces.invariant gives).0

pub returns-clause-rest : goal.returns-clause-rest
returns-clause-rest c = let gives = rw c.in_default.is at c.in_ok-entry.ensures in (Lists-read (after_comma_at weight_at) c.args.first (solid c.args.tokens.now) (takes_shorter (after_comma_at weight_at) more_weights_takes) _ _ c.pieces.invariant gives).1
