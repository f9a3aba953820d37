use Rattle.reading.proofs.Following.{takes_shorter}
use Rattle.css_values.specs.Parts.{solid, after_comma_at}
use Rattle.css_values.specs.Descriptors.{bounds_at}
use Rattle.css_values.proofs.Listing.{Lists-start, Lists-more, Lists-read}
use Rattle.css_values.proofs.Shortening.{more_bounds_takes}
use Rattle.css_values.proofs.descriptors.all_bounds.Goals as goal

pub pieces-init : goal.pieces-init
pieces-init c = Lists-start (after_comma_at bounds_at) c.args.first (solid c.args.tokens.now) _ _ c.new-all.ensures.empty c.in_ok-push.ensures.ok

pub pieces-smaller : goal.pieces-smaller
pieces-smaller c = takes_shorter (after_comma_at bounds_at) more_bounds_takes (solid c.pieces.rest.now) _ c.in-Some.ensures

pub pieces-preserved : goal.pieces-preserved
pieces-preserved c = Lists-more (after_comma_at bounds_at) c.args.first (solid c.args.tokens.now) _ _ _ c.in-Some.entry _ c.pieces.invariant c.in-Some.ensures c.in_ok-push-2.ensures.ok

pub returns-clause-all : goal.returns-clause-all
returns-clause-all c = (Lists-read (after_comma_at bounds_at) c.args.first (solid c.args.tokens.now) (takes_shorter (after_comma_at bounds_at) more_bounds_takes) _ _ c.pieces.invariant c.in_default.ensures).0

pub returns-clause-rest : goal.returns-clause-rest
returns-clause-rest c = (Lists-read (after_comma_at bounds_at) c.args.first (solid c.args.tokens.now) (takes_shorter (after_comma_at bounds_at) more_bounds_takes) _ _ c.pieces.invariant c.in_default.ensures).1
