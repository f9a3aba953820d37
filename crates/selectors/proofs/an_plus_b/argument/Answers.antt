use Rattle.selectors.proofs.Sourcing.{Sources-more, Sources-read}
use Rattle.selectors.proofs.an_plus_b.argument.Goals as goal

pub pieces-preserved : goal.pieces-preserved
pieces-preserved c = Sources-more c.args.text.now c.args.tokens.now _ _ _ _ _ c.pieces.invariant c.in-Some.ensures (rw (← c.slice.ensures) c.in_ok-extend_from_slice.ensures.items)

pub returns-clause-text : goal.returns-clause-text
returns-clause-text c = (Sources-read c.args.text.now c.args.tokens.now _ _ c.pieces.invariant c.in_default.ensures).0

pub returns-clause-rest : goal.returns-clause-rest
returns-clause-rest c = (Sources-read c.args.text.now c.args.tokens.now _ _ c.pieces.invariant c.in_default.ensures).1
