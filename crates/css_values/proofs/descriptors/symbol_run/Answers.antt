use Rattle.reading.proofs.Following.{takes_shorter}
use Rattle.reading.proofs.Runs.{Goes-start, Goes-more, Goes-read}
use Rattle.css_values.specs.Parts.{solid, symbol_at}
use Rattle.css_values.proofs.Shortening.{symbol_takes}
use Rattle.css_values.proofs.descriptors.symbol_run.Goals as goal

pub pieces-init : goal.pieces-init
pieces-init c = rw c.new-symbols.ensures.empty (Goes-start _ (solid c.args.tokens.now))

pub pieces-smaller : goal.pieces-smaller
pieces-smaller c = takes_shorter symbol_at symbol_takes (solid c.pieces.rest.now) _ c.in-Some.ensures

pub pieces-preserved : goal.pieces-preserved
pieces-preserved c = rw (c.in_ok-push.ensures.ok, c.in_ok-duplicate.ensures.same) (Goes-more _ _ _ _ c.in-Some.value.now _ c.pieces.invariant c.in-Some.ensures)

pub returns : goal.returns
returns c = Goes-read symbol_at (takes_shorter symbol_at symbol_takes) _ _ _ c.pieces.invariant c.in_default.ensures
