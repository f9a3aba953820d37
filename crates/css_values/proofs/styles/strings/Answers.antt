use Rattle.reading.proofs.Following.{takes_shorter}
use Rattle.reading.proofs.Runs.{Goes-start, Goes-more, Goes-read}
use Rattle.css_values.specs.Parts.{solid, string_at}
use Rattle.css_values.proofs.Shortening.{string_takes}
use Rattle.css_values.proofs.styles.strings.Goals as goal

pub pieces-init : goal.pieces-init
pieces-init c = rw c.new-strings.ensures.empty (Goes-start _ (solid c.args.tokens.now))

pub pieces-smaller : goal.pieces-smaller
pieces-smaller c = takes_shorter string_at string_takes (solid c.pieces.rest.now) _ c.in-Some.ensures

pub pieces-preserved : goal.pieces-preserved
pieces-preserved c = rw (c.in_ok-push.ensures.ok, c.in_ok-duplicate.ensures.same) (Goes-more _ _ _ _ c.in-Some.value.now _ c.pieces.invariant c.in-Some.ensures)

pub returns : goal.returns
returns c = Goes-read string_at (takes_shorter string_at string_takes) _ _ _ c.pieces.invariant c.in_default.ensures
