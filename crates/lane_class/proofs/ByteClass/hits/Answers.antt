use Rattle.std.proofs.Common.{take, map, ap, ◌∙◌, arith}
use Rattle.std.proofs.lemmas.List.{take_all}
use Rattle.lane_class.specs.Ranges.{is_in}
use Rattle.lane_class.proofs.LaneLaws.{flag, one_more_range, no_range, bits_of_flags}
use Rattle.lane_class.proofs.ByteClass.hits.Goals as goal

pub loop-first-init : goal.loop-first-init
loop-first-init c = no_range c.args.lanes 32 c.fits-lanes.0

pub loop-first-preserved : goal.loop-first-preserved
loop-first-preserved c =
    one_more_range (take c.self.inside.len c.self.inside.ranges) c.loop-first.first-index c.args.lanes c.loop-first.inside c.fits-lanes.0 c.loop-first-test.true c.loop-first.invariant

pub returns : goal.returns
returns c =
    let ranges = take c.self.inside.len c.self.inside.ranges in
    bits_of_flags (is_in c.args.self.now) c.args.lanes c.loop-first.inside (omega (arith, c.fits-lanes.0))
    (c.loop-first.invariant ∙ ap (λ rs. map (λ x. flag (is_in rs x)) c.args.lanes) (take_all c.loop-first.first-index ranges c.loop-first-test.false ∙ c.self.view_is))
