use Rattle.std.proofs.Common.{arith}
use Rattle.lane_class.specs.Ranges.{is_in}
use Rattle.lane_class.proofs.LaneLaws.{missed}
use Rattle.lane_class.proofs.ByteClass.misses.Goals as goal

pub overflow_sub-result : goal.overflow_sub-result
overflow_sub-result c = let all = missed (is_in c.args.self.now) c.args.lanes c.fits-lanes.0 in omega (arith, all, c.hits.ensures)

pub returns : goal.returns
returns c = let all = missed (is_in c.args.self.now) c.args.lanes c.fits-lanes.0 in omega (arith, all, c.hits.ensures)
