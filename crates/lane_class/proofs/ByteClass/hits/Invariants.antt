use Rattle.std.proofs.Common.{◌≡◌, map, take}
use Rattle.lane_class.specs.Ranges.{is_in}
use Rattle.lane_class.proofs.LaneLaws.{flag}
use Rattle.lane_class.proofs.ByteClass.hits.Given as goal

abbrev pub invariant-loop-first : goal.invariant-loop-first
invariant-loop-first l = l.inside ≡ map (λ x. flag (is_in (take l.first-index l.first-items) x)) l.lanes
