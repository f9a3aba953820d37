use Rattle.std.proofs.Common.{ℕ, ◌+◌, Some, None, ap, ◌∙◌, arith}
use Rattle.std.specs.List.{position}
use Rattle.std.proofs.lemmas.List.{take_rest}
use lib.Count.{count_trailing_zeros}
use Rattle.lane_class.specs.Ranges.{is_outside}
use Rattle.lane_class.proofs.PlaceLaws.{found_behind, found_here, none_further}
use Rattle.lane_class.proofs.first_not_in.Goals as goal

pub returns-then-misses-ne0 : goal.returns-then-misses-ne0
returns-then-misses-ne0 c =
    ap (λ (mask : ℕ). Some (c.far.start + count_trailing_zeros 64 mask)) (c.misses-misses.ensures)
    ∙ found_here (is_outside c.args.class.now) c.args.bytes.now c.far.start 32 (omega arith) (omega arith) c.far.invariant.none (omega (arith, c.misses-misses.ensures))

pub far-preserved : goal.far-preserved
far-preserved c = record { within = omega arith; none = none_further (is_outside c.args.class.now) c.args.bytes.now c.far.start 32 (omega arith) (omega (arith, c.misses-misses.ensures)) c.far.invariant.none }

pub returns-in-Some : goal.returns-in-Some
returns-in-Some c =
    found_behind (is_outside c.args.class.now) c.args.bytes.now c.far.start (Some c.in-Some.behind) c.far.invariant.within c.far.invariant.none
    (c.in-Some.ensures ∙ ap (position (is_outside c.args.class.now)) (take_rest c.args.bytes.now c.far.start))

pub returns-in-None : goal.returns-in-None
returns-in-None c =
    found_behind (is_outside c.args.class.now) c.args.bytes.now c.far.start None c.far.invariant.within c.far.invariant.none
    (c.in-None.ensures ∙ ap (position (is_outside c.args.class.now)) (take_rest c.args.bytes.now c.far.start))
