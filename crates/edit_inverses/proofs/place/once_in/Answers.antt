use Rattle.std.proofs.Common.{sym, arith}
use Rattle.edit_inverses.proofs.LedPaths.{below_within, in_before, in_behind, in_beside}
use Rattle.edit_inverses.proofs.place.once_in.Goals as goal

pub returns-in_default-position_below : goal.returns-in_default-position_below
returns-in_default-position_below c =
    record { path = in_beside c.args.come.now c.in-Some.parent.now c.args.path.now c.in_ok-steps.steps.items c.in-Some.index.now c.in_ok-steps.ensures.items c.in-Some.ensures.cases.0 (sym c.in_default-position_below.ensures) }

pub returns-then-position-index : goal.returns-then-position-index
returns-then-position-index c =
    record { path = in_before c.args.come.now c.in-Some.parent.now c.args.path.now c.in_ok-steps.steps.items c.in-Some.index.now c.in_ok-steps.ensures.items c.in-Some.ensures.cases.0 c.in-Some-position_below.position (sym c.in-Some-position_below.ensures) c.if-position-index.true }

pub index_mut-requires : goal.index_mut-requires
index_mut-requires c = omega (arith, c.in_ok-steps.ensures.len, below_within c.in-Some.parent.now c.args.path.now c.in-Some-position_below.position (sym c.in-Some-position_below.ensures))

pub returns : goal.returns
returns c =
    record { path = in_behind c.args.come.now c.in-Some.parent.now c.args.path.now c.in_ok-steps.steps.items c.in-Some.index.now c.in_ok-steps.ensures.items c.in-Some.ensures.cases.0 c.in-Some-position_below.position (sym c.in-Some-position_below.ensures) c.if-position-index.false }
