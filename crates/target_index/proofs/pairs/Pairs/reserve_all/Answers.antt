use Rattle.std.proofs.Common.{◌≤◌, arith, length, rules}
use Rattle.target_index.proofs.ReservedLemmas.{room_for_counts}
use Rattle.target_index.proofs.pairs.Pairs.reserve_all.Goals as goal

pub returns-clause-room : goal.returns-clause-room
returns-clause-room c =
    room_for_counts c.args.counts.now c.loop-place.self (λ place counted below is. c.loop-place.invariant.made place counted (let all : length c.args.counts.now ≤ c.loop-place.place = search rules in omega (arith, below, all)) is)
