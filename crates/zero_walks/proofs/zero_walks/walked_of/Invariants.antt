use Rattle.std.proofs.Common.{◌≡◌, take}
use Rattle.zero_walks.specs.Told.{walked_of}
use Rattle.zero_walks.proofs.zero_walks.walked_of.Given as goal

abbrev pub invariant-loop-key : goal.invariant-loop-key
invariant-loop-key l = record { walked : l.walked.items ≡ walked_of (take l.key-index l.told) }
