use Rattle.std.proofs.Common.{◌≡◌, ◌++◌, flat_map, take}
use Rattle.kept_elements.specs.Machinery.Renewals.{again_by, read_in}
use Rattle.kept_elements.proofs.again.put_all_again.Given as goal

abbrev pub invariant-loop-key : goal.invariant-loop-key
invariant-loop-key l = record { made : l.records ≡ l.fn.records ++ flat_map (again_by (read_in l.held)) (take l.key-index l.keys) }
