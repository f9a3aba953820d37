use Rattle.std.proofs.Common.{◌≡◌, take}
use Rattle.selector_match.proofs.copies.+copies.Given as goal

abbrev pub invariant-copy_of_compound-loop-simple : goal.invariant-copy_of_compound-loop-simple
invariant-copy_of_compound-loop-simple l = l.simples ≡ take l.simple-index l.simple-items

abbrev pub invariant-copies_of-loop-compound : goal.invariant-copies_of-loop-compound
invariant-copies_of-loop-compound l = l.copies ≡ take l.compound-index l.compounds
