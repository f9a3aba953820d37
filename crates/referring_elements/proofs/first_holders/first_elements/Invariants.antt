use Rattle.std.proofs.Common.{◌≡◌, ◌-◌, ℕ, List, length, take}
use Rattle.forest.specs.Forest.{labels}
use Rattle.forest.specs.Keys.{keys}
use Rattle.forest.specs.Order.{place_of}
use Rattle.forest.specs.Spots.{IsLive}
use Rattle.referring_elements.specs.ElementsById.{element_of}
use Rattle.referring_elements.proofs.FirstHolderLemmas.{first_in}
use Rattle.referring_elements.proofs.first_holders.first_elements.Given as goal

abbrev pub invariant-walk : goal.invariant-walk
invariant-walk l = record {
  live : IsLive l.arena.tree l.at;
  first : (id : List ℕ) → element_of l.elements id ≡ first_in (take (place_of l.arena.tree l.at) (labels l.arena.tree)) id;
}

abbrev pub decreases-walk : goal.decreases-walk
decreases-walk l = length (keys l.arena.tree) - place_of l.arena.tree l.at
