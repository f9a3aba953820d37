-- Texts joined one after the other.
use Rattle.std.proofs.Common.{◌++◌, List, Bool, true, false}
use Rattle.std.specs.List.{flat_map, join_by}

module _ {X A : Type 0} (text : X → List A) (between : List A) where
  -- what is joined from the first on, or behind others
  abbrev pub joined_from : Bool → List X → List A
  joined_from true xs = join_by text between xs
  joined_from false xs = flat_map (λ x. between ++ text x) xs
