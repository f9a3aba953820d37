-- Two lists of stops that have nothing in common (our own).
use Rattle.std.specs.Prelude.{Bool, List, ◌++◌, if◌then◌else◌}
use Rattle.merged_walk.specs.declared.stop.Stop.{Stop}

-- one of them, and then the other
abbrev pub parted : Bool → List Stop → List Stop → List Stop
parted is_first stops others = if is_first then stops ++ others else others ++ stops
