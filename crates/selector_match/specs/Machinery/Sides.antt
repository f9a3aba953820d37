-- What the flags of positions and of attribute selectors choose.
use Rattle.std.specs.Prelude.{Bool, true, false}
use Rattle.selector_match.specs.declared.case.Case.{Case}
use Rattle.selector_match.specs.declared.case.Case.TheVariants.{Counts, Aside}
use Rattle.selector_match.specs.declared.side.Side.{Side}
use Rattle.selector_match.specs.declared.side.Side.TheVariants.{Earlier, Later}

-- the siblings after an element
abbrev pub is_later : Side → Bool
is_later Earlier = false
is_later Later = true

-- ASCII case does not count
abbrev pub is_aside : Case → Bool
is_aside Counts = false
is_aside Aside = true
