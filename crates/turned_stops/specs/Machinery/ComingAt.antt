-- Whether the tree of a node comes at a stop.
use Rattle.std.specs.Prelude.{ℕ, nat_eq, Bool, true, false, ◌&&◌, Some}
use Rattle.std.specs.Option.{option_eq}
use Rattle.merged_walk.specs.declared.stop.Stop.{Stop}
use Rattle.merged_walk.specs.declared.stop.Way.{Way}
use Rattle.merged_walk.specs.declared.stop.Way.TheVariants.{Past, Inside, Anew}

abbrev pub is_anew : Way → Bool
is_anew Past = false
is_anew Inside = false
is_anew Anew = true

-- the tree of the node of this key comes at the stop
abbrev pub comes_at : ℕ → Stop → Bool
comes_at key stop = is_anew stop.way && option_eq nat_eq stop.link (Some key)
