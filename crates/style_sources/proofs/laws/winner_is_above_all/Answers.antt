use Rattle.std.proofs.Common.{filter}
use Rattle.style_sources.specs.Properties.{declares}
use Rattle.style_sources.specs.Sources.{Placed, gives_way}
use Rattle.style_sources.proofs.AboveLaws.{greatest_above, none_left}
use Rattle.style_sources.proofs.PlacedLaws.{placed_order}
use Rattle.style_sources.proofs.laws.winner_is_above_all.Goals as goal

pub returns : goal.returns
returns c = record {
  above = λ property all.
      let those = filter (λ (p : Placed). declares property p.applied.what) all in
      (greatest_above gives_way placed_order those, none_left gives_way those);
}
