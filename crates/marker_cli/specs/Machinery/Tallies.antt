-- What a tally of edits stands for (our own).
use Rattle.marker_engine.specs.Engines.{Source}
use Rattle.marker_cli.specs.declared.generated.Tally.{Tally}
use Rattle.marker_cli.specs.Generated.{Outcome}

-- with the document that is there
abbrev pub tallied : Source → Tally → Outcome
tallied source tally = record { source = source; accepted = tally.accepted; refused = tally.refused }
