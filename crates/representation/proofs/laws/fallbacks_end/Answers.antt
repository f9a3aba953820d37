use Rattle.representation.proofs.TurnLemmas.{turns-enough}
use Rattle.representation.proofs.laws.fallbacks_end.Goals as goal

pub returns : goal.returns
returns c = record {
  turns = turns-enough c.args.table.now c.args.value c.args.style.now c.args.more;
}
