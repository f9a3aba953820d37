use Rattle.changed_lines.proofs.PutLemmas.{lines_replay}
use Rattle.changed_lines.proofs.laws.changed_lines_replay.Goals as goal

pub returns : goal.returns
returns c = record { replay = lines_replay }
