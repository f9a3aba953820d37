use Rattle.changed_lines.proofs.DumpLemmas.{dumps_replay, texts_replay}
use Rattle.changed_lines.proofs.laws.dumps_replay.Goals as goal

pub returns : goal.returns
returns c = record { boxes = texts_replay; dump = dumps_replay }
