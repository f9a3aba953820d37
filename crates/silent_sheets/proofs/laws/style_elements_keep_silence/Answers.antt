use Rattle.silent_sheets.proofs.Joined.{silent_with_elements}
use Rattle.silent_sheets.proofs.laws.style_elements_keep_silence.Goals as goal

pub returns : goal.returns
returns c = record { sheets = silent_with_elements }
