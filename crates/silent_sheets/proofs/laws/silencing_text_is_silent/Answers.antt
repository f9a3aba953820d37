use Rattle.silent_sheets.proofs.SilencingText.{text_is_silent}
use Rattle.silent_sheets.proofs.laws.silencing_text_is_silent.Goals as goal

pub returns : goal.returns
returns c = record { silent = text_is_silent }
