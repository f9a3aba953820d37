use Rattle.silent_sheets.proofs.SilentLines.{silent_dump, silent_lines}
use Rattle.silent_sheets.proofs.laws.silent_sheets_give_no_lines.Goals as goal

pub returns : goal.returns
returns c = record { lines = silent_lines; dump = silent_dump }
