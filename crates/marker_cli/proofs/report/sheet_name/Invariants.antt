use Rattle.std.proofs.Common.{◌≡◌, drop}
use Rattle.marker_cli.specs.Names.{sheet_name}
use Rattle.marker_cli.proofs.report.sheet_name.Given as goal

abbrev pub invariant-loop-command : goal.invariant-loop-command
invariant-loop-command l = sheet_name l.commands l.number ≡ sheet_name (drop l.command-index l.commands) l.number
