use Rattle.std.proofs.Common.{ap}
use Rattle.std.specs.Prelude.{Ok, Err}
use Rattle.std.specs.Str.{chars}
use Rattle.marker_cli.specs.Edit.{commands_of}
use Rattle.marker_cli.proofs.FaultLemmas.{commands_caused, commands_file, commands_stops, no_commands}
use Rattle.marker_cli.proofs.read_texts.read_commands.Goals as goal

pub returns-in_err-read_lines-clause-commands : goal.returns-in_err-read_lines-clause-commands
returns-in_err-read_lines-clause-commands c reading reads =
    no_commands c.args.kind (chars c.args.text.now) reading _ c.from_residual.result c.from_residual.ensures
    (λ number fails. c.one_reading.ensures c.args.kind (chars c.args.text.now) reading (Err number) reads fails) c.in_err-read_lines.ensures.fault

pub returns-in_err-read_lines-clause-cause : goal.returns-in_err-read_lines-clause-cause
returns-in_err-read_lines-clause-cause c = commands_caused _ c.from_residual.result c.from_residual.ensures

pub returns-in_err-read_lines-clause-file : goal.returns-in_err-read_lines-clause-file
returns-in_err-read_lines-clause-file c = commands_file _ c.from_residual.result c.from_residual.ensures

pub returns-in_err-read_lines-clause-stops : goal.returns-in_err-read_lines-clause-stops
returns-in_err-read_lines-clause-stops c = commands_stops _ c.from_residual.result c.from_residual.ensures

pub returns-clause-commands : goal.returns-clause-commands
returns-clause-commands c reading reads = ap commands_of (c.one_reading.ensures c.args.kind (chars c.args.text.now) reading (Ok _) reads c.in_ok-read_lines.ensures.found)
