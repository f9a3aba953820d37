use Rattle.std.proofs.Common.{true, false}
use Rattle.marker_cli.proofs.LineLemmas.{script_of}
use Rattle.marker_cli.proofs.report.script_word.Goals as goal

pub returns-in-Some : goal.returns-in-Some
returns-in-Some c = script_of c.args.words.now c.in-Some.command.now c.in-Some.ensures.value c.is_word.result c.is_word.ensures.same true c.if-is_word.true

pub returns-in_default : goal.returns-in_default
returns-in_default c = script_of c.args.words.now c.in-Some.command.now c.in-Some.ensures.value c.is_word.result c.is_word.ensures.same false c.if-is_word.false
