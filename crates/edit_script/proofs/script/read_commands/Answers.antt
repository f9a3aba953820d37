use Rattle.std.specs.Str.{chars}
use Rattle.std.proofs.Common.{arith}
use Rattle.reading.specs.Reading.{without_mark}
use Rattle.edit_script.proofs.ReadLaws.{lines-end, lines-more, number_fits, stopped_line}
use Rattle.edit_script.proofs.script.read_commands.Goals as goal

pub overflow_add-number : goal.overflow_add-number
overflow_add-number c =
    let below =
    number_fits c.args.kind c.without_mark-rest.result.now (without_mark (chars c.args.text.now)) (chars c.lines.rest.now) (chars c.in-Some.after.now) c.lines.number c.lines.commands
    c.without_mark-rest.ensures.text c.without_mark-rest.ensures.characters c.lines.invariant.read c.in-Some.ensures.shorter in
    omega arith

pub returns-in_err-push_line-clause-fault : goal.returns-in_err-push_line-clause-fault
returns-in_err-push_line-clause-fault c =
    stopped_line c.args.kind (without_mark (chars c.args.text.now)) (chars c.lines.rest.now) (chars c.in-Some.line.now) (chars c.in-Some.after.now) c.lines.number c.lines.commands c.lines.invariant.read
    c.in-Some.ensures.lines c.from_residual.result c.in_err-push_line.field-0.0 c.from_residual.ensures c.in_err-push_line.ensures.fault

pub lines-preserved : goal.lines-preserved
lines-preserved c = record {
  utf8 = c.in-Some.ensures.rest;
  read =
      lines-more c.args.kind (without_mark (chars c.args.text.now)) (chars c.lines.rest.now) (chars c.in-Some.line.now) (chars c.in-Some.after.now) c.lines.number c.lines.commands c.lines.invariant.read
      c.in-Some.ensures.lines c.push_line.new.commands c.in_ok-push_line.ensures.ok c.in-Some.ensures.shorter;
}

pub returns-clause-found : goal.returns-clause-found
returns-clause-found c = lines-end c.args.kind (without_mark (chars c.args.text.now)) (chars c.lines.rest.now) c.lines.number c.lines.commands c.lines.invariant.read c.in_default.ensures.lines
