use Rattle.std.proofs.Common.{sym}
use Rattle.std.specs.Str.{chars}
use Rattle.xhtml_reader.proofs.Texts.{full_chars, empty_chars}
use Rattle.edit_script.proofs.PathLaws.{positions-end, positions-more, positions-next}
use Rattle.edit_script.proofs.path.read_positions.Goals as goal

pub returns-in_default-clause-fault : goal.returns-in_default-clause-fault
returns-in_default-clause-fault c = λ path is.
    let next = positions-next (chars c.args.text.now) c.positions.positions (chars c.positions.rest.now) c.positions.invariant.read (full_chars c.positions.rest.now c.positions.invariant.utf8 (sym c.positions-test.ensures)) path is in
    c.in_default.ensures.none next.0 next.1

pub positions-preserved : goal.positions-preserved
positions-preserved c = record {
  utf8 = c.in-Some.ensures.rest;
  read = rw c.in_ok-push.ensures.ok (positions-more (chars c.args.text.now) c.positions.positions (chars c.positions.rest.now) c.in-Some.position (chars c.in-Some.after.now) c.positions.invariant.read c.in-Some.ensures.found);
}

pub returns-clause-found : goal.returns-clause-found
returns-clause-found c =
    positions-end (chars c.args.text.now) c.positions.positions (chars c.positions.rest.now) c.positions.invariant.read (empty_chars c.positions.rest.now (sym c.positions-test.ensures))
