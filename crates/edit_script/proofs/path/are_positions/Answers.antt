use Rattle.std.proofs.Common.{refl, sym}
use Rattle.std.specs.Str.{chars}
use Rattle.xhtml_reader.proofs.Texts.{full_chars, empty_chars}
use Rattle.edit_script.proofs.PathLaws.{positions-end, positions-more, positions-next}
use Rattle.edit_script.proofs.path.are_positions.Goals as goal

pub returns-in_default : goal.returns-in_default
returns-in_default c =
    let full = full_chars c.positions.rest.now c.positions.invariant.utf8 (sym c.positions-test.ensures) in
    let read = c.positions.invariant.read in
    record {
      same = (
        λ t. cc t,
        λ are. let next = positions-next (chars c.args.text.now) read.0 (chars c.positions.rest.now) read.1 full are.0 are.1 in absurd (c.in_default.ensures.none next.0 next.1),
      );
    }

pub positions-preserved : goal.positions-preserved
positions-preserved c =
    let read = c.positions.invariant.read in
    record {
      utf8 = c.in-Some.ensures.rest;
      read = (_, positions-more (chars c.args.text.now) read.0 (chars c.positions.rest.now) c.in-Some.field-0-0 (chars c.in-Some.after.now) read.1 c.in-Some.ensures.found);
    }

pub returns : goal.returns
returns c =
    let read = c.positions.invariant.read in
    let end = positions-end (chars c.args.text.now) read.0 (chars c.positions.rest.now) read.1 (empty_chars c.positions.rest.now (sym c.positions-test.ensures)) in
    record { same = (λ t. (read.0, end), λ are. refl) }
