use Rattle.std.proofs.Common.{sym, subst}
use Rattle.std.specs.Str.{chars}
use Rattle.xml_definitions.specs.Faults.{FailsAt}
use Rattle.xhtml_reader.specs.Fault.{IsFault}
use Rattle.xhtml_reader.specs.Machinery.Keeping.{kept}
use Rattle.xhtml_reader.specs.Machinery.States.{allows}
use Rattle.xhtml_reader.proofs.Texts.{full_chars, empty_chars}
use Rattle.xhtml_reader.proofs.Progress.{Progress-start, Progress-more, none_fits, none_ends, tree_found}
use Rattle.xhtml_reader.proofs.read.read_normalized.Goals as goal

pub items-init : goal.items-init
items-init c = record { utf8 = c.utf8.text; progress = Progress-start c.args.kind (chars c.args.text.now) (kept c.new-open.result) c.new-open.ensures.keeps c.new-open.ensures.kind }

pub items-preserved : goal.items-preserved
items-preserved c = record {
  utf8 = rw c.in-Some.is at c.in_ok-after.ensures.text;
  progress =
      Progress-more c.args.kind (chars c.args.text.now) (chars c.items.rest.now) (kept c.items.open) c.items.invariant.progress (chars c.in-Some.after.now) (kept c.advance.new.self)
      (rw c.in-Some.is at c.in_ok-after.ensures.advances) c.in_ok-after.ensures.kind;
}

pub returns-in_default-clause-fault : goal.returns-in_default-clause-fault
returns-in_default-clause-fault c =
    subst (IsFault (FailsAt (allows c.args.kind) (chars c.args.text.now))) (sym c.malformed.ensures)
    (none_fits c.args.kind (chars c.args.text.now) (chars c.items.rest.now) (kept c.items.open) c.items.invariant.progress (kept c.advance.new.self)
    (full_chars c.items.rest.now c.items.invariant.utf8 (sym c.items-test.ensures)) (rw c.in_default.is at c.in_ok-after.ensures.advances))

pub returns-in_default-2-clause-fault : goal.returns-in_default-2-clause-fault
returns-in_default-2-clause-fault c =
    subst (IsFault (FailsAt (allows c.args.kind) (chars c.args.text.now))) (sym c.malformed-in_default-2.ensures)
    (none_ends c.args.kind (chars c.args.text.now) (chars c.items.rest.now) (kept c.items.open) c.items.invariant.progress
    (empty_chars c.items.rest.now (sym c.items-test.ensures)) (rw c.in_default-2.is at c.in_ok-tree.ensures))

pub returns-clause-found : goal.returns-clause-found
returns-clause-found c =
    tree_found c.args.kind (chars c.args.text.now) (chars c.items.rest.now) (kept c.items.open) c.items.invariant.progress c.in-Some-2.tree
    (empty_chars c.items.rest.now (sym c.items-test.ensures)) (rw c.in-Some-2.is at c.in_ok-tree.ensures)
