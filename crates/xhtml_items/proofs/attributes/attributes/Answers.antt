use Rattle.std.specs.Str.{chars}
use Rattle.reading.proofs.Runs.{Goes-start, Goes-more, Goes-end, run_is}
use Rattle.xml_definitions.specs.Spelling.{IsAttribute}
use Rattle.xhtml_items.specs.Machinery.Items.{attribute_at}
use Rattle.xhtml_items.proofs.AttributeLaws.{attribute_reader}
use Rattle.xhtml_items.proofs.RunLaws.{shorter}
use Rattle.xhtml_items.proofs.attributes.attributes.Goals as goal

pub pieces-init : goal.pieces-init
pieces-init c = record { utf8 = c.utf8.text; goes = rw c.new-attrs.ensures.empty (Goes-start attribute_at (chars c.args.text.now)) }

pub pieces-smaller : goal.pieces-smaller
pieces-smaller c =
    let reads = rw c.in-Some.is at c.in_ok-attr.ensures.reads in
    shorter IsAttribute attribute_at attribute_reader (chars c.pieces.rest.now) _ reads

pub pieces-preserved : goal.pieces-preserved
pieces-preserved c =
    let reads = rw c.in-Some.is at c.in_ok-attr.ensures.reads in
    record {
      utf8 = rw c.in-Some.is at c.in_ok-attr.ensures.text;
      goes = rw c.in_ok-push.ensures.ok (Goes-more attribute_at _ _ _ c.in-Some.attr _ c.pieces.invariant.goes reads);
    }

pub returns-clause-reads : goal.returns-clause-reads
returns-clause-reads c =
    let reads = rw c.in_default.is at c.in_ok-attr.ensures.reads in
    run_is attribute_at (shorter IsAttribute attribute_at attribute_reader) (Goes-end attribute_at _ _ _ c.pieces.invariant.goes reads)
