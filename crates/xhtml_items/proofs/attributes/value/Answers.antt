use Rattle.std.proofs.Common.{◌≡◌, ◌++◌, ap, length, ◌∙◌, arith}
use Rattle.std.specs.Str.{chars}
use Rattle.std.proofs.lemmas.List.{length-append}
use Rattle.std.proofs.lemmas.Str.{chars-append}
use Rattle.reading.proofs.Runs.{Goes-start, Goes-more, Goes-end, run_is}
use Rattle.xml_definitions.specs.Spelling.{IsValuePart}
use Rattle.xhtml_items.specs.Machinery.Items.{value_part_at}
use Rattle.xhtml_items.specs.Machinery.StopBytes.{is_straight}
use Rattle.xhtml_items.proofs.AttributeLaws.{part_reader}
use Rattle.xhtml_items.proofs.PassLaws.{Goes-straight, text_passes}
use Rattle.xhtml_items.proofs.RunLaws.{shorter}
use Rattle.xhtml_items.proofs.attributes.value.Goals as goal

pub parts-init : goal.parts-init
parts-init c = record { utf8 = c.utf8.text; goes = rw c.new-value.ensures.empty (Goes-start (value_part_at c.args.quote) (chars c.args.text.now)) }

pub parts-smaller : goal.parts-smaller
parts-smaller c =
    let less = shorter (IsValuePart c.args.quote) (value_part_at c.args.quote) (part_reader c.args.quote) (chars c.split_at_stop.result.1.now) _ c.in-Some.ensures.reads in
    let parts : chars c.parts.rest.now ≡ chars c.split_at_stop.result.0.now ++ chars c.split_at_stop.result.1.now =
    ap chars c.split_at_stop.ensures.bytes ∙ chars-append c.split_at_stop.result.0.now c.split_at_stop.result.1.now c.split_at_stop.ensures.front in
    omega (arith, less, ap length parts, length-append (chars c.split_at_stop.result.0.now) (chars c.split_at_stop.result.1.now))

pub parts-preserved : goal.parts-preserved
parts-preserved c =
    let all = text_passes _ (λ x. is_straight x) c.value_stops-stops.ensures.tells c.split_at_stop.result.0.now c.split_at_stop.ensures.front c.split_at_stop.ensures.passed in
    let goes = Goes-straight c.args.quote (chars c.args.text.now) c.parts.value c.parts.rest.now c.split_at_stop.result.0.now c.split_at_stop.result.1.now c.requires c.split_at_stop.ensures.front c.split_at_stop.ensures.bytes all c.parts.invariant.goes in
    record {
      utf8 = c.in-Some.ensures.text;
      goes = rw (c.in_ok-push.ensures.ok, c.in_ok-push_str.ensures.ok) (Goes-more (value_part_at c.args.quote) _ _ _ c.in-Some.c _ goes c.in-Some.ensures.reads);
    }

pub returns-in_default-clause-reads : goal.returns-in_default-clause-reads
returns-in_default-clause-reads c =
    let all = text_passes _ (λ x. is_straight x) c.value_stops-stops.ensures.tells c.split_at_stop.result.0.now c.split_at_stop.ensures.front c.split_at_stop.ensures.passed in
    let goes = Goes-straight c.args.quote (chars c.args.text.now) c.parts.value c.parts.rest.now c.split_at_stop.result.0.now c.split_at_stop.result.1.now c.requires c.split_at_stop.ensures.front c.split_at_stop.ensures.bytes all c.parts.invariant.goes in
    let run = run_is (value_part_at c.args.quote) (shorter (IsValuePart c.args.quote) (value_part_at c.args.quote) (part_reader c.args.quote)) (Goes-end (value_part_at c.args.quote) _ _ _ goes c.in_default.ensures.reads) in
    rw c.in_ok-push_str.ensures.ok run
