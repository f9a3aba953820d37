use Rattle.std.proofs.Common.{◌∙◌, ap, encode_utf8_all, arith, get_or, rules}
use Rattle.std.proofs.lemmas.List.{get_or_default}
use Rattle.ports.specs.Grown.{grown}
use Rattle.ports.proofs.GrownLemmas.{front_same, on_err}
use Rattle.ports.proofs.PieceLemmas.{pieces_end, pieces_front, pieces_went_out}
use Rattle.style_sources.specs.Sources.{value_source_of}
use Rattle.style_sources.specs.declared.property.Property.TheVariants.{Display}
use Rattle.why_report.specs.Accounts.{source_line}
use Rattle.why_report.proofs.SourceLaws.{lines_bytes}
use Rattle.why_report.proofs.sources.put_sources.Goals as goal

pub returns-in_err-put_source_line-clause-failed : goal.returns-in_err-put_source_line-clause-failed
returns-in_err-put_source_line-clause-failed g c =
    let item = (get_or c.properties-property-items.result.now c.loop-property.property-index Display) in
    on_err _ (front_same (lines_bytes (λ property. value_source_of c.args.is_root property c.args.declarations.now) c.properties-property-items.result.now c.properties-property-items.ensures.order)
    (pieces_front (λ property. encode_utf8_all (source_line property (value_source_of c.args.is_root property c.args.declarations.now))) c.properties-property-items.result.now c.loop-property.property-index item _ _ _
    c.loop-property-test.true (search (rules, get_or_default)) c.loop-property.invariant.written
    (front_same (ap (λ source. encode_utf8_all (source_line item source)) c.source.ensures.source) c.in_err-put_source_line.ensures.failed)))

pub loop-property-preserved : goal.loop-property-preserved
loop-property-preserved g c =
    let item = (get_or c.properties-property-items.result.now c.loop-property.property-index Display) in
    record {
      written = pieces_went_out (λ property. encode_utf8_all (source_line property (value_source_of c.args.is_root property c.args.declarations.now))) c.properties-property-items.result.now c.loop-property.property-index item _ _ _
          c.loop-property-test.true (search (rules, get_or_default)) c.loop-property.invariant.written
          (c.in_ok-put_source_line.ensures.ok ∙ ap (λ source. grown (g.O.Sink.out c.loop-property.out) (encode_utf8_all (source_line item source))) c.source.ensures.source);
      later = omega (arith, c.in_ok-put_source_line.ensures.cause.later, c.loop-property.invariant.later);
    }

pub returns-clause-ok : goal.returns-clause-ok
returns-clause-ok g c =
    pieces_end (λ property. encode_utf8_all (source_line property (value_source_of c.args.is_root property c.args.declarations.now))) c.properties-property-items.result.now c.loop-property.property-index _ _ c.loop-property-test.false c.loop-property.invariant.written
    ∙ ap (grown (g.O.Sink.out c.args.out.now)) (lines_bytes (λ property. value_source_of c.args.is_root property c.args.declarations.now) c.properties-property-items.result.now c.properties-property-items.ensures.order)
