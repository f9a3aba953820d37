use Rattle.std.proofs.Common.{◌≡◌, ◌+◌, ◌<◌, ◌&&◌, length, get_or, sym, ap, ◌∙◌, arith}
use Rattle.std.proofs.lemmas.List.{get_or_default}
use Rattle.plain_types.specs.declared.selector.Compound.{Compound}
use Rattle.selector_match.specs.Matching.{matches_compound}
use Rattle.selector_match.specs.Machinery.Walks.{matched_before}
use Rattle.selector_match.proofs.StepLaws.{no_compound, matches-last, matches-there, misshapen}
use Rattle.selector_match.proofs.matching.matches.Goals as goal

pub returns-then-len-last : goal.returns-then-len-last
returns-then-len-last c =
    let fact = c.in-Some-checked_sub.ensures in
    record {
      matches = sym (matches-there c.args.siblings.now c.args.key c.args.selector.now c.in-Some.element c.in-Some.ensures
          ∙ misshapen c.args.selector.now c.in-Some.element (λ e. c.if-len-last.true (omega (arith, c.len.ensures.length, c.len-2.ensures.length, fact.0, fact.1, e))));
    }

pub returns-in-Some-match_with_siblings : goal.returns-in-Some-match_with_siblings
returns-in-Some-match_with_siblings c =
    let selector = c.args.selector.now in
    let element = c.in-Some.element in
    let last = c.in-Some-checked_sub.last in
    let joins : length selector.joins ≡ last = sym c.len-2.ensures.length ∙ c.if-len-last.false in
    let many : length selector.compounds ≡ length selector.joins + 1 = omega (arith, c.len.ensures.length, joins, c.in-Some-checked_sub.ensures.0, c.in-Some-checked_sub.ensures.1) in
    let within : last < length selector.compounds = omega (arith, joins, many) in
    let compound : c.index-as_slice-last.result ≡ get_or selector.compounds last no_compound =
    c.index-as_slice-last.is ∙ ap (λ cs. get_or cs last c.index-as_slice-last.result) c.as_slice.ensures.items ∙ get_or_default selector.compounds last c.index-as_slice-last.result no_compound within in
    let found = sym (ap (λ (one : Compound). matches_compound element one) compound) ∙ c.in-Some-match_with_siblings.ensures.yes in
    record {
      matches = c.match_ancestors.ensures
          ∙ sym c.in-Some-match_with_siblings.ensures.some.same
          ∙ sym (matches-there c.args.siblings.now c.args.key selector element c.in-Some.ensures ∙ matches-last selector many last joins element ∙ ap (λ b. b && matched_before selector last element) found);
    }

pub returns-in-None : goal.returns-in-None
returns-in-None c =
    let selector = c.args.selector.now in
    let element = c.in-Some.element in
    let last = c.in-Some-checked_sub.last in
    let joins : length selector.joins ≡ last = sym c.len-2.ensures.length ∙ c.if-len-last.false in
    let many : length selector.compounds ≡ length selector.joins + 1 = omega (arith, c.len.ensures.length, joins, c.in-Some-checked_sub.ensures.0, c.in-Some-checked_sub.ensures.1) in
    let within : last < length selector.compounds = omega (arith, joins, many) in
    let compound : c.index-as_slice-last.result ≡ get_or selector.compounds last no_compound =
    c.index-as_slice-last.is ∙ ap (λ cs. get_or cs last c.index-as_slice-last.result) c.as_slice.ensures.items ∙ get_or_default selector.compounds last c.index-as_slice-last.result no_compound within in
    record {
      matches = sym (matches-there c.args.siblings.now c.args.key selector element c.in-Some.ensures
          ∙ matches-last selector many last joins element
          ∙ sym (ap (λ (one : Compound). matches_compound element one && matched_before selector last element) compound)
          ∙ c.in-None.ensures.none);
    }
