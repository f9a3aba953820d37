use Rattle.std.proofs.Common.{◌||◌, ◌+◌, drop, sym, ap, ◌∙◌}
use Rattle.std.specs.Char.{is_ascii_whitespace}
use Rattle.std.specs.List.{list_any, slice_split}
use Rattle.std.specs.Str.{bytes_eq}
use Rattle.selector_match.specs.Attributes.{in_case}
use Rattle.selector_match.proofs.AttributeLaws.{behind, first-part, one-part, or_false}
use Rattle.selector_match.proofs.attributes.has_part.Goals as goal

pub parts-preserved : goal.parts-preserved
parts-preserved c =
    let fold = c.args.fold in
    let rest = c.parts.rest.now in
    let end = c.in-Some.end in
    let any = list_any (λ part. bytes_eq (in_case fold part) (in_case fold c.args.word.now)) in
    let cut = (first-part rest end (sym c.in-Some.ensures)).0 in
    ap (λ xs. any (slice_split is_ascii_whitespace xs)) (behind rest end)
    ∙ sym (ap any cut ∙ ap (λ b. b || any (slice_split is_ascii_whitespace (drop (end + 1) rest))) (sym c.is_same.ensures ∙ c.if-is_same.false))
    ∙ c.parts.invariant

pub returns-then-is_same : goal.returns-then-is_same
returns-then-is_same c =
    let fold = c.args.fold in
    let rest = c.parts.rest.now in
    let end = c.in-Some.end in
    let any = list_any (λ part. bytes_eq (in_case fold part) (in_case fold c.args.word.now)) in
    let cut = (first-part rest end (sym c.in-Some.ensures)).0 in
    sym (sym c.parts.invariant ∙ ap any cut ∙ ap (λ b. b || any (slice_split is_ascii_whitespace (drop (end + 1) rest))) (sym c.is_same.ensures ∙ c.if-is_same.true))

pub returns : goal.returns
returns c =
    let fold = c.args.fold in
    let rest = c.parts.rest.now in
    let any = list_any (λ part. bytes_eq (in_case fold part) (in_case fold c.args.word.now)) in
    sym (sym c.parts.invariant ∙ ap any (one-part rest (sym c.in_default.ensures)) ∙ or_false (bytes_eq (in_case fold rest) (in_case fold c.args.word.now)) ∙ sym c.is_same-2.ensures)
