use Rattle.std.proofs.Common.{◌≡◌, length}
use Rattle.std.specs.Char.{is_ascii_whitespace}
use Rattle.std.specs.List.{list_any, slice_split}
use Rattle.std.specs.Str.{bytes_eq}
use Rattle.selector_match.specs.Attributes.{in_case}
use Rattle.selector_match.proofs.attributes.has_part.Given as goal

abbrev pub invariant-parts : goal.invariant-parts
invariant-parts l = list_any (λ part. bytes_eq (in_case l.fold part) (in_case l.fold l.word)) (slice_split is_ascii_whitespace l.rest) ≡ list_any (λ part. bytes_eq (in_case l.fold part) (in_case l.fold l.word)) (slice_split is_ascii_whitespace l.text)

abbrev pub decreases-parts : goal.decreases-parts
decreases-parts l = length l.rest
