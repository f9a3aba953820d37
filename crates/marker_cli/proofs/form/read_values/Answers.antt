use Rattle.std.proofs.Common.{◌≡◌, ◌∙◌, ℤ, arith, sym, rules, w64, FitsSigned}
use mir.Val.{to_z, of_z}
use Rattle.std.specs.Fmt.{signed_decimal}
use Rattle.std.proofs.lemmas.Fmt.{IsAscii-signed}
use Rattle.std.proofs.lemmas.Int.{ints}
use Rattle.marker_cli.specs.Words.{IsSpan, IsTable}
use Rattle.marker_cli.proofs.FormLemmas.{count_fits, if_none, number_word, one_integer, small, word_number}
use Rattle.marker_cli.proofs.form.read_values.Goals as goal

pub returns-in_err-first-clause-none : goal.returns-in_err-first-clause-none
returns-in_err-first-clause-none c =
    let none : (first last : ℤ) → c.args.from.now ≡ signed_decimal first → c.args.to.now ≡ signed_decimal last → IsTable first last → ⊥ = λ first last from_is to_is is.
    c.in_err-first.ensures.none first is.from_fits
    (word_number c.args.from.now c.as_str.result.now (signed_decimal first) (IsAscii-signed first (small first is.from_fits)) c.as_str.ensures.bytes from_is) in
    if_none _ none

pub returns-in_err-last-clause-none : goal.returns-in_err-last-clause-none
returns-in_err-last-clause-none c =
    let none : (first last : ℤ) → c.args.from.now ≡ signed_decimal first → c.args.to.now ≡ signed_decimal last → IsTable first last → ⊥ = λ first last from_is to_is is.
    c.in_err-last.ensures.none last is.to_fits
    (word_number c.args.to.now c.as_str-2.result.now (signed_decimal last) (IsAscii-signed last (small last is.to_fits)) c.as_str-2.ensures.bytes to_is) in
    if_none _ none

pub returns-then-is_span-clause-found : goal.returns-then-is_span-clause-found
returns-then-is_span-clause-found c =
    let first_fits : FitsSigned w64 c.in_ok-first.first = search rules in
    let last_fits : FitsSigned w64 c.in_ok-last.last = search rules in
    let first_wide : to_z w64 (of_z w64 c.in_ok-first.first) ≡ c.in_ok-first.first = omega (arith, ints, first_fits) in
    let last_wide : to_z w64 (of_z w64 c.in_ok-last.last) ≡ c.in_ok-last.last = omega (arith, ints, last_fits) in
    let first_count = count_fits c.in_ok-first.first first_fits in
    let last_count = count_fits c.in_ok-last.last last_fits in
    rw (first_wide, last_wide) (
      number_word c.args.from.now c.as_str.result.now (signed_decimal c.in_ok-first.first) (IsAscii-signed c.in_ok-first.first (small c.in_ok-first.first first_count))
          c.as_str.ensures.characters c.in_ok-first.ensures.found,
      number_word c.args.to.now c.as_str-2.result.now (signed_decimal c.in_ok-last.last) (IsAscii-signed c.in_ok-last.last (small c.in_ok-last.last last_count))
          c.as_str-2.ensures.characters c.in_ok-last.ensures.found,
      record { from_fits = first_count; to_fits = last_count; span = rw (first_wide, last_wide) at c.is_span.ensures.0 c.if-is_span.true },
    )

pub returns-else-is_span-clause-none : goal.returns-else-is_span-clause-none
returns-else-is_span-clause-none c first last from_is to_is is =
    let first_fits : FitsSigned w64 c.in_ok-first.first = search rules in
    let last_fits : FitsSigned w64 c.in_ok-last.last = search rules in
    let first_wide : to_z w64 (of_z w64 c.in_ok-first.first) ≡ c.in_ok-first.first = omega (arith, ints, first_fits) in
    let last_wide : to_z w64 (of_z w64 c.in_ok-last.last) ≡ c.in_ok-last.last = omega (arith, ints, last_fits) in
    let same_first : first ≡ c.in_ok-first.first =
    one_integer c.as_str.result.now c.in_ok-first.first first (count_fits _ first_fits) is.from_fits c.in_ok-first.ensures.found
    (word_number c.args.from.now c.as_str.result.now (signed_decimal first) (IsAscii-signed first (small first is.from_fits)) c.as_str.ensures.bytes from_is) in
    let same_last : last ≡ c.in_ok-last.last =
    one_integer c.as_str-2.result.now c.in_ok-last.last last (count_fits _ last_fits) is.to_fits c.in_ok-last.ensures.found
    (word_number c.args.to.now c.as_str-2.result.now (signed_decimal last) (IsAscii-signed last (small last is.to_fits)) c.as_str-2.ensures.bytes to_is) in
    let span : IsSpan (to_z w64 (of_z w64 c.in_ok-first.first)) (to_z w64 (of_z w64 c.in_ok-last.last)) =
    rw (first_wide, last_wide) (rw (same_first, same_last) at is.span) in
    cc (sym c.if-is_span.false ∙ c.is_span.ensures.1 span)
