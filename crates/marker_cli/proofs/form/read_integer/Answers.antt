use Rattle.std.proofs.Common.{◌≡◌, rules, arith, sym, ◌∙◌, ap, w64}
use mir.Val.{to_z, of_z}
use Rattle.std.specs.Prelude.{Ok}
use Rattle.std.specs.Fmt.{signed_decimal}
use Rattle.std.proofs.lemmas.Int.{ints}
use Rattle.std.proofs.lemmas.Fmt.{parse-signed_decimal}
use Rattle.std.proofs.lemmas.Bool.Decides.{not_from_Decides}
use Rattle.std.proofs.lemmas.Slice.Eq.{bytes_eq-Decides}
use Rattle.marker_cli.proofs.FormLemmas.{fits_count, small}
use Rattle.marker_cli.proofs.form.read_integer.Goals as goal

pub returns-in_default-clause-none : goal.returns-in_default-clause-none
returns-in_default-clause-none c number fits is =
    let read : c.parse.result ≡ Ok number = parse-signed_decimal w64 number c.args.text.now c.parse.result (fits_count number fits) (small number fits) is (search (rules, c.parse.ensures.value)) in
    cc (read, c.in_default.is)

pub returns-else-eq-clause-none : goal.returns-else-eq-clause-none
returns-else-eq-clause-none c number fits is =
    let read : c.parse.result ≡ Ok number = parse-signed_decimal w64 number c.args.text.now c.parse.result (fits_count number fits) (small number fits) is (search (rules, c.parse.ensures.value)) in
    let same : c.in-Ok.number ≡ number = cc (read, c.in-Ok.is) in
    let fits_too = fits_count number fits in
    let wide : to_z w64 (of_z w64 c.in-Ok.number) ≡ number = omega (arith, ints, same) in
    not_from_Decides _ (bytes_eq-Decides c.format.result.now c.args.text.now) (sym c.eq.ensures ∙ c.if-eq.false) (c.format.ensures.text ∙ ap signed_decimal wide ∙ sym is)
