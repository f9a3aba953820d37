use Rattle.std.proofs.Common.{◌≡◌, rules, arith, sym, ◌∙◌, ap}
use Rattle.std.specs.Prelude.{Ok}
use Rattle.std.specs.Fmt.{decimal}
use Rattle.std.proofs.lemmas.Fmt.{parse-decimal}
use Rattle.std.proofs.lemmas.Bool.Decides.{not_from_Decides}
use Rattle.std.proofs.lemmas.Slice.Eq.{bytes_eq-Decides}
use Rattle.edit_script.proofs.words.read_natural.Goals as goal

pub returns-in_default-clause-none : goal.returns-in_default-clause-none
returns-in_default-clause-none c number fits is =
    let read : c.parse.result ≡ Ok number = parse-decimal 32 number c.args.text.now c.parse.result fits (omega arith) is (search (rules, c.parse.ensures.value)) in
    cc (read, c.in_default.is)

pub returns-else-eq-clause-none : goal.returns-else-eq-clause-none
returns-else-eq-clause-none c number fits is =
    let read : c.parse.result ≡ Ok number = parse-decimal 32 number c.args.text.now c.parse.result fits (omega arith) is (search (rules, c.parse.ensures.value)) in
    let same : c.in-Ok.number ≡ number = cc (read, c.in-Ok.is) in
    not_from_Decides _ (bytes_eq-Decides c.format.result.now c.args.text.now) (sym c.eq.ensures ∙ c.if-eq.false) (c.format.ensures.text ∙ ap decimal same ∙ sym is)
