use Rattle.std.proofs.Common.{◌≡◌, ◌∙◌, ℕ, arith, sym}
use Rattle.std.specs.Fmt.{decimal}
use Rattle.std.proofs.lemmas.Fmt.{IsAscii-decimal}
use Rattle.marker_cli.specs.Words.{IsDepth}
use Rattle.marker_cli.proofs.FormLemmas.{if_none, number_word, one_natural, word_number}
use Rattle.marker_cli.proofs.form.read_depth.Goals as goal

pub returns-in_err-depth-clause-none : goal.returns-in_err-depth-clause-none
returns-in_err-depth-clause-none c =
    let none : (depth : ℕ) → c.args.text.now ≡ decimal depth → IsDepth depth → ⊥ = λ depth is fits.
    c.in_err-depth.ensures.none depth (omega (arith, fits.1))
    (word_number c.args.text.now c.as_str.result.now (decimal depth) (IsAscii-decimal depth (omega (arith, fits.1))) c.as_str.ensures.bytes is) in
    if_none _ none

pub returns-then-is_depth-clause-found : goal.returns-then-is_depth-clause-found
returns-then-is_depth-clause-found c =
    let fits = c.is_depth.ensures.0 c.if-is_depth.true in (
      number_word c.args.text.now c.as_str.result.now (decimal c.in_ok-depth.depth) (IsAscii-decimal c.in_ok-depth.depth (omega (arith, fits.1))) c.as_str.ensures.characters c.in_ok-depth.ensures.found,
      fits,
    )

pub returns-else-is_depth-clause-none : goal.returns-else-is_depth-clause-none
returns-else-is_depth-clause-none c depth is fits =
    let same : depth ≡ c.in_ok-depth.depth =
    one_natural c.as_str.result.now c.in_ok-depth.depth depth (omega arith) (omega (arith, fits.1)) c.in_ok-depth.ensures.found
    (word_number c.args.text.now c.as_str.result.now (decimal depth) (IsAscii-decimal depth (omega (arith, fits.1))) c.as_str.ensures.bytes is) in
    cc (sym c.if-is_depth.false ∙ c.is_depth.ensures.1 (rw same at fits))
