use Rattle.std.proofs.Common.{◌≡◌, ◌∙◌, ℕ, arith, sym}
use Rattle.std.specs.Fmt.{decimal}
use Rattle.std.proofs.lemmas.Fmt.{IsAscii-decimal}
use Rattle.marker_cli.specs.Words.{IsRun}
use Rattle.marker_cli.proofs.FormLemmas.{if_none, number_word, one_natural, word_number}
use Rattle.marker_cli.proofs.form.read_run.Goals as goal

pub returns-in_err-start-clause-none : goal.returns-in_err-start-clause-none
returns-in_err-start-clause-none c =
    let none : (start edits : ℕ) → c.args.seed.now ≡ decimal start → c.args.count.now ≡ decimal edits → IsRun start edits → ⊥ = λ start edits seed_is count_is run.
    c.in_err-start.ensures.none start (omega (arith, run.0))
    (word_number c.args.seed.now c.as_str.result.now (decimal start) (IsAscii-decimal start (omega (arith, run.0))) c.as_str.ensures.bytes seed_is) in
    if_none _ none

pub returns-in_err-edits-clause-none : goal.returns-in_err-edits-clause-none
returns-in_err-edits-clause-none c =
    let none : (start edits : ℕ) → c.args.seed.now ≡ decimal start → c.args.count.now ≡ decimal edits → IsRun start edits → ⊥ = λ start edits seed_is count_is run.
    c.in_err-edits.ensures.none edits (omega (arith, run.2))
    (word_number c.args.count.now c.as_str-2.result.now (decimal edits) (IsAscii-decimal edits (omega (arith, run.2))) c.as_str-2.ensures.bytes count_is) in
    if_none _ none

pub returns-then-is_run-clause-found : goal.returns-then-is_run-clause-found
returns-then-is_run-clause-found c =
    let run = c.is_run.ensures.0 c.if-is_run.true in (
      number_word c.args.seed.now c.as_str.result.now (decimal c.in_ok-start.start) (IsAscii-decimal c.in_ok-start.start (omega (arith, run.0))) c.as_str.ensures.characters c.in_ok-start.ensures.found,
      number_word c.args.count.now c.as_str-2.result.now (decimal c.in_ok-edits.edits) (IsAscii-decimal c.in_ok-edits.edits (omega (arith, run.2))) c.as_str-2.ensures.characters
          c.in_ok-edits.ensures.found,
      run,
    )

pub returns-else-is_run-clause-none : goal.returns-else-is_run-clause-none
returns-else-is_run-clause-none c start edits seed_is count_is run =
    let same_start : start ≡ c.in_ok-start.start =
    one_natural c.as_str.result.now c.in_ok-start.start start (omega arith) (omega (arith, run.0)) c.in_ok-start.ensures.found
    (word_number c.args.seed.now c.as_str.result.now (decimal start) (IsAscii-decimal start (omega (arith, run.0))) c.as_str.ensures.bytes seed_is) in
    let same_edits : edits ≡ c.in_ok-edits.edits =
    one_natural c.as_str-2.result.now c.in_ok-edits.edits edits (omega arith) (omega (arith, run.2)) c.in_ok-edits.ensures.found
    (word_number c.args.count.now c.as_str-2.result.now (decimal edits) (IsAscii-decimal edits (omega (arith, run.2))) c.as_str-2.ensures.bytes count_is) in
    cc (sym c.if-is_run.false ∙ c.is_run.ensures.1 (rw (same_start, same_edits) at run))
