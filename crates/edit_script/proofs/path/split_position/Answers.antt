use Rattle.std.proofs.Common.{ℕ, List}
use Rattle.std.specs.Str.{chars}
use Rattle.edit_script.specs.Machinery.Words.{IsPositionFront}
use Rattle.edit_script.proofs.PathLaws.{if_none}
use Rattle.edit_script.proofs.WordLaws.{position_front, position_digits}
use Rattle.edit_script.proofs.path.split_position.Goals as goal

pub returns-in_err-position-clause-none : goal.returns-in_err-position-clause-none
returns-in_err-position-clause-none c =
    let none : (x : ℕ × List ℕ) → IsPositionFront (chars c.args.text.now) x → ⊥ = λ x is.
    c.in_err-position.ensures.none x.0 (position_digits _ _ _ _ x c.in_ok-after.ensures.reads c.split_while.ensures.reads is) in
    if_none _ none

pub returns-clause-found : goal.returns-clause-found
returns-clause-found c =
    position_front (chars c.args.text.now) (chars c.in_ok-after.after.now) (chars c.split_while.result.0.now) (chars c.split_while.result.1.now) c.in_ok-position.position
    c.in_ok-after.ensures.reads c.split_while.ensures.reads c.in_ok-position.ensures.found
