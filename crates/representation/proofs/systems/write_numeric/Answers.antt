use Rattle.std.proofs.Common.{arith}
use Rattle.std.proofs.lemmas.Nat.{mod_below}
use Rattle.std.proofs.lemmas.Int.Digits.{digits_of_step}
use Rattle.representation.proofs.DigitLemmas.{collects_digit, below-push}
use Rattle.representation.proofs.systems.write_numeric.Goals as goal

pub digit-preserved : goal.digit-preserved
digit-preserved c = record {
  within = below-push _ _ _ _ c.digit.invariant.within (mod_below _ _ (omega arith)) c.in_ok-push.ensures.items;
  known = collects_digit _ _ _ _ _ _ c.digit.invariant.known (digits_of_step _ _ c.requires.two (omega arith)) c.in_ok-push.ensures.items;
}
