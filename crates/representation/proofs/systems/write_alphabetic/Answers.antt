use Rattle.std.proofs.Common.{arith}
use Rattle.std.proofs.lemmas.Nat.{mod_below}
use Rattle.representation.proofs.DigitLemmas.{collects_digit, below-push, bijective_digits-step}
use Rattle.representation.proofs.systems.write_alphabetic.Goals as goal

pub digit-preserved : goal.digit-preserved
digit-preserved c = record {
  within = below-push _ _ _ _ c.digit.invariant.within (mod_below _ _ (omega arith)) c.in_ok-push.ensures.items;
  known = collects_digit _ _ _ _ _ _ c.digit.invariant.known (bijective_digits-step _ _ c.requires.two (omega arith)) c.in_ok-push.ensures.items;
}
