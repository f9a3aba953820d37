use Rattle.std.proofs.Common.{◌∙◌}
use Rattle.std.specs.Str.{chars}
use Rattle.representation.proofs.DigitLemmas.{writes_digit, below-pop, below-last, symbol_at}
use Rattle.representation.proofs.systems.write_digits.Goals as goal

pub loop-digit-preserved : goal.loop-digit-preserved
loop-digit-preserved c = record {
  within = below-pop _ _ _ _ c.in-Some.ensures.items c.loop-digit.invariant.within;
  to_do = writes_digit c.args.symbols.now c.loop-digit.draft c.push.new.self _ c.loop-digit.digits.items c.pop.new.self.items c.in-Some.digit (chars c.as_str.result.now) c.in-Some.ensures.items (c.as_str.ensures.characters ∙ symbol_at _ _ _ (below-last _ _ _ _ c.in-Some.ensures.items c.loop-digit.invariant.within) c.index-symbols-digit.is) c.in_ok-push.ensures.ok c.loop-digit.invariant.to_do;
}
