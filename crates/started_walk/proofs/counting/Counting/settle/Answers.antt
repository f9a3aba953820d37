use Rattle.std.proofs.Common.{◌∙◌, ap, refl, subst, sym}
use Rattle.std.specs.FinMap.{get, get-empty}
use Rattle.std.specs.Ordering.{nat_cmp}
use Rattle.started_walk.specs.Countings.{KeepsZeros}
use Rattle.started_walk.specs.Settled.{saved}
use Rattle.started_walk.proofs.SettledLemmas.{zeros-brought}
use Rattle.started_walk.proofs.UnaskedLemmas.{unasked, unasked-zeros}
use Rattle.started_walk.proofs.counting.Counting.settle.Goals as goal

pub returns-then-not-asks : goal.returns-then-not-asks
returns-then-not-asks c =
    let index = c.args.self.now.index in
    let none = unasked index c.asks.result c.asks.ensures.test c.if-not-asks.true in
    record {
      counts = λ before after walked. record {
        zeros = unasked-zeros after index walked.distinct_after walked.index none c.new.result.held (λ key. ap (λ held. get held key) c.new.ensures.held ∙ get-empty nat_cmp key);
        index = walked.index;
      };
      zeros = λ some. absurd (none some);
      none = λ _. c.new.ensures.held;
      index = refl;
      changes = c.save.ensures.changes;
    }

pub returns-else-not-asks : goal.returns-else-not-asks
returns-else-not-asks c =
    let counting = c.args.self.now in
    let takes = c.args.takes.now in
    let zeros = c.args.zeros.items in
    let changes = c.args.changes.now in
    let asks = c.asks.ensures.test.0 c.if-not-asks.false in
    let held = c.save.ensures.held ∙ (λ i. saved (c.bring.ensures.room i) changes (c.bring.ensures.held i)) in
    record {
      counts = λ before after walked. record {
        zeros = subst (KeepsZeros after) (sym held) (zeros-brought before after counting takes zeros changes walked asks);
        index = walked.index;
      };
      zeros = λ _. held;
      none = λ none. absurd (none asks);
      index = refl;
      changes = c.save.ensures.changes;
    }
