use Rattle.std.proofs.Common.{◌==◌, ◌∙◌, length, ap, sym}
use Rattle.counter_index.specs.Indexes.{asked_at}
use Rattle.started_walk.proofs.TurnedLemmas.{asking-live, some-counted}
use Rattle.started_walk.proofs.turned.asks_and_stays.Goals as goal

pub is_coming-requires : goal.is_coming-requires
is_coming-requires c = record {
  live =
      asking-live c.args.arena.now.tree c.args.index.now c.requires.deeds c.args.key
      (some-counted (asked_at c.args.index.now c.args.key) (ap (λ starts. length starts == 0) (sym c.asked.ensures.asked) ∙ sym c.is_empty.ensures ∙ c.if-not-is_empty.true));
}
