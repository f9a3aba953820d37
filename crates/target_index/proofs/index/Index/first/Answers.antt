use Rattle.std.proofs.Common.{◌∙◌, nat_eq, ap, subst, sym, take}
use Rattle.std.specs.List.{list_any}
use Rattle.target_index.proofs.FirstLemmas.{IsLeast, any_of_front}
use Rattle.target_index.proofs.index.Index.first.Goals as goal

pub precedes-requires-clause-second : goal.precedes-requires-clause-second
precedes-requires-clause-second c =
    let least = subst (IsLeast c.args.arena.now.tree (take c.loop-key.key-index c.holders-key-items.result.now)) c.in-Some.is c.loop-key.invariant in
    c.requires.live c.in-Some.best (ap (list_any (nat_eq c.in-Some.best)) (sym c.holders-key-items.ensures.holders) ∙ any_of_front c.in-Some.best c.loop-key.key-index c.holders-key-items.result.now least.0)
