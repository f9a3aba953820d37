use Rattle.std.proofs.Common.{subst, sym, to_z, of_z, w64}
use Rattle.counter_sets.specs.Indexes.{HasPlaces}
use Rattle.counter_sets.proofs.LookupLemmas.{changed_places}
use Rattle.counter_sets.proofs.indexed_set.IndexedSet.with_value.Goals as goal

pub invariant_of-result : goal.invariant_of-result
invariant_of-result c =
    let places = c.self.inside.places in
    subst (HasPlaces places) (sym c.in_ok-set.ensures.set) (changed_places places (λ _. to_z w64 (of_z w64 c.args.value)) c.self.inside.set c.args.place c.self.invariant)
