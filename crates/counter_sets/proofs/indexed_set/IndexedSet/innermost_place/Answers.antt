use Rattle.std.proofs.Common.{◌∙◌, ap, subst}
use Rattle.std.specs.Str.{chars}
use Rattle.counter_sets.specs.Indexes.{HasPlaces}
use Rattle.counter_sets.specs.Sets.{innermost_place}
use Rattle.counter_sets.proofs.LookupLemmas.{kept_place, within_some}
use Rattle.counter_sets.proofs.indexed_set.IndexedSet.innermost_place.Goals as goal

pub returns-in-Some : goal.returns-in-Some
returns-in-Some c =
    let name = chars c.args.name.now in
    let has = subst (λ places. HasPlaces places c.self.inside.set) c.in-Some.is c.self.invariant in
    let place = c.get.ensures.value ∙ kept_place c.in-Some.places c.self.inside.set name has ∙ ap (λ set. innermost_place set name) c.self.view_is in
    record {
      place = place;
      within = within_some c.get.result c.args.self.now name place;
    }
