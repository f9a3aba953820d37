use Rattle.std.proofs.Common.{subst}
use Rattle.std.specs.Str.{chars}
use Rattle.counter_sets.specs.Indexes.{HasPlaces}
use Rattle.counter_sets.proofs.LookupLemmas.{pushed_places}
use Rattle.counter_sets.proofs.indexed_set.with_place.Goals as goal

pub returns-in_ok-put-in-Some : goal.returns-in_ok-put-in-Some
returns-in_ok-put-in-Some c = record {
  more = λ set counter named long has.
      pushed_places c.in-Some.places c.put.new.self (chars c.args.name.now) c.args.place set counter named long c.in_ok-put-in-Some.ensures.ok (subst (λ places. HasPlaces places set) c.in-Some.is has);
}
