use Rattle.std.proofs.Common.{◌≡◌, ◌++◌, ◌||◌, ℕ, ap, ◌∙◌}
use Rattle.std.specs.Prelude.{flat_map}
use Rattle.edit_work.specs.KeyedSources.{is_among}
use Rattle.counter_index.specs.Touched.{by_exchanged, by_moved, touched_keys}
use Rattle.counter_index.proofs.TouchedLemmas.{enough}
use Rattle.counter_index.proofs.index.CounterIndex.touched.Goals as goal

pub returns-clause-enough : goal.returns-clause-enough
returns-clause-enough c =
    let exchanged = flat_map (by_exchanged c.args.self.now) c.args.former.now in
    let gone = flat_map (by_moved c.args.self.now) c.args.moved.now in
    let first = c.in_ok-put_by_all_exchanged.ensures.ok ∙ ap (λ keys. keys ++ exchanged) c.new-found.ensures.empty in
    let found = c.in_ok-put_by_all_moved.ensures.ok ∙ ap (λ keys. keys ++ gone) first in
    let same : (key : ℕ) → is_among c.add_all.new.self key ≡ is_among (touched_keys c.args.self.now c.args.former.now c.args.moved.now) key = λ key.
    c.in_ok-add_all.ensures.ok key
    ∙ ap (λ keys. is_among keys key || is_among c.as_slice.result.now key) c.new-keys.ensures.empty
    ∙ ap (λ keys. is_among keys key) (c.as_slice.ensures.items ∙ found) in
    enough c.args.self.now c.args.former.now c.args.moved.now c.add_all.new.self same
