use Rattle.std.proofs.Common.{◌≡◌, ◌∙◌, ap, rules, pos, to_z, of_z, w64}
use Rattle.std.specs.Option.{option_map_or}
use Rattle.std.specs.Str.{chars}
use Rattle.plain_types.specs.declared.counter.Counter.{Counter}
use Rattle.box_eval.proofs.element.item_number.Goals as goal

pub returns-in-Some : goal.returns-in-Some
unfolding chars
returns-in-Some c =
    let value = c.in-Some.counter.now.value in
    let same : to_z w64 (of_z w64 value) ≡ value = search rules in
    record { number = same ∙ ap (λ found. option_map_or (λ (counter : Counter). counter.value) found (pos 0)) c.in-Some.ensures.innermost }

pub returns-in-None : goal.returns-in-None
unfolding chars
returns-in-None c = record { number = ap (λ found. option_map_or (λ (counter : Counter). counter.value) found (pos 0)) c.in-None.ensures.innermost }
