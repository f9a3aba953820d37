use Rattle.std.proofs.Common.{◌∙◌, ◌&&◌, ◌||◌, nat_eq, ap, sym}
use Rattle.std.proofs.lemmas.List.{take_all}
use Rattle.mini_cascade.specs.Machinery.Shelves.{has_slot, passes_at}
use Rattle.mini_cascade.proofs.Places.{passes_taken}
use Rattle.mini_cascade.proofs.shelves.Shelves.of.Goals as goal

pub loop-place-preserved : goal.loop-place-preserved
loop-place-preserved c slot one =
    let rule = c.index-rules-place.result in
    c.in_ok-file_rule.ensures.ok slot one
    ∙ ap (λ b. b || (has_slot slot rule && nat_eq one c.loop-place.place)) (c.loop-place.invariant slot one)
    ∙ sym (passes_taken (has_slot slot) c.args.rules.now rule c.loop-place.place one c.loop-place-test.true c.index-rules-place.is)

pub returns : goal.returns
returns c = record {
  filed = λ slot place. c.loop-place.invariant slot place ∙ ap (λ rules. passes_at (has_slot slot) rules place) (take_all c.loop-place.place c.args.rules.now c.loop-place-test.false);
}
