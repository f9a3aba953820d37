use Rattle.std.proofs.Common.{Some, sym, ap, ◌∙◌}
use Rattle.std.proofs.lemmas.Int.{to_z-of_z}
use Rattle.representation.proofs.WrittenLemmas.{written-too_long}
use Rattle.representation.proofs.written.write_style.Goals as goal

pub returns-in_default-finish : goal.returns-in_default-finish
returns-in_default-finish c =
    let fits = c.ranges.value in
    let draft = simp to_z-of_z at c.in_ok-draft.ensures.text in
    record {
      text =
          sym (written-too_long c.args.style.now c.args.value
          (rw (← c.as_slice-symbols.ensures.items, ← c.as_slice-tuples.ensures.items) (sym draft ∙ c.in-Some.is ∙ ap Some (sym c.finish.ensures.text ∙ c.in_default-finish.is))));
    }
