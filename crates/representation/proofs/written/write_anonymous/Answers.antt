use Rattle.std.proofs.Common.{Some, sym, ap, ◌∙◌, ◌++◌, codes}
use Rattle.std.specs.Str.{chars}
use Rattle.std.proofs.lemmas.Int.{to_z-of_z}
use Rattle.representation.proofs.WrittenLemmas.{written-anonymous, signed-anonymous}
use Rattle.representation.proofs.written.write_anonymous.Goals as goal

pub returns : goal.returns
unfolding chars
returns c =
    let fits = c.ranges.value in
    let draft = simp to_z-of_z at c.in_ok-draft.ensures.text in
    let range = simp to_z-of_z at c.is_in_automatic_range.ensures.test in
    let sign = simp to_z-of_z at c.has_sign.ensures.test in
    record {
      text =
          ap Some (c.in_ok-push_str.ensures.ok ∙ ap (λ start. start ++ chars c.as_str.result.now) c.in_ok-signed.ensures.characters ∙ ap (λ text. codes "-" ++ text) c.as_str.ensures.characters ∙ sym (signed-anonymous c.args.anonymous.now c.args.value c.in-Some-finish.text (sym sign ∙ c.if-not-has_sign.false)))
          ∙ sym (written-anonymous c.args.anonymous.now c.args.value c.in-Some-finish.text (sym range ∙ c.if-not-is_in_automatic_range.false) (rw (← c.as_slice-symbols.ensures.items) (sym draft ∙ c.in-Some.is ∙ ap Some (sym c.finish.ensures.text ∙ c.in-Some-finish.is))));
    }
