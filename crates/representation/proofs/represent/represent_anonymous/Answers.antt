use Rattle.std.proofs.Common.{◌≡◌, ◌<◌, ◌+◌, ◌^◌, [], length, unwrap_or, unsigned_abs, refl, sym, ap, ◌∙◌, arith}
use Rattle.std.specs.Fmt.{signed_decimal}
use Rattle.std.specs.Str.{chars}
use Rattle.std.proofs.lemmas.Int.{to_z-of_z}
use Rattle.std.proofs.lemmas.Result.{IfOk-weaker}
use Rattle.plain_types.specs.declared.style_ref.StyleRef.TheVariants.{Symbols}
use Rattle.css_definitions.specs.Representation.{anonymous_style, represented, representation}
use Rattle.css_definitions.proofs.FallbackLaws.{represented-anonymous, represented-decimal}
use Rattle.representation.proofs.RepresentLemmas.{abs-small, represented-writes, represented-decimal_name, chosen-supplied, chosen-unsupplied}
use Rattle.representation.proofs.represent.represent_anonymous.Goals.{then-is_supplied+in_ok-text+in_default, else-is_supplied}
use Rattle.representation.proofs.represent.represent_anonymous.Goals as goal

pub returns-in-Some : goal.returns-in-Some
returns-in-Some c =
    let fits = c.ranges.value in
    let wrote = simp to_z-of_z at c.in_ok-text.ensures.text in
    record {
      text =
          sym (ap (λ style. represented c.args.table.now style c.args.value) (chosen-supplied c.args.table.now (Symbols c.args.anonymous.now) c.args.anonymous.now c.len.result c.is_supplied.result refl c.len.ensures.length c.is_supplied.ensures.test c.if-is_supplied.true)
          ∙ represented-writes c.args.table.now c.args.value (anonymous_style c.args.anonymous.now) c.in-Some.text (sym wrote ∙ c.in-Some.is));
    }

pub returns : goal.returns
unfolding chars
returns c =
    let fits = c.ranges.value in
    let named = simp to_z-of_z at c.represent_named.ensures.text in
    let small : unsigned_abs c.args.value < 2 ^ 64 = abs-small c.args.value (omega (arith, c.ranges.value.sfits)) in
    let meant : representation c.args.table.now (Symbols c.args.anonymous.now) c.args.value ≡ signed_decimal c.args.value =
    elim c.if-is_supplied.branch [
      | then-is_supplied+in_ok-text+in_default w ↦
          let wrote = simp to_z-of_z at w.in_ok-text.ensures.text in
          ap (λ style. represented c.args.table.now style c.args.value) (chosen-supplied c.args.table.now (Symbols c.args.anonymous.now) c.args.anonymous.now c.len.result c.is_supplied.result refl c.len.ensures.length c.is_supplied.ensures.test w.if-is_supplied.true)
          ∙ represented-anonymous c.args.table.now c.args.value c.args.anonymous.now c.represent_named.ensures.table small
          ∙ ap (λ own. unwrap_or own (signed_decimal c.args.value)) (sym wrote ∙ w.in_default.is)
      | else-is_supplied w ↦
          ap (λ style. represented c.args.table.now style c.args.value) (chosen-unsupplied c.args.table.now (Symbols c.args.anonymous.now) c.args.anonymous.now c.len.result c.is_supplied.result refl c.len.ensures.length c.is_supplied.ensures.test w.if-is_supplied.false)
          ∙ represented-decimal c.args.table.now c.args.value (length c.args.table.now + 1) [] small
    ] in
    record {
      text = IfOk-weaker c.represent_named.result _ _ (λ text e. e ∙ represented-decimal_name c.args.table.now c.args.value c.represent_named.ensures.table small ∙ sym meant) named;
    }
