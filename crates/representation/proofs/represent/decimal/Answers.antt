use Rattle.std.proofs.Common.{arith, ap, ◌∙◌}
use Rattle.std.specs.Fmt.{signed_decimal}
use Rattle.std.specs.Str.{chars}
use Rattle.std.proofs.lemmas.Fmt.{IsAscii-signed}
use Rattle.std.proofs.lemmas.Int.{to_z-of_z}
use Rattle.std.proofs.lemmas.Result.{IfOk-weaker}
use Rattle.std.proofs.lemmas.Str.{chars-IsAscii}
use Rattle.representation.proofs.represent.decimal.Goals as goal

pub returns : goal.returns
returns c =
    let fits = c.ranges.value in
    let digits = simp to_z-of_z at c.in_ok-digits.ensures.ok in
    record {
      text =
          IfOk-weaker c.from_str.result _ _
          (λ text e. e ∙ ap chars (c.as_str.ensures.value ∙ digits) ∙ chars-IsAscii (signed_decimal c.args.value) (IsAscii-signed c.args.value (omega (arith, c.ranges.value.sfits))))
          c.from_str.ensures.characters;
    }
