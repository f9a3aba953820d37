use Rattle.std.proofs.Common.{sym, ◌∙◌, arith}
use Rattle.std.specs.Str.{chars}
use Rattle.std.proofs.lemmas.Int.{to_z-of_z}
use Rattle.std.proofs.lemmas.Result.{IfOk-weaker}
use Rattle.representation.proofs.RepresentLemmas.{abs-small, represented-named, represented-unknown}
use Rattle.representation.proofs.represent.represent_named.Goals as goal

pub returns-in-Some-clause-text : goal.returns-in-Some-clause-text
returns-in-Some-clause-text c =
    let fits = c.ranges.value in
    let from = simp to_z-of_z at c.follow_fallbacks.ensures.text in
    IfOk-weaker c.follow_fallbacks.result _ _ (λ text e. represented-named c.args.table.now c.args.value (chars c.args.name.now) text c.in-Some.place (sym c.find.ensures.place ∙ c.in-Some.is) e) from

pub returns-in-None-clause-text : goal.returns-in-None-clause-text
returns-in-None-clause-text c =
    let fits = c.ranges.value in
    let last = simp to_z-of_z at c.decimal.ensures.text in
    IfOk-weaker c.decimal.result _ _ (λ text e. e ∙ sym (represented-unknown c.args.table.now c.args.value (chars c.args.name.now) (sym c.find.ensures.place ∙ c.in-None.is) (abs-small c.args.value (omega (arith, c.ranges.value.sfits))))) last
