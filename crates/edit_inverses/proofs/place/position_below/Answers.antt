use Rattle.std.proofs.Common.{◌≡◌, true, false, length, None, slice_get, refl, sym, ◌∙◌, arith}
use Rattle.std.proofs.lemmas.Grind.{common_steps}
use Rattle.std.proofs.lemmas.Option.{gets}
use Rattle.node_arena.specs.AtPaths.{leads_into}
use Rattle.node_arena.proofs.MoveLaws.{leads-into-test}
use Rattle.edit_inverses.specs.Places.{position_below}
use Rattle.edit_inverses.proofs.place.position_below.Goals as goal

pub returns-then-starts_with : goal.returns-then-starts_with
returns-then-starts_with c =
    let into : leads_into c.args.parent.now c.args.path.now ≡ true =
    leads-into-test c.args.parent.now c.args.path.now c.args.parent.now c.args.path.now c.starts_with.result refl refl c.starts_with.ensures.value ∙ c.if-starts_with.true in
    let is : position_below c.args.parent.now c.args.path.now ≡ slice_get c.args.path.now (length c.args.parent.now) = rw into refl in
    let got : c.copied.result ≡ slice_get c.args.path.now (length c.args.parent.now) = grind (arith, common_steps, gets) in
    got ∙ sym is

pub returns : goal.returns
returns c =
    let out : leads_into c.args.parent.now c.args.path.now ≡ false =
    leads-into-test c.args.parent.now c.args.path.now c.args.parent.now c.args.path.now c.starts_with.result refl refl c.starts_with.ensures.value ∙ c.if-starts_with.false in
    let is : position_below c.args.parent.now c.args.path.now ≡ None = rw out refl in
    sym is
