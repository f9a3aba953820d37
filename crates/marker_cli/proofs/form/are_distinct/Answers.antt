use Rattle.std.proofs.Common.{arith, refl}
use Rattle.marker_cli.proofs.FormLemmas.{all_apart, apart_more}
use Rattle.marker_cli.proofs.form.are_distinct.Goals as goal

pub loop-place-preserved : goal.loop-place-preserved
loop-place-preserved c =
    apart_more c.args.names.now c.loop-place.place c.index-names-place.result c.loop-place-test.true c.index-names-place.is c.loop-place.invariant
    (c.is_new.ensures.same.0 c.if-not-is_new.false)

pub returns : goal.returns
returns c = record { same = (λ yes. all_apart c.args.names.now c.loop-place.place (omega (arith, c.loop-place-test.false)) c.loop-place.invariant, λ apart. refl) }
