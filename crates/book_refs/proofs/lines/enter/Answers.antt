use Rattle.std.proofs.Common.{ap, arith, refl, sym, ◌∙◌}
use Rattle.plain_types.specs.declared.box_kind.BoxKind.TheVariants.{Before, Marker}
use Rattle.ports.specs.Grown.{grown}
use Rattle.ports.proofs.GrownLemmas.{front_more, front_same, front_step, grown_after, on_err}
use Rattle.book_refs.proofs.BoxTexts.{entry_text, first_costs}
use Rattle.book_refs.proofs.PutCauses.{caused_after}
use Rattle.book_refs.proofs.ShownLines.{first_bytes, no_first, one_step}
use Rattle.book_refs.proofs.lines.enter.Goals as goal

pub put_box-requires-clause-text : goal.put_box-requires-clause-text
put_box-requires-clause-text g c = entry_text c.args.own.now c.args.key c.in-Some.entry.now Marker (sym c.in-Some.ensures.entry)

pub put_box-requires-2-clause-text : goal.put_box-requires-2-clause-text
put_box-requires-2-clause-text g c = entry_text c.args.own.now c.args.key c.in-Some.entry.now Before (sym c.in-Some.ensures.entry)

pub returns-in_err-put_box-clause-failed : goal.returns-in_err-put_box-clause-failed
returns-in_err-put_box-clause-failed g c =
    on_err _ (front_same (first_bytes c.args.volume.now c.args.own.now c.args.key) (front_more _ c.in_err-put_box.ensures.failed))

pub returns-in_err-put_box-clause-steps : goal.returns-in_err-put_box-clause-steps
returns-in_err-put_box-clause-steps g c =
    let costs = first_costs c.args.own.now c.args.volume.now c.args.key c.in-Some.entry.now (sym c.in-Some.ensures.entry) in
    let one = one_step c.in-Some.entry.now _ c.in-Some.ensures.entry in
    omega (arith, costs, one, c.entry.ensures.steps, c.put_box.ensures.steps)

pub returns-in_err-put_box-2-clause-failed : goal.returns-in_err-put_box-2-clause-failed
returns-in_err-put_box-2-clause-failed g c =
    on_err _ (front_same (first_bytes c.args.volume.now c.args.own.now c.args.key) (front_step c.in_ok-put_box.ensures.ok refl c.in_err-put_box-2.ensures.failed))

pub returns-in_err-put_box-2-clause-steps : goal.returns-in_err-put_box-2-clause-steps
returns-in_err-put_box-2-clause-steps g c =
    let costs = first_costs c.args.own.now c.args.volume.now c.args.key c.in-Some.entry.now (sym c.in-Some.ensures.entry) in
    let one = one_step c.in-Some.entry.now _ c.in-Some.ensures.entry in
    omega (arith, costs, one, c.entry.ensures.steps, c.put_box.ensures.steps, c.in_err-put_box-2.ensures.steps)

pub returns-in_err-put_box-2-clause-cause : goal.returns-in_err-put_box-2-clause-cause
returns-in_err-put_box-2-clause-cause g c =
    caused_after (g.O.Sink.faults c.args.out.now) _ _ c.in_err-put_box-2.field-0.0 c.from_residual-in_err-put_box-2.result c.from_residual-in_err-put_box-2.ensures
    c.in_ok-put_box.ensures.cause.later c.in_err-put_box-2.ensures.cause

pub returns-in_default-clause-ok : goal.returns-in_default-clause-ok
returns-in_default-clause-ok g c = no_first c.args.volume.now c.args.own.now c.args.key (g.O.Sink.out c.args.out.now) (sym c.in_default.ensures.entry)

pub returns-clause-ok : goal.returns-clause-ok
returns-clause-ok g c =
    grown_after _ _ _ _ _ c.in_ok-put_box.ensures.ok c.in_ok-put_box-2.ensures.ok
    ∙ ap (grown (g.O.Sink.out c.args.out.now)) (first_bytes c.args.volume.now c.args.own.now c.args.key)

pub returns-clause-cause : goal.returns-clause-cause
returns-clause-cause g c = record { later = omega (arith, c.in_ok-put_box.ensures.cause.later, c.in_ok-put_box-2.ensures.cause.later); cause = tt }

pub returns-clause-steps : goal.returns-clause-steps
returns-clause-steps g c =
    let costs = first_costs c.args.own.now c.args.volume.now c.args.key c.in-Some.entry.now (sym c.in-Some.ensures.entry) in
    let one = one_step c.in-Some.entry.now _ c.in-Some.ensures.entry in
    omega (arith, costs, one, c.entry.ensures.steps, c.put_box.ensures.steps, c.in_ok-put_box-2.ensures.steps)
