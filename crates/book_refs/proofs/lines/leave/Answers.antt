use Rattle.std.proofs.Common.{ap, arith, option_copied, sym, ◌∙◌}
use Rattle.plain_types.specs.declared.box_kind.BoxKind.TheVariants.{After}
use Rattle.ports.specs.Grown.{grown}
use Rattle.ports.proofs.GrownLemmas.{front_same, on_err}
use Rattle.book_refs.proofs.BoxTexts.{entry_text, last_costs}
use Rattle.book_refs.proofs.ShownLines.{last_bytes, no_last}
use Rattle.book_refs.proofs.lines.leave.Goals as goal

pub put_box-requires-clause-live : goal.put_box-requires-clause-live
put_box-requires-clause-live g c = c.requires.node.live

pub put_box-requires-clause-text : goal.put_box-requires-clause-text
put_box-requires-clause-text g c = entry_text c.args.own.now c.args.key c.in-Some.entry.now After (sym c.requires.node.entry ∙ ap option_copied c.in-Some.is)

pub returns-in_err-put_box-clause-failed : goal.returns-in_err-put_box-clause-failed
returns-in_err-put_box-clause-failed g c =
    on_err _ (front_same (last_bytes c.args.volume.now c.args.own.now c.args.key) c.in_err-put_box.ensures.failed)

pub returns-in_err-put_box-clause-steps : goal.returns-in_err-put_box-clause-steps
returns-in_err-put_box-clause-steps g c =
    let costs = last_costs c.args.own.now c.args.volume.now c.args.key c.in-Some.entry.now (sym c.requires.node.entry ∙ ap option_copied c.in-Some.is) in
    omega (arith, costs, c.put_box.ensures.steps)

pub returns-in_ok-put_box-clause-ok : goal.returns-in_ok-put_box-clause-ok
returns-in_ok-put_box-clause-ok g c =
    c.in_ok-put_box.ensures.ok ∙ ap (grown (g.O.Sink.out c.args.out.now)) (last_bytes c.args.volume.now c.args.own.now c.args.key)

pub returns-in_ok-put_box-clause-steps : goal.returns-in_ok-put_box-clause-steps
returns-in_ok-put_box-clause-steps g c =
    let costs = last_costs c.args.own.now c.args.volume.now c.args.key c.in-Some.entry.now (sym c.requires.node.entry ∙ ap option_copied c.in-Some.is) in
    omega (arith, costs, c.put_box.ensures.steps)

pub returns-in_default-clause-ok : goal.returns-in_default-clause-ok
returns-in_default-clause-ok g c =
    no_last c.args.volume.now c.args.own.now c.args.key (g.O.Sink.out c.args.out.now) (sym c.requires.node.entry ∙ ap option_copied c.in_default.is)
