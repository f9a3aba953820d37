use Rattle.std.proofs.Common.{ap, cond, sym, ◌∙◌, ◌++◌, ◌∷◌, []}
use Rattle.std.proofs.lemmas.List.{take_all}
use Rattle.std.specs.Str.{chars}
use Rattle.box_eval.specs.Groups.{is_change_of}
use Rattle.box_eval.specs.Starts.{events_of}
use Rattle.box_eval.proofs.GroupLemmas.{none_grouped, one_more}
use Rattle.box_eval.proofs.changed_starts.ChangedStarts.of.Goals as goal

pub loop-change-init : goal.loop-change-init
loop-change-init c = none_grouped [] c.new-groups.result c.new-groups.ensures.empty

pub loop-change-preserved : goal.loop-change-preserved
loop-change-preserved c = λ counter text.
    let change = c.change-item.result in
    c.in_ok-add.ensures.added counter text
    ∙ ap (λ events. cond (is_change_of counter change) (events ++ change.event ∷ []) events) (c.loop-change.invariant counter text)
    ∙ sym (one_more counter c.args.changes.now c.loop-change.change-index change c.loop-change-test.true c.change-item.is)

pub invariant_of-result : goal.invariant_of-result
invariant_of-result c = λ counter text.
    c.loop-change.invariant counter text
    ∙ ap (λ changes. events_of changes counter.creator (chars counter.name.now)) (take_all c.loop-change.change-index c.args.changes.now c.loop-change-test.false)
