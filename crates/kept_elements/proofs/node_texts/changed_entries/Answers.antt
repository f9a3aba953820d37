use Rattle.std.proofs.Common.{◌≡◌, ◌+◌, ◌++◌, ◌∷◌, [], ◌∙◌, ℕ, List, Some, ap, sym, subst, arith, take}
use Rattle.std.specs.FinMap.{get}
use Rattle.kept_elements.specs.declared.kept_change.KeptChange.{KeptChange}
use Rattle.kept_elements.specs.Changes.{AreChanges, change_from}
use Rattle.kept_elements.specs.Evaluations.{all_kept_of, kept_of}
use Rattle.kept_elements.proofs.ChangeLemmas.{change_more, none_more}
use Rattle.kept_elements.proofs.node_texts.changed_entries.Goals as goal
use Rattle.kept_elements.proofs.node_texts.changed_entries.Goals.{in-Some+in_ok-push, in_default}

pub loop-key-preserved : goal.loop-key-preserved
loop-key-preserved g c =
    let known = g.T.Targets.known c.args.targets.now in
    let records = c.args.records.now in
    let place = c.loop-key.key-index in
    let entry = c.loop-key-item.result in
    let held = c.args.board.now.held in
    let before = c.loop-key.changes.items in
    let make = kept_of c.args.table.now known in
    let all = all_kept_of c.args.table.now known (take (place + 1) records) in
    let same = c.in_ok-kept.ensures.kept in
    record {
      changes = elim c.match-branch-3.branch [
        | in-Some+in_ok-push w ↦
            let found : (w.in-Some.change ≡ change_from held entry.0 c.in_ok-kept.kept) × (get held entry.0 ≡ Some c.in_ok-kept.kept → ⊥) = rw w.in-Some.is at c.in_ok-change.ensures.some in
            let pushed : c.match-branch-3.changes.items ≡ before ++ (entry.0, change_from held entry.0 (make entry.1)) ∷ [] =
            ap (λ v. v.items) w.changes-is ∙ w.in_ok-push.ensures.ok ∙ ap (λ (change : KeptChange). before ++ (entry.0, change) ∷ []) (found.0 ∙ ap (change_from held entry.0) same) in
            subst (λ (changes : List (ℕ × KeptChange)). AreChanges held all changes) (sym pushed)
            (change_more make records place entry c.loop-key-test.true c.loop-key-item.is held before c.loop-key.invariant.changes (λ there. found.1 (there ∙ ap Some (sym same))))
        | in_default w ↦
            let there : get held entry.0 ≡ Some c.in_ok-kept.kept = rw w.in_default.is at c.in_ok-change.ensures.none in
            let kept : c.match-branch-3.changes.items ≡ before = ap (λ v. v.items) w.changes-is in
            subst (λ (changes : List (ℕ × KeptChange)). AreChanges held all changes) (sym kept)
            (none_more make records place entry c.loop-key-test.true c.loop-key-item.is held before c.loop-key.invariant.changes (there ∙ ap Some same))
      ];
      steps = omega arith;
    }
