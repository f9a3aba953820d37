use Rattle.std.proofs.Common.{◌≡◌, Bool, true, false, List, ◌++◌, sym, ◌∙◌}
use Rattle.std.proofs.lemmas.List.{append-nil}
use Rattle.plain_types.specs.declared.declaration.Declared.{Declared}
use Rattle.mini_cascade.specs.Declarations.{Applied, counts_for, declared_with, ranked, rule_rank}
use Rattle.mini_cascade.proofs.Appending.{appended, passing, map-filter}
use Rattle.mini_cascade.proofs.applicable.add_declared.Goals as goal
use Rattle.mini_cascade.proofs.applicable.add_declared.Goals.{then-counts_for+in_ok-push, else-counts_for}

pub loop-declared-preserved : goal.loop-declared-preserved
loop-declared-preserved c =
    let test : Declared → Bool = λ d. counts_for c.args.pseudo d.what in
    let make : Declared → Applied = λ d. ranked (rule_rank c.args.origin d.important c.args.specificity) d.what in
    let item = c.declared-item.result in
    let met = λ (next : List Applied) (is : next ≡ c.loop-declared.list ++ passing test make item).
    appended (passing test make) (λ block. declared_with c.args.pseudo c.args.origin block c.args.specificity) (map-filter test make)
    c.args.block.now c.loop-declared.declared-index item _ next _ c.loop-declared-test.true c.declared-item.is is c.loop-declared.invariant in
    elim c.if-counts_for.branch [
      | then-counts_for+in_ok-push w ↦
          let passes : test item ≡ true = sym c.counts_for.ensures ∙ w.if-counts_for.true in
          rw w.list-is (met _ (rw passes (rw w.cascade_level-level.ensures at w.in_ok-push.ensures.ok)))
      | else-counts_for w ↦
          let fails : test item ≡ false = sym c.counts_for.ensures ∙ w.if-counts_for.false in
          rw w.list-is (met _ (rw fails (sym (append-nil (c.loop-declared.list)))))
    ]
