use Rattle.std.proofs.Common.{◌≡◌, ◌≤◌, ◌+◌, ◌++◌, ◌∷◌, ◌∙◌, [], ap, drop, length, rules, subst, sym}
use Rattle.std.proofs.lemmas.List.{drop_all}
use Rattle.target_index.specs.Changes.{AreReserved, holds_after_all, refers_after_all}
use Rattle.target_index.specs.Holders.{is_holder, is_reference}
use Rattle.target_index.proofs.ReservedLemmas.{front_reserved, next_change}
use Rattle.target_index.proofs.index.Index.commit.Goals as goal

pub apply-requires : goal.apply-requires
apply-requires c =
    let next = next_change c.as_slice-change-items.result.now c.loop-change.change-index c.change-item.result c.loop-change-test.true c.change-item.is in
    record {
      reserved = front_reserved c.loop-change.self (c.change-item.result ∷ []) (drop (c.loop-change.change-index + 1) c.as_slice-change-items.result.now) (subst (AreReserved c.loop-change.self) next c.loop-change.invariant.reserved);
    }

pub loop-change-preserved : goal.loop-change-preserved
loop-change-preserved c =
    let next = next_change c.as_slice-change-items.result.now c.loop-change.change-index c.change-item.result c.loop-change-test.true c.change-item.is in
    let rest = drop (c.loop-change.change-index + 1) c.as_slice-change-items.result.now in
    record {
      holders = λ id key.
          ap (holds_after_all rest id key) (c.apply.ensures.holders id key) ∙ sym (ap (λ changes. holds_after_all changes id key (is_holder c.loop-change.self id key)) next) ∙ c.loop-change.invariant.holders id key;
      references = λ id key.
          ap (refers_after_all rest id key) (c.apply.ensures.references id key) ∙ sym (ap (λ changes. refers_after_all changes id key (is_reference c.loop-change.self id key)) next) ∙ c.loop-change.invariant.references id key;
      reserved = c.apply.ensures.reserved rest (subst (AreReserved c.loop-change.self) next c.loop-change.invariant.reserved);
      behind = λ more all. c.apply.ensures.reserved (rest ++ more) (subst (λ changes. AreReserved c.loop-change.self (changes ++ more)) next (c.loop-change.invariant.behind more all));
    }

pub returns-clause-reserved : goal.returns-clause-reserved
returns-clause-reserved c more all =
    let items = c.as_slice-change-items.result.now in
    let past : length items ≤ c.loop-change.change-index = search rules in
    let none : drop c.loop-change.change-index items ≡ [] = drop_all c.loop-change.change-index items past in
    subst (λ rest. AreReserved c.loop-change.self (rest ++ more)) none
    (c.loop-change.invariant.behind more (subst (λ changes. AreReserved c.args.self.now (changes ++ more)) (sym c.as_slice-change-items.ensures.items) all))
