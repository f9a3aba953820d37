use Rattle.std.proofs.Common.{◌≡◌, ◌++◌, ◌∙◌, List, ap, nat_eq, subst, sym}
use Rattle.std.specs.List.{list_any}
use Rattle.target_index.specs.Changes.{AreReserved, refers_after_all}
use Rattle.target_index.proofs.ReservedLemmas.{front_reserved}
use Rattle.target_index.specs.declared.change.IndexChange.{IndexChange}
use Rattle.target_index.specs.Holders.{is_reference}
use Rattle.dirty_walk.specs.Exchanges.{exchanges}
use Rattle.dirty_walk.proofs.ReferenceLemmas.{exchanges_keep}
use Rattle.dirty_walk.proofs.exchange.exchange.Goals as goal

pub commit-requires : goal.commit-requires
commit-requires c =
    let changes = exchanges c.args.leaving.now c.args.coming.now in
    let back = exchanges c.args.coming.now c.args.leaving.now in
    let first : c.put_exchange.new.changes ≡ changes = c.in_ok-put_exchange.ensures.ok ∙ ap (λ all. all ++ changes) c.new-changes.ensures.empty in
    let both : c.as_slice.result.now ≡ changes ++ back = c.as_slice.ensures.items
    ∙ c.in_ok-put_exchange-4.ensures.ok
    ∙ ap (λ all. all ++ back) (c.in_ok-put_exchange-3.ensures.ok ∙ ap (λ all. all ++ changes) c.new-both.ensures.empty) in
    record {
      reserved = subst (AreReserved c.reserve_for.new.self) (sym first) (front_reserved c.reserve_for.new.self changes back (subst (AreReserved c.reserve_for.new.self) both c.in_ok-reserve_for.ensures.reserved));
    }

pub returns-clause-reserved : goal.returns-clause-reserved
returns-clause-reserved c =
    let changes = exchanges c.args.leaving.now c.args.coming.now in
    let back = exchanges c.args.coming.now c.args.leaving.now in
    let first : c.put_exchange.new.changes ≡ changes = c.in_ok-put_exchange.ensures.ok ∙ ap (λ all. all ++ changes) c.new-changes.ensures.empty in
    let second : c.put_exchange-2.new.changes ≡ back = c.in_ok-put_exchange-2.ensures.ok ∙ ap (λ all. all ++ back) c.new-back.ensures.empty in
    let both : c.as_slice.result.now ≡ changes ++ back = c.as_slice.ensures.items
    ∙ c.in_ok-put_exchange-4.ensures.ok
    ∙ ap (λ all. all ++ back) (c.in_ok-put_exchange-3.ensures.ok ∙ ap (λ all. all ++ changes) c.new-both.ensures.empty) in
    subst (AreReserved c.commit.new.self) (sym second)
    (c.commit.ensures.reserved back (subst (λ all. AreReserved c.reserve_for.new.self (all ++ back)) (sym first) (subst (AreReserved c.reserve_for.new.self) both c.in_ok-reserve_for.ensures.reserved)))

pub returns-in_err-reserve_for-clause-references : goal.returns-in_err-reserve_for-clause-references
returns-in_err-reserve_for-clause-references c id key = ap (list_any (nat_eq key)) (c.reserve_for.ensures.references id)

pub returns-clause-references : goal.returns-clause-references
returns-clause-references c id key =
    let changes = exchanges c.args.leaving.now c.args.coming.now in
    let first : c.put_exchange.new.changes ≡ changes = c.in_ok-put_exchange.ensures.ok ∙ ap (λ all. all ++ changes) c.new-changes.ensures.empty in
    c.commit.ensures.references id key
    ∙ ap (λ ids. refers_after_all c.put_exchange.new.changes id key (list_any (nat_eq key) ids)) (c.reserve_for.ensures.references id)
    ∙ ap (λ (all : List IndexChange). refers_after_all all id key (is_reference c.args.index.now id key)) first
    ∙ exchanges_keep id key c.args.leaving.now c.args.coming.now (is_reference c.args.index.now id key)
