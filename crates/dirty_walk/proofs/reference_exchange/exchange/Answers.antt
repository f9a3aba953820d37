use Rattle.std.proofs.Common.{◌++◌, ◌∙◌, List, ap, nat_eq, subst, sym}
use Rattle.std.specs.List.{list_any}
use Rattle.target_index.proofs.ReservedLemmas.{both_reserved}
use Rattle.target_index.specs.Changes.{AddsNoHolders, holds_after_all, refers_after_all}
use Rattle.target_index.specs.Holders.{is_holder, is_reference}
use Rattle.target_index.specs.declared.change.IndexChange.{IndexChange}
use Rattle.dirty_walk.specs.Machinery.ReferenceLists.{exchanged}
use Rattle.dirty_walk.proofs.ReferenceExchangeLemmas.{appended, exchanged_hold, exchanged_none, made_reserved, way_reserved}
use Rattle.dirty_walk.proofs.reference_exchange.exchange.Goals as goal

pub commit-requires : goal.commit-requires
commit-requires c =
    let changes = exchanged c.args.was.now c.args.is.now in
    let back = exchanged c.args.is.now c.args.was.now in
    record {
      reserved = made_reserved c.reserve_for.new.self changes back c.put_exchange.new.changes c.put_exchange-2.new.changes c.as_slice.result.now
          (appended changes c.new-changes.ensures.empty c.in_ok-put_exchange.ensures.ok)
          (appended back c.new-back.ensures.empty c.in_ok-put_exchange-2.ensures.ok)
          (c.as_slice.ensures.items ∙ c.in_ok-put_exchange-4.ensures.ok ∙ ap (λ all. all ++ back) (appended changes c.new-both.ensures.empty c.in_ok-put_exchange-3.ensures.ok))
          c.in_ok-reserve_for.ensures.reserved;
    }

pub returns-clause-reserved : goal.returns-clause-reserved
returns-clause-reserved c =
    let changes = exchanged c.args.was.now c.args.is.now in
    let back = exchanged c.args.is.now c.args.was.now in
    c.commit.ensures.reserved c.put_exchange-2.new.changes
    (way_reserved c.reserve_for.new.self changes back c.put_exchange.new.changes c.put_exchange-2.new.changes c.as_slice.result.now
    (appended changes c.new-changes.ensures.empty c.in_ok-put_exchange.ensures.ok)
    (appended back c.new-back.ensures.empty c.in_ok-put_exchange-2.ensures.ok)
    (c.as_slice.ensures.items ∙ c.in_ok-put_exchange-4.ensures.ok ∙ ap (λ all. all ++ back) (appended changes c.new-both.ensures.empty c.in_ok-put_exchange-3.ensures.ok))
    c.in_ok-reserve_for.ensures.reserved)

pub returns-in_err-reserve_for-clause-holders : goal.returns-in_err-reserve_for-clause-holders
returns-in_err-reserve_for-clause-holders c id key = ap (list_any (nat_eq key)) (c.reserve_for.ensures.holders id)

pub returns-in_err-reserve_for-clause-stay : goal.returns-in_err-reserve_for-clause-stay
returns-in_err-reserve_for-clause-stay c more none there = c.reserve_for.ensures.stay more there

pub returns-clause-references : goal.returns-clause-references
returns-clause-references c id key =
    c.commit.ensures.references id key
    ∙ ap (λ ids. refers_after_all c.put_exchange.new.changes id key (list_any (nat_eq key) ids)) (c.reserve_for.ensures.references id)
    ∙ ap (λ (all : List IndexChange). refers_after_all all id key (is_reference c.args.index.now id key))
    (appended (exchanged c.args.was.now c.args.is.now) c.new-changes.ensures.empty c.in_ok-put_exchange.ensures.ok)

pub returns-clause-holders : goal.returns-clause-holders
returns-clause-holders c id key =
    c.commit.ensures.holders id key
    ∙ ap (λ ids. holds_after_all c.put_exchange.new.changes id key (list_any (nat_eq key) ids)) (c.reserve_for.ensures.holders id)
    ∙ ap (λ (all : List IndexChange). holds_after_all all id key (is_holder c.args.index.now id key))
    (appended (exchanged c.args.was.now c.args.is.now) c.new-changes.ensures.empty c.in_ok-put_exchange.ensures.ok)
    ∙ exchanged_hold id key c.args.was.now c.args.is.now (is_holder c.args.index.now id key)

pub returns-clause-stay : goal.returns-clause-stay
returns-clause-stay c more none there =
    let changes = exchanged c.args.was.now c.args.is.now in
    let back = exchanged c.args.is.now c.args.was.now in
    let made = c.put_exchange.new.changes in
    let first = appended changes c.new-changes.ensures.empty c.in_ok-put_exchange.ensures.ok in
    c.commit.ensures.reserved more
    (both_reserved made more c.reserve_for.new.self (subst AddsNoHolders (sym first) (exchanged_none c.args.was.now c.args.is.now)) none
    (made_reserved c.reserve_for.new.self changes back made c.put_exchange-2.new.changes c.as_slice.result.now first
    (appended back c.new-back.ensures.empty c.in_ok-put_exchange-2.ensures.ok)
    (c.as_slice.ensures.items ∙ c.in_ok-put_exchange-4.ensures.ok ∙ ap (λ all. all ++ back) (appended changes c.new-both.ensures.empty c.in_ok-put_exchange-3.ensures.ok))
    c.in_ok-reserve_for.ensures.reserved)
    (c.reserve_for.ensures.stay more there))
