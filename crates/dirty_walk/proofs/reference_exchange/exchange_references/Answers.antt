use Rattle.std.proofs.Common.{◌∙◌, ℕ, List, ap, arith, nat_eq, subst, sym}
use Rattle.std.specs.List.{IsDistinct}
use Rattle.edit_work.specs.KeyedSources.{is_among}
use Rattle.kept_elements.proofs.KeyWeights.{no_more}
use Rattle.dirty_walk.proofs.ReferenceExchangeLemmas.{on_comes, on_goes}
use Rattle.dirty_walk.proofs.reference_exchange.exchange_references.Goals as goal

pub returns-clause-references : goal.returns-clause-references
returns-clause-references g c =
    on_comes c.args.board.now.held c.args.takes.now c.args.told.now c.as_slice.result.now
    (λ key. ap (λ (ks : List ℕ). is_among ks key) c.as_slice.ensures.keys ∙ c.in_ok-others.ensures.keys key)
    c.as_slice-2.result.now c.as_slice-3.result.now c.args.index.now c.exchange.new.index c.exchange.result
    (c.as_slice-2.ensures.items ∙ c.in_ok-was.ensures.references) (c.as_slice-3.ensures.items ∙ c.in_ok-is.ensures.references) c.exchange.ensures.references

pub returns-clause-back : goal.returns-clause-back
returns-clause-back g c =
    on_goes c.args.board.now.held c.args.takes.now c.args.told.now c.as_slice.result.now
    (λ key. ap (λ (ks : List ℕ). is_among ks key) c.as_slice.ensures.keys ∙ c.in_ok-others.ensures.keys key)
    c.as_slice-2.result.now c.as_slice-3.result.now c.args.index.now c.exchange.new.index c.exchange.result
    (c.as_slice-2.ensures.items ∙ c.in_ok-was.ensures.references) (c.as_slice-3.ensures.items ∙ c.in_ok-is.ensures.references) c.exchange.ensures.references
    c.exchange.ensures.back c.exchange.ensures.reserved

pub returns-in_err-others-clause-most : goal.returns-in_err-others-clause-most
returns-in_err-others-clause-most g c = λ keys all. omega arith

pub returns-in_err-was-clause-most : goal.returns-in_err-was-clause-most
returns-in_err-was-clause-most g c = λ keys all.
    let few = no_more c.as_slice.result.now keys (subst (λ (ks : List ℕ). IsDistinct nat_eq ks) (sym c.as_slice.ensures.keys) c.as_slice.ensures.unique)
    (λ key among. all key (sym (c.in_ok-others.ensures.keys key) ∙ sym (ap (λ (ks : List ℕ). is_among ks key) c.as_slice.ensures.keys) ∙ among)) in
    omega (arith, few, c.references_before.ensures.most)

pub returns-in_err-is-clause-most : goal.returns-in_err-is-clause-most
returns-in_err-is-clause-most g c = λ keys all.
    let few = no_more c.as_slice.result.now keys (subst (λ (ks : List ℕ). IsDistinct nat_eq ks) (sym c.as_slice.ensures.keys) c.as_slice.ensures.unique)
    (λ key among. all key (sym (c.in_ok-others.ensures.keys key) ∙ sym (ap (λ (ks : List ℕ). is_among ks key) c.as_slice.ensures.keys) ∙ among)) in
    omega (arith, few, c.references_before.ensures.most)

pub returns-clause-most : goal.returns-clause-most
returns-clause-most g c = λ keys all.
    let few = no_more c.as_slice.result.now keys (subst (λ (ks : List ℕ). IsDistinct nat_eq ks) (sym c.as_slice.ensures.keys) c.as_slice.ensures.unique)
    (λ key among. all key (sym (c.in_ok-others.ensures.keys key) ∙ sym (ap (λ (ks : List ℕ). is_among ks key) c.as_slice.ensures.keys) ∙ among)) in
    omega (arith, few, c.references_before.ensures.most)
