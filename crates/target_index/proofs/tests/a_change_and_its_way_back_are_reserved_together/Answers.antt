use Rattle.std.proofs.Common.{◌≡◌, ◌∙◌, ◌∷◌, ◌++◌, [], List, ap, ap₂, codes, subst, sym}
use Rattle.target_index.specs.declared.change.IndexChange.{IndexChange}
use Rattle.target_index.specs.declared.change.IndexChange.TheVariants.{Hold, Unhold}
use Rattle.target_index.specs.Changes.{AreReserved}
use Rattle.target_index.proofs.ReservedLemmas.{front_reserved}
use Rattle.target_index.proofs.tests.a_change_and_its_way_back_are_reserved_together.Goals as goal

pub commit-requires : goal.commit-requires
commit-requires g c =
    let change : IndexChange = Hold (codes "x") 1 in
    let back : IndexChange = Unhold (codes "x") 1 in
    let both : c.as_slice.result.now ≡ change ∷ (back ∷ []) = c.as_slice.ensures.items
    ∙ c.in_ok-push.ensures.ok
    ∙ ap₂ (λ (changes : List IndexChange) (last : IndexChange). changes ++ last ∷ []) (c.in_ok-both.ensures.list ∙ ap (λ first. first ∷ []) c.in_ok-held.ensures.change) c.in_ok-unheld.ensures.change in
    let one : c.in_ok-change.change ≡ change ∷ [] = c.in_ok-change.ensures.list ∙ ap (λ first. first ∷ []) c.in_ok-held-2.ensures.change in
    record {
      reserved = subst (AreReserved c.reserve_for.new.self) (sym one) (front_reserved c.reserve_for.new.self (change ∷ []) (back ∷ []) (subst (AreReserved c.reserve_for.new.self) both c.in_ok-reserve_for.ensures.reserved));
    }
