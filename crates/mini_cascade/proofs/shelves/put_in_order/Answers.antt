use Rattle.std.proofs.Common.{◌∙◌, nat_eq, ap, sym}
use Rattle.std.specs.List.{list_any}
use Rattle.std.proofs.lemmas.Bool.{eqb-true}
use Rattle.std.proofs.lemmas.List.Filters.{dedup_is}
use Rattle.std.proofs.lemmas.List.Sorted.{list_any-IsPermutation}
use Rattle.std.proofs.lemmas.Map.Keys.{IsStrictlyIncreasing-dedup}
use Rattle.mini_cascade.proofs.Members.{any_dedup}
use Rattle.mini_cascade.proofs.shelves.put_in_order.Goals as goal

pub returns : goal.returns
returns c =
    let is = dedup_is _ _ _ c.dedup.ensures.filtered in
    record {
      ascending = rw is (IsStrictlyIncreasing-dedup _ c.sort_unstable.ensures.sorted);
      members = λ test.
          ap (list_any test) is ∙ any_dedup nat_eq test (λ x y h. ap test (eqb-true x y h)) c.sort_unstable.new.self.items ∙ sym (list_any-IsPermutation test _ _ c.sort_unstable.ensures.permutation);
    }
