use Rattle.std.proofs.Common.{◌∙◌, List, ℕ, Bool, Bor, ap, sym}
use Rattle.std.specs.List.{list_any}
use Rattle.std.specs.Map.Iter.{deref}
use Rattle.std.specs.Str.{bytes_eq}
use Rattle.std.proofs.lemmas.List.Filters.{dedup_is}
use Rattle.std.proofs.lemmas.List.Sorted.{list_any-IsPermutation}
use Rattle.std.proofs.lemmas.Slice.Eq.{bytes_eq-Decides}
use Rattle.mini_cascade.proofs.Members.{any_dedup, any_map}
use Rattle.mini_cascade.proofs.words.words.Goals as goal

pub returns : goal.returns
returns c = record {
  words = λ test.
      let shown : Bor (List ℕ) → Bool = λ word. test word.now in
      any_map test deref c.dedup.new.self.items
      ∙ ap (list_any shown) (dedup_is _ _ _ c.dedup.ensures.filtered)
      ∙ any_dedup (λ x y. bytes_eq x.now y.now) shown (λ x y h. ap test ((bytes_eq-Decides x.now y.now).0 h)) c.sort_unstable.new.self.items
      ∙ sym (list_any-IsPermutation shown _ _ c.sort_unstable.ensures.permutation)
      ∙ sym (any_map test deref c.in_ok-words.words.items)
      ∙ ap (list_any test) c.in_ok-words.ensures.parts;
}
