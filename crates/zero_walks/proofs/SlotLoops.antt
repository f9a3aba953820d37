-- What is kept once one more of some elements goes.
use Rattle.std.proofs.Common.{◌≡◌, ◌<◌, ◌+◌, ◌++◌, ◌∷◌, [], ℕ, List, get_or, length, refl, ap, ◌∙◌, take}
use Rattle.std.proofs.lemmas.List.{take_more}
use Rattle.std.specs.FinMap.{FinMap, remove}
use Rattle.std.specs.Ordering.{nat_cmp}
use Rattle.snapshot_board.specs.Records.{take_all}

module _ {R : Type 0} where
  take_both : (keys more : List ℕ) (held : FinMap nat_cmp R) → take_all (keys ++ more) held ≡ take_all more (take_all keys held)
  take_both [] more held = refl
  take_both (key ∷ keys) more held = take_both keys more (remove held key)

  pub take_next : (keys : List ℕ) (place : ℕ) (held : FinMap nat_cmp R) → place < length keys → take_all (take (place + 1) keys) held ≡ remove (take_all (take place keys) held) (get_or keys place 0)
  take_next keys place held within = ap (λ ks. take_all ks held) (take_more keys place 0 within) ∙ take_both (take place keys) (get_or keys place 0 ∷ []) held
