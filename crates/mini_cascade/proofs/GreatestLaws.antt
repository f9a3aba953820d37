-- Laws of the greatest of a list.
use Rattle.std.proofs.Common.{◌≡◌, Bool, true, false, Option, Some, None, refl, inl, inr}
use Rattle.std.proofs.lemmas.Bool.{cases_Bool}
use Rattle.mini_cascade.specs.Greatest.{greater}

-- less is a strict order in which those that are equal make classes
pub record IsOrder {X : Type 0} (is_less : X → X → Bool) : Type 0 where
  pub less : (a b c : X) → is_less a b ≡ true → is_less b c ≡ true → is_less a c ≡ true
  pub not_less : (a b c : X) → is_less a b ≡ false → is_less b c ≡ false → is_less a c ≡ false

module _ {X : Type 0} (is_less : X → X → Bool) (order : IsOrder is_less) where
  pub greater_assoc : (a b c : Option X) → greater is_less (greater is_less a b) c ≡ greater is_less a (greater is_less b c)
  greater_assoc None b c = refl
  greater_assoc (Some a) None c = refl
  greater_assoc (Some a) (Some b) None = refl
  greater_assoc (Some a) (Some b) (Some c) = elim (cases_Bool (is_less b a)) [
    | inl ba ↦ elim (cases_Bool (is_less c b)) [
      | inl cb ↦ let ca : is_less c a ≡ true = order.less c b a cb ba in simp (ba, cb, ca)
      | inr cb ↦ simp (ba, cb)
    ]
    | inr ba ↦ elim (cases_Bool (is_less c b)) [
      | inl cb ↦ simp (ba, cb)
      | inr cb ↦ let ca : is_less c a ≡ false = order.not_less c b a cb ba in simp (ba, cb, ca)
    ]
  ]
