-- Lists of keys within others. Throughout, xs, ys and zs are keys.
use Rattle.std.proofs.Common.{◌≡◌, ◌==◌, ◌||◌, ℕ, Bool, true, false, cond, List, [], ◌∷◌, ◌++◌, refl, sym, ap, subst, ◌∙◌, ◌⊎◌, inl, inr}
use Rattle.std.proofs.lemmas.List.Folds.{list_any-append}
use Rattle.edit_work.specs.KeyedSources.{is_among}

-- each key of the first list is in the second
pub record Within (xs ys : List ℕ) : Type 0 where
  pub holds : (q : ℕ) → is_among xs q ≡ true → is_among ys q ≡ true

one-of : (a b : Bool) → (a || b) ≡ true → (a ≡ true) ⊎ (b ≡ true)
one-of true b h = inl refl
one-of false b h = inr h

left-true : (a b : Bool) → a ≡ true → (a || b) ≡ true
left-true a b h = ap (λ a. a || b) h

pub right-true : (a b : Bool) → b ≡ true → (a || b) ≡ true
right-true true b h = refl
right-true false b h = h

pub nothing-within : (ys : List ℕ) → Within [] ys
nothing-within ys = record { holds = λ q h. absurd (cc h) }

pub itself-within : (xs : List ℕ) → Within xs xs
itself-within xs = record { holds = λ q h. h }

pub same-within : (xs ys : List ℕ) → xs ≡ ys → Within xs ys
same-within xs ys is = subst (Within xs) is (itself-within xs)

pub through-within : {xs ys zs : List ℕ} → Within xs ys → Within ys zs → Within xs zs
through-within one other = record { holds = λ q h. other.holds q (one.holds q h) }

pub both-within : {zs : List ℕ} (xs ys : List ℕ) → Within xs zs → Within ys zs → Within (xs ++ ys) zs
both-within xs ys one other = record {
  holds = λ q h. elim (one-of (is_among xs q) (is_among ys q) (sym (list_any-append (λ k. k == q) xs ys) ∙ h)) [ inl a ↦ one.holds q a | inr b ↦ other.holds q b ];
}

pub left-within : (ys zs : List ℕ) → Within ys (ys ++ zs)
left-within ys zs = record { holds = λ q h. list_any-append (λ k. k == q) ys zs ∙ left-true (is_among ys q) (is_among zs q) h }

pub right-within : (ys zs : List ℕ) → Within zs (ys ++ zs)
right-within ys zs = record { holds = λ q h. list_any-append (λ k. k == q) ys zs ∙ right-true (is_among ys q) (is_among zs q) h }

-- the same key first, or none
pub first-within : (k : ℕ) (b : Bool) (ys : List ℕ) → Within (cond b (k ∷ []) []) (k ∷ ys)
first-within k true ys = left-within (k ∷ []) ys
first-within k false ys = nothing-within (k ∷ ys)

-- more on both sides
pub sum-within : (xs ys us vs : List ℕ) → Within xs us → Within ys vs → Within (xs ++ ys) (us ++ vs)
sum-within xs ys us vs one other = both-within xs ys (through-within one (left-within us vs)) (through-within other (right-within us vs))
