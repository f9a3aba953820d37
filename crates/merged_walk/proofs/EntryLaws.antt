-- Entries among others, and those that a map has.
use Rattle.std.proofs.Common.{◌≡◌, ℕ, List, ◌∷◌, ◌++◌, length, Option, Some, take, drop, refl, sym, inl, inr, ◌⊎◌, arith}
use Rattle.std.specs.Prelude.{All, Contains}
use Rattle.std.proofs.lemmas.List.{take_at, drop_at}
use Rattle.std.proofs.lemmas.List.Elements.{All-contains_itself, All-drop, All-same, All-take, All-weaker, Contains-append_left, Contains-append_right}
use Rattle.merged_walk.specs.Entries.{Covers, Holds}

module _ {A : Type 0} where
  -- what holds of each item of two lists holds of those of each
  pub all-left : (P : A → Type 0) (xs ys : List A) → All P (xs ++ ys) → All P xs
  all-left P xs ys h = All-same P xs (take (length xs) (xs ++ ys)) (sym (take_at xs ys (length xs) refl)) (All-take P (length xs) (xs ++ ys) h)

  pub all-right : (P : A → Type 0) (xs ys : List A) → All P (xs ++ ys) → All P ys
  all-right P xs ys h = All-same P ys (drop (length xs) (xs ++ ys)) (sym (drop_at xs ys (length xs) refl)) (All-drop P (length xs) (xs ++ ys) h)

  -- a list contains its first item
  pub contains-first : (x : A) (xs : List A) → Contains (x ∷ xs) x
  contains-first x xs = (0, omega arith, refl)

module _ {R : Type 0} where
  -- what a map has is covered by any changes
  pub covers-held : (changes : List (ℕ × R)) (held : ℕ → Option R) (entries : List (ℕ × R)) → Holds held entries → Covers changes held entries
  covers-held changes held entries h =
      All-weaker (λ (x : ℕ × R). held x.0 ≡ Some x.1) (λ (x : ℕ × R). Contains changes x ⊎ (held x.0 ≡ Some x.1)) (λ x is. inr is) entries h

  -- with more changes no less is covered
  pub covers-more : (changes more : List (ℕ × R)) (held : ℕ → Option R) (entries : List (ℕ × R)) → Covers changes held entries → Covers (changes ++ more) held entries
  covers-more changes more held entries h =
      All-weaker (λ (x : ℕ × R). Contains changes x ⊎ (held x.0 ≡ Some x.1)) (λ (x : ℕ × R). Contains (changes ++ more) x ⊎ (held x.0 ≡ Some x.1))
      (λ x is. elim is [ inl a ↦ inl (Contains-append_left changes more x a) | inr b ↦ inr b ]) entries h

  -- and the changes themselves are covered
  pub covers-new : (changes more : List (ℕ × R)) (held : ℕ → Option R) → Covers (changes ++ more) held more
  covers-new changes more held =
      All-weaker (Contains more) (λ (x : ℕ × R). Contains (changes ++ more) x ⊎ (held x.0 ≡ Some x.1)) (λ x is. inl (Contains-append_right changes more x is)) more
      (All-contains_itself more)
