-- Lists of which some items are left out.
use Rattle.std.proofs.Common.{◌≡◌, ◌≤◌, ◌++◌, ◌∷◌, ◌⊎◌, suc, List, [], length, refl, sym, ap, subst, inl, inr, arith}

module _ {A : Type 0} where
  -- the first list is what is left of the second
  abbrev pub IsPart : List A → List A → Type 0
  IsPart [] ys = Unit {0}
  IsPart (x ∷ xs) [] = ⊥
  IsPart (x ∷ xs) (y ∷ ys) = ((x ≡ y) × IsPart xs ys) ⊎ IsPart (x ∷ xs) ys

  part-self : (xs : List A) → IsPart xs xs
  part-self [] = tt
  part-self (x ∷ xs) = inl (refl, part-self xs)

  pub part-same : (xs ys : List A) → xs ≡ ys → IsPart xs ys
  part-same xs ys same = subst (IsPart xs) same (part-self xs)

  pub part-behind : (xs ys zs : List A) → IsPart xs zs → IsPart xs (ys ++ zs)
  part-behind [] ys zs h = tt
  part-behind (x ∷ xs) [] zs h = h
  part-behind (x ∷ xs) (y ∷ ys) zs h = inr (part-behind (x ∷ xs) ys zs h)

  pub part-before : (xs ys zs : List A) → IsPart xs ys → IsPart xs (ys ++ zs)
  part-before [] ys zs h = tt
  part-before (x ∷ xs) [] zs h = absurd h
  part-before (x ∷ xs) (y ∷ ys) zs (inl h) = inl (h.0, part-before xs ys zs h.1)
  part-before (x ∷ xs) (y ∷ ys) zs (inr h) = inr (part-before (x ∷ xs) ys zs h)

  pub part-both : (xs others ys more : List A) → IsPart xs others → IsPart ys more → IsPart (xs ++ ys) (others ++ more)
  part-both [] others ys more h i = part-behind ys others more i
  part-both (x ∷ xs) [] ys more h i = absurd h
  part-both (x ∷ xs) (y ∷ others) ys more (inl h) i = inl (h.0, part-both xs others ys more h.1 i)
  part-both (x ∷ xs) (y ∷ others) ys more (inr h) i = inr (part-both (x ∷ xs) others ys more h i)

  part-length : (xs ys : List A) → IsPart xs ys → length xs ≤ length ys
  part-length [] ys h = omega arith
  part-length (x ∷ xs) [] h = absurd h
  part-length (x ∷ xs) (y ∷ ys) (inl h) = let rest = part-length xs ys h.1 in omega arith
  part-length (x ∷ xs) (y ∷ ys) (inr h) = let rest = part-length (x ∷ xs) ys h in omega arith

  -- a part that is no shorter is the whole
  part-whole : (xs ys : List A) → IsPart xs ys → length ys ≤ length xs → xs ≡ ys
  part-whole [] [] h least = refl
  part-whole [] (y ∷ ys) h least = absurd (let none : suc (length ys) ≤ 0 = least in omega arith)
  part-whole (x ∷ xs) [] h least = absurd h
  part-whole (x ∷ xs) (y ∷ ys) (inl h) least = let rest = part-whole xs ys h.1 (omega arith) in λ i. h.0 i ∷ rest i
  part-whole (x ∷ xs) (y ∷ ys) (inr h) least = absurd (let most = part-length (x ∷ xs) ys h in omega arith)

  -- so what is between a list and itself is that list
  pub part-between : (xs ys zs : List A) → IsPart xs ys → IsPart ys zs → xs ≡ zs → ys ≡ xs
  part-between xs ys zs h i same =
      let most = part-length ys zs i in
      let long : length zs ≡ length xs = ap (λ (all : List A). length all) (sym same) in
      sym (part-whole xs ys h (omega arith))
