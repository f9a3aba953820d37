-- The first place at which a test passes.
use Rattle.std.proofs.Common.{◌≡◌, ◌+◌, ◌<◌, ℕ, suc, List, Bool, true, false, Some, None, [], ◌∷◌, length, get_or, map, nat_lt, not, cond, refl, sym, ap, ◌∙◌, arith}
use Rattle.std.specs.List.{position, position_or_len, prefix_len}
use Rattle.std.proofs.lemmas.Bool.{lt-ltb, cond-true}
use Rattle.std.proofs.lemmas.List.Sums.{position_or_len_is}

module _ {X : Type 0} (p : X → Bool) (xs : List X) where
  -- the test passes at none of the places before this one
  abbrev pub FailsBefore : ℕ → Type 0
  FailsBefore place = (k : ℕ) (d : X) → k < place → p (get_or xs k d) ≡ false

  found_at : (place : ℕ) → position_or_len p xs ≡ place → place < length xs → position p xs ≡ Some place
  found_at place first within = ap (λ n. cond (nat_lt n (length xs)) (Some n) None) first ∙ cond-true _ _ _ (lt-ltb place (length xs) within)

  pub position_found : (place : ℕ) (x : X) → place < length xs → x ≡ get_or xs place x → p x ≡ true → FailsBefore place → position p xs ≡ Some place
  position_found place x within at here before =
      found_at place (position_or_len_is p xs place x (omega arith) (λ k h. before k x h) (λ _. ap p (sym at) ∙ here)) within

-- two tests that agree along two lists pass first at one place
prefix_len-agree : {A B : Type 0} (p : A → Bool) (q : B → Bool) (xs : List A) (ys : List B) → map p xs ≡ map q ys → prefix_len (λ x. not (p x)) xs ≡ prefix_len (λ y. not (q y)) ys
prefix_len-agree p q [] [] e = refl
prefix_len-agree p q [] (y ∷ ys) e = absurd (cc)
prefix_len-agree p q (x ∷ xs) [] e = absurd (cc)
prefix_len-agree p q (x ∷ xs) (y ∷ ys) e =
    let first : p x ≡ q y = cc in
    let rest : map p xs ≡ map q ys = cc in
    ap (λ b. cond (not b) (1 + prefix_len (λ z. not (p z)) xs) 0) first ∙ ap (λ n. cond (not (q y)) (1 + n) 0) (prefix_len-agree p q xs ys rest)

length-agree : {A B : Type 0} (p : A → Bool) (q : B → Bool) (xs : List A) (ys : List B) → map p xs ≡ map q ys → length xs ≡ length ys
length-agree p q [] [] e = refl
length-agree p q [] (y ∷ ys) e = absurd (cc)
length-agree p q (x ∷ xs) [] e = absurd (cc)
length-agree p q (x ∷ xs) (y ∷ ys) e = let rest : map p xs ≡ map q ys = cc in ap suc (length-agree p q xs ys rest)

pub position-agree : {A B : Type 0} (p : A → Bool) (q : B → Bool) (xs : List A) (ys : List B) → map p xs ≡ map q ys → position p xs ≡ position q ys
position-agree p q xs ys e =
    ap (λ n. cond (nat_lt n (length xs)) (Some n) None) (prefix_len-agree p q xs ys e)
    ∙ ap (λ n. cond (nat_lt (prefix_len (λ y. not (q y)) ys) n) (Some (prefix_len (λ y. not (q y)) ys)) None) (length-agree p q xs ys e)
