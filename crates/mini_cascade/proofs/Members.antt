-- Lists by the tests that one of their members passes.
use Rattle.std.proofs.Common.{◌≡◌, ◌∙◌, ◌||◌, Bool, true, false, cond, List, [], ◌∷◌, ◌++◌, map, refl, sym, ap, inl, inr}
use Rattle.std.specs.List.{dedup, dedup_from, list_any}
use Rattle.std.proofs.lemmas.Bool.{cases_Bool}

or_assoc : (a b c : Bool) → ((a || b) || c) ≡ (a || (b || c))
or_assoc true b c = refl
or_assoc false b c = refl

pub or_false : (a : Bool) → (a || false) ≡ a
or_false true = refl
or_false false = refl

or_twice : (a b : Bool) → (a || b) ≡ (a || (a || b))
or_twice true b = refl
or_twice false b = refl

or_crossed : (a b c d : Bool) → ((a || b) || (c || d)) ≡ ((a || c) || (b || d))
or_crossed true b c d = refl
or_crossed false true true d = refl
or_crossed false true false d = refl
or_crossed false false c d = refl

pub or_four : (a b c d x y z : Bool) → b ≡ x → c ≡ y → d ≡ z → (((a || b) || c) || d) ≡ (a || (x || (y || z)))
or_four a b c d x y z p q r =
    or_assoc (a || b) c d ∙ or_assoc a b (c || d) ∙ ap (λ first. a || (first || (c || d))) p ∙ ap (λ second. a || (x || (second || d))) q ∙ ap (λ third. a || (x || (y || third))) r

module _ {X : Type 0} (test : X → Bool) where
  pub any_append : (first second : List X) → list_any test (first ++ second) ≡ (list_any test first || list_any test second)
  any_append [] second = refl
  any_append (x ∷ first) second = ap (λ b. test x || b) (any_append first second) ∙ sym (or_assoc (test x) (list_any test first) (list_any test second))

  pub any_pushed : (xs : List X) (x : X) → list_any test (xs ++ x ∷ []) ≡ (list_any test xs || test x)
  any_pushed xs x = any_append xs (x ∷ []) ∙ ap (λ b. list_any test xs || b) (or_false (test x))

  pub any_map : {Y : Type 0} (make : Y → X) (ys : List Y) → list_any test (map make ys) ≡ list_any (λ y. test (make y)) ys
  any_map make [] = refl
  any_map make (y ∷ ys) = ap (λ b. test (make y) || b) (any_map make ys)

  pub any_alike : (other : X → Bool) → ((x : X) → test x ≡ other x) → (xs : List X) → list_any test xs ≡ list_any other xs
  any_alike other same [] = refl
  any_alike other same (x ∷ xs) = ap (λ b. b || list_any test xs) (same x) ∙ ap (λ b. other x || b) (any_alike other same xs)

-- what `dedup` leaves passes what was there
module _ {X : Type 0} (same : X → X → Bool) (test : X → Bool) (agree : (x y : X) → same x y ≡ true → test x ≡ test y) where
  any_dedup_from : (kept : X) (xs : List X) → list_any test (dedup_from same kept xs) ≡ (test kept || list_any test xs)
  any_dedup_from kept [] = refl
  any_dedup_from kept (x ∷ xs) = elim (cases_Bool (same x kept)) [
    | inl h ↦
        ap (λ b. list_any test (cond b (dedup_from same kept xs) (kept ∷ dedup_from same x xs))) h
        ∙ any_dedup_from kept xs
        ∙ or_twice (test kept) (list_any test xs)
        ∙ ap (λ b. test kept || (b || list_any test xs)) (sym (agree x kept h))
    | inr h ↦
        ap (λ b. list_any test (cond b (dedup_from same kept xs) (kept ∷ dedup_from same x xs))) h
        ∙ ap (λ b. test kept || b) (any_dedup_from x xs)
  ]

  pub any_dedup : (xs : List X) → list_any test (dedup same xs) ≡ list_any test xs
  any_dedup [] = refl
  any_dedup (x ∷ xs) = any_dedup_from x xs

-- one of the first and one of the second that go together
pub any_none : {Y : Type 0} (ys : List Y) → list_any (λ _. false) ys ≡ false
any_none [] = refl
any_none (y ∷ ys) = any_none ys

either : {Y : Type 0} (first second : Y → Bool) (ys : List Y) → list_any (λ y. first y || second y) ys ≡ (list_any first ys || list_any second ys)
either first second [] = refl
either first second (y ∷ ys) =
    ap (λ b. (first y || second y) || b) (either first second ys) ∙ or_crossed (first y) (second y) (list_any first ys) (list_any second ys)

pub any_crossed : {X Y : Type 0} (goes : X → Y → Bool) (xs : List X) (ys : List Y) → list_any (λ x. list_any (goes x) ys) xs ≡ list_any (λ y. list_any (λ x. goes x y) xs) ys
any_crossed goes [] ys = sym (any_none ys)
any_crossed goes (x ∷ xs) ys = ap (λ b. list_any (goes x) ys || b) (any_crossed goes xs ys) ∙ sym (either (goes x) (λ y. list_any (λ x. goes x y) xs) ys)
