-- The first place at which a test passes, where the elements are gone over in parts.
use Rattle.std.proofs.Common.{◌≡◌, ℕ, ◌+◌, ◌*◌, ◌<◌, ◌≤◌, not, Bool, true, false, cond, eqb, List, [], ◌∷◌, Option, Some, map, length, take, drop, eq-eqb, refl, sym, ap, ◌∙◌, arith, inl, inr}
use Rattle.std.specs.List.{position, position_or_len, count_by}
use Rattle.std.specs.Option.{option_map}
use Rattle.std.proofs.lemmas.Bool.{cases_lt, lt-ltb, le-ltb, ne_eqb, cond-true, cond-false}
use Rattle.std.proofs.Math.Seq.{take-add}
use Rattle.std.proofs.lemmas.List.{length-drop}
use Rattle.std.proofs.lemmas.List.Folds.{prefix_len-append}
use Rattle.std.proofs.lemmas.List.Sums.{prefix_len-le-length, sum_by-append}
use Rattle.std.proofs.lemmas.Simd.{chunk-drop, length-chunk, leading_from_mask_l, trailing_mask_l, ones-mask_l}
use Rattle.std.specs.Prelude.{count_ones}
use lib.Lanes.{chunk, mask_l}
use lib.Count.{count_trailing_zeros}

module _ (p : ℕ → Bool) (bytes : List ℕ) (start : ℕ) where
  -- no byte in front of the start passes
  abbrev pub NoneBefore : Type 0
  NoneBefore = position_or_len p bytes ≡ start + position_or_len p (drop start bytes)

  -- so the first place is the start's if there is one behind it
  pub found_behind : (near : Option ℕ) → start ≤ length bytes → NoneBefore → near ≡ position p (drop start bytes) → option_map (λ n. start + n) near ≡ position p bytes
  found_behind near within none e =
      let rest = drop start bytes in
      let long = length-drop start bytes in
      ap (option_map (λ n. start + n)) e
      ∙ elim (cases_lt (position_or_len p rest) (length rest)) [
        | inl lt ↦
            ap (option_map (λ n. start + n)) (cond-true _ _ _ (lt-ltb (position_or_len p rest) (length rest) lt)) ∙ ap Some (sym none)
            ∙ sym (cond-true _ _ _ (lt-ltb (position_or_len p bytes) (length bytes) (omega (arith, none, long))))
        | inr ge ↦
            ap (option_map (λ n. start + n)) (cond-false _ _ _ (le-ltb (position_or_len p rest) (length rest) ge))
            ∙ sym (cond-false _ _ _ (le-ltb (position_or_len p bytes) (length bytes) (omega (arith, none, long))))
      ]

  split : (n : ℕ) → position_or_len p (drop start bytes)
      ≡ cond (eqb (position_or_len p (chunk start n bytes)) (length (chunk start n bytes))) (length (chunk start n bytes) + position_or_len p (drop (start + n) bytes)) (position_or_len p (chunk start n bytes))
  split n = ap (position_or_len p) (chunk-drop start n bytes) ∙ prefix_len-append (λ x. not (p x)) (chunk start n bytes) (drop (start + n) bytes)

  -- nor does one in a vector in which no bit is set
  pub none_further : (n : ℕ) → start + n ≤ length bytes → mask_l (map p (chunk start n bytes)) ≡ 0 → NoneBefore → position_or_len p bytes ≡ start + n + position_or_len p (drop (start + n) bytes)
  none_further n room none before =
      let lanes = chunk start n bytes in
      let passed = split n ∙ cond-true _ _ _ (eq-eqb (position_or_len p lanes) (length lanes) (leading_from_mask_l p lanes none)) in
      omega (arith, before, passed, length-chunk start n bytes room)

some_fails : (b : Bool) (n l m : ℕ) → n ≤ l → cond (not b) (1 + n) 0 ≡ 1 + l → (n ≡ l → m ≡ 0) → cond b 1 0 + 2 * m ≡ 0
some_fails true n l m le e rest = absurd (omega arith)
some_fails false n l m le e rest = let z = rest (omega arith) in omega arith

no_bit : (p : ℕ → Bool) (xs : List ℕ) → position_or_len p xs ≡ length xs → mask_l (map p xs) ≡ 0
no_bit p [] e = refl
no_bit p (x ∷ xs) e = some_fails (p x) _ (length xs) _ (prefix_len-le-length (λ y. not (p y)) xs) (omega arith) (no_bit p xs)

-- the lowest bit of a vector that has one is the first place
pub found_here : (p : ℕ → Bool) (bytes : List ℕ) (start n : ℕ) → start + n ≤ length bytes → n ≤ 64 → NoneBefore p bytes start → 0 < mask_l (map p (chunk start n bytes))
    → Some (start + count_trailing_zeros 64 (mask_l (map p (chunk start n bytes)))) ≡ position p bytes
found_here p bytes start n room short none some =
    let lanes = chunk start n bytes in
    let long = length-chunk start n bytes room in
    let differs : eqb (position_or_len p lanes) (length lanes) ≡ false = ne_eqb _ _ (λ (e : position_or_len p lanes ≡ length lanes). omega (arith, no_bit p lanes e)) in
    let lowest = trailing_mask_l p 64 lanes (omega (arith, long)) some in
    let here = split p bytes start n ∙ cond-false _ _ _ differs in
    let less : position_or_len p lanes < length lanes = elim (cases_lt (position_or_len p lanes) (length lanes)) [
      | inl lt ↦ lt
      | inr ge ↦ absurd (omega (arith, no_bit p lanes (omega (arith, prefix_len-le-length (λ x. not (p x)) lanes))))
    ] in
    ap Some (omega (arith, none, here, lowest)) ∙ sym (cond-true _ _ _ (lt-ltb (position_or_len p bytes) (length bytes) (omega (arith, none, here, less, long))))

-- as many bits of a vector are set as bytes in it pass
pub counted_further : (p : ℕ → Bool) (bytes : List ℕ) (start n : ℕ) → count_by p (take (start + n) bytes) ≡ count_by p (take start bytes) + count_ones (mask_l (map p (chunk start n bytes)))
counted_further p bytes start n =
    ap (count_by p) (take-add start n bytes) ∙ sum_by-append (λ x. cond (p x) 1 0) (take start bytes) (chunk start n bytes)
    ∙ ap (λ k. count_by p (take start bytes) + k) (sym (ones-mask_l p (chunk start n bytes)))
