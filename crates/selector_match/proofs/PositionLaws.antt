-- The positions that `an+b` gives.
use Rattle.std.proofs.Common.{◌≡◌, ◌==◌, ◌+◌, ◌-◌, ◌*◌, ℕ, zero, suc, ◌<◌, ◌≤◌, Bool, true, false, ℤ, pos, negsuc, ◌+ℤ◌, ◌<ℤ◌, ◌≤ℤ◌, neg_ℤ, refl, sym, ap, ◌∙◌, inl, inr, arith, eqb-true, eq-eqb, Decides}
use Rattle.std.specs.Cmp.{signed_Decides}
use Rattle.std.specs.List.{list_any, range_with_len}
use Rattle.std.specs.Ordering.{int_eq}
use Rattle.std.specs.Prelude.{unsigned_abs, int_lt, int_le}
use Rattle.std.proofs.lemmas.Bool.{cases_lt, or_cases, or_left, or_right, both_ways}
use Rattle.std.proofs.lemmas.Bool.Decides.{same_from_decides}
use Rattle.std.proofs.lemmas.Int.{ints}
use Rattle.selector_match.specs.Positions.{nth_position, is_nth}

any-some : (t : ℕ → Bool) (i c : ℕ) → list_any t (range_with_len i c) ≡ true → (n : ℕ) × (t n ≡ true)
any-some t i zero h = absurd (both_ways _ refl h)
any-some t i (suc c) h = elim (or_cases (t i) (list_any t (range_with_len (i + 1) c)) h) [
  | inl here ↦ (i, here)
  | inr there ↦ any-some t (i + 1) c there
]

any-from : (t : ℕ → Bool) (i c n : ℕ) → i ≤ n → n < i + c → t n ≡ true → list_any t (range_with_len i c) ≡ true
any-from t i zero n low high h = absurd (omega arith)
any-from t i (suc c) n low high h = elim (cases_lt i n) [
  | inl more ↦ or_right (t i) (list_any t (range_with_len (i + 1) c)) (any-from t (i + 1) c n (omega arith) (omega arith) h)
  | inr same ↦ or_left (t i) (list_any t (range_with_len (i + 1) c)) (ap t (omega arith) ∙ h)
]

abbrev Gives : ℤ → ℤ → ℕ → Type 0
Gives a b p = (n : ℕ) × (nth_position a b n ≡ pos p)

-- Each sign of `a` and `b`, in naturals.

up-up : (m k n p : ℕ) → nth_position (pos m) (pos k) n ≡ pos p → m * n + k ≡ p
up-up m k n p e = let e' : pos (m * n) +ℤ pos k ≡ pos p = e in omega (arith, ints)

up-up-back : (m k n p : ℕ) → m * n + k ≡ p → nth_position (pos m) (pos k) n ≡ pos p
up-up-back m k n p e = ap pos e

up-down : (m k n p : ℕ) → nth_position (pos m) (negsuc k) n ≡ pos p → m * n ≡ p + suc k
up-down m k n p e = let e' : pos (m * n) +ℤ negsuc k ≡ pos p = e in omega (arith, ints)

up-down-back : (m k n p : ℕ) → m * n ≡ p + suc k → nth_position (pos m) (negsuc k) n ≡ pos p
up-down-back m k n p e = let goes : pos (m * n) +ℤ negsuc k ≡ pos p = omega (arith, ints) in goes

down-up : (m k n p : ℕ) → nth_position (negsuc m) (pos k) n ≡ pos p → suc m * n + p ≡ k
down-up m k n p e = let e' : neg_ℤ (pos (suc m * n)) +ℤ pos k ≡ pos p = e in omega (arith, ints)

down-up-back : (m k n p : ℕ) → suc m * n + p ≡ k → nth_position (negsuc m) (pos k) n ≡ pos p
down-up-back m k n p e = let goes : neg_ℤ (pos (suc m * n)) +ℤ pos k ≡ pos p = omega (arith, ints) in goes

down-down : (m k n p : ℕ) → nth_position (negsuc m) (negsuc k) n ≡ pos p → ⊥
down-down m k n p e = let e' : neg_ℤ (pos (suc m * n)) +ℤ negsuc k ≡ pos p = e in absurd (omega (arith, ints))

-- if some n gives a position, one up to the position and the size of b does
near-one : (a b : ℤ) (p : ℕ) → Gives a b p → (n : ℕ) × (n < p + unsigned_abs b + 1) × (nth_position a b n ≡ pos p)
near-one (pos zero) (pos k) p g = let e = up-up zero k g.0 p g.1 in (0, omega arith, up-up-back zero k 0 p (omega arith))
near-one (pos (suc m)) (pos k) p g = let e = up-up (suc m) k g.0 p g.1 in (g.0, omega arith, g.1)
near-one (pos zero) (negsuc k) p g = let e = up-down zero k g.0 p g.1 in absurd (omega arith)
near-one (pos (suc m)) (negsuc k) p g = let e = up-down (suc m) k g.0 p g.1 in (g.0, omega arith, g.1)
near-one (negsuc m) (pos k) p g = let e = down-up m k g.0 p g.1 in (g.0, omega arith, g.1)
near-one (negsuc m) (negsuc k) p g = absurd (down-down m k g.0 p g.1)

pub nth-Decides : (a b : ℤ) (p : ℕ) → Decides (is_nth a b p) (Gives a b p)
nth-Decides a b p =
    let test = λ (n : ℕ). int_eq (nth_position a b n) (pos p) in (
      λ h. let found = any-some test 0 (p + unsigned_abs b + 1) h in (found.0, (signed_Decides (nth_position a b found.0) (pos p)).0 found.1),
      λ g. let near = near-one a b p g in any-from test 0 (p + unsigned_abs b + 1) near.0 (omega arith) (omega (arith, near.1)) ((signed_Decides (nth_position a b near.0) (pos p)).1 near.2),
    )

-- the answer is that of the definition
by-Decides : (a b : ℤ) (p : ℕ) (r : Bool) → Decides r (Gives a b p) → r ≡ is_nth a b p
by-Decides a b p r d = same_from_decides r (is_nth a b p) d (nth-Decides a b p)

abbrev pub Makes : ℕ → ℕ → Type 0
Makes step gap = (n : ℕ) × (step * n ≡ gap)

no-Decides : (a b : ℤ) (p : ℕ) → (Gives a b p → ⊥) → Decides false (Gives a b p)
no-Decides a b p none = (λ e. absurd (both_ways _ refl e), λ g. absurd (none g))

-- b is negative
pub low-rising : (a b : ℤ) (p : ℕ) (r : Bool) → b <ℤ pos 0 → pos 0 ≤ℤ a → (r ≡ true → Makes (unsigned_abs a) (p + unsigned_abs b)) → (Makes (unsigned_abs a) (p + unsigned_abs b) → r ≡ true) → r ≡ is_nth a b p
low-rising a (pos k) p r low rising to from = absurd (omega (arith, ints))
low-rising (negsuc m) (negsuc k) p r low rising to from = absurd (omega (arith, ints))
low-rising (pos m) (negsuc k) p r low rising to from =
    by-Decides (pos m) (negsuc k) p r (λ e. let made = to e in (made.0, up-down-back m k made.0 p made.1), λ g. from (g.0, up-down m k g.0 p g.1))

pub low-falling : (a b : ℤ) (p : ℕ) → b <ℤ pos 0 → a <ℤ pos 0 → false ≡ is_nth a b p
low-falling a (pos k) p low falling = absurd (omega (arith, ints))
low-falling (pos m) (negsuc k) p low falling = absurd (omega (arith, ints))
low-falling (negsuc m) (negsuc k) p low falling = by-Decides (negsuc m) (negsuc k) p false (no-Decides (negsuc m) (negsuc k) p (λ g. down-down m k g.0 p g.1))

-- b is beyond the position
pub far-falling : (a b : ℤ) (p : ℕ) (r : Bool) → pos 0 ≤ℤ b → a <ℤ pos 0 → p < unsigned_abs b → (r ≡ true → Makes (unsigned_abs a) (unsigned_abs b - p)) → (Makes (unsigned_abs a) (unsigned_abs b - p) → r ≡ true) → r ≡ is_nth a b p
far-falling a (negsuc k) p r high falling far to from = absurd (omega (arith, ints))
far-falling (pos m) (pos k) p r high falling far to from = absurd (omega (arith, ints))
far-falling (negsuc m) (pos k) p r high falling far to from =
    by-Decides (negsuc m) (pos k) p r (
      (λ e. let made = to e in (made.0, down-up-back m k made.0 p (omega (arith, made.1)))),
      (λ g. from (g.0, (let e = down-up m k g.0 p g.1 in omega arith))),
    )

pub far-rising : (a b : ℤ) (p : ℕ) → pos 0 ≤ℤ b → pos 0 ≤ℤ a → p < unsigned_abs b → false ≡ is_nth a b p
far-rising a (negsuc k) p high rising far = absurd (omega (arith, ints))
far-rising (negsuc m) (pos k) p high rising far = absurd (omega (arith, ints))
far-rising (pos m) (pos k) p high rising far = by-Decides (pos m) (pos k) p false (no-Decides (pos m) (pos k) p (λ g. let e = up-up m k g.0 p g.1 in omega arith))

-- or not
pub near-falling : (a b : ℤ) (p : ℕ) → pos 0 ≤ℤ b → a <ℤ pos 0 → unsigned_abs b ≤ p → (p == unsigned_abs b) ≡ is_nth a b p
near-falling a (negsuc k) p high falling near = absurd (omega (arith, ints))
near-falling (pos m) (pos k) p high falling near = absurd (omega (arith, ints))
near-falling (negsuc m) (pos k) p high falling near =
    by-Decides (negsuc m) (pos k) p (p == k) (
      (λ e. (0, down-up-back m k 0 p (let same = eqb-true p k e in omega arith))),
      (λ g. eq-eqb p k (let e = down-up m k g.0 p g.1 in omega arith)),
    )

pub near-rising : (a b : ℤ) (p : ℕ) (r : Bool) → pos 0 ≤ℤ b → pos 0 ≤ℤ a → unsigned_abs b ≤ p → (r ≡ true → Makes (unsigned_abs a) (p - unsigned_abs b)) → (Makes (unsigned_abs a) (p - unsigned_abs b) → r ≡ true) → r ≡ is_nth a b p
near-rising a (negsuc k) p r high rising near to from = absurd (omega (arith, ints))
near-rising (negsuc m) (pos k) p r high rising near to from = absurd (omega (arith, ints))
near-rising (pos m) (pos k) p r high rising near to from =
    by-Decides (pos m) (pos k) p r (
      (λ e. let made = to e in (made.0, up-up-back m k made.0 p (omega (arith, made.1)))),
      (λ g. from (g.0, (let e = up-up m k g.0 p g.1 in omega arith))),
    )

-- Tests of signed numbers.

pub lt-yes : (a b : ℤ) → int_lt a b ≡ true → a <ℤ b
lt-yes a b h = grind (arith, ints)

pub lt-no : (a b : ℤ) → int_lt a b ≡ false → b ≤ℤ a
lt-no a b h = grind (arith, ints)

pub le-yes : (a b : ℤ) → int_le a b ≡ true → a ≤ℤ b
le-yes a b h = grind (arith, ints)

pub le-no : (a b : ℤ) → int_le a b ≡ false → b <ℤ a
le-no a b h = grind (arith, ints)

-- the same gap and the same step
pub makes-same : (step step' gap gap' : ℕ) → step ≡ step' → gap ≡ gap' → Makes step gap → Makes step' gap'
makes-same step step' gap gap' s g made = (made.0, ap (λ x. x * made.0) (sym s) ∙ made.1 ∙ g)

pub nth-same : (a b a' b' : ℤ) (p : ℕ) → a' ≡ a → b' ≡ b → is_nth a' b' p ≡ is_nth a b p
nth-same a b a' b' p same_a same_b = ap (λ x. is_nth x b' p) same_a ∙ ap (λ y. is_nth a y p) same_b
