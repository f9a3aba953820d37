-- A comparison has all ones or 0 in each lane of a vector; here it is a test of the lanes' bytes.
use Rattle.std.proofs.Common.{◌≡◌, ℕ, ◌+◌, ◌%◌, ◌^◌, ◌<◌, ◌≤◌, ◌&&◌, ◌||◌, not, leb, nat_le, Bool, true, false, cond, bit_and, bit_or, List, [], ◌∷◌, map, length, take, get_or, replicate, refl, sym, ap, ap₂, ◌∙◌, arith}
use Rattle.std.proofs.Math.Nat.{pow-succ'}
use Rattle.std.proofs.lemmas.Simd.{zip2-map, zip2_splat, zip2_splat_left, mask_l-mod, map-map}
use Rattle.std.proofs.lemmas.List.{length-map}
use Rattle.std.proofs.lemmas.List.Folds.{list_any_more}
use lib.Lanes.{zip2, mask_l, top}
use Rattle.lane_class.specs.Ranges.{is_in}

-- the byte lies between these two
abbrev is_between : ℕ × ℕ → ℕ → Bool
is_between range byte = nat_le range.0 byte && nat_le byte range.1

abbrev pub flag : Bool → ℕ
flag b = cond b 255 0

abbrev at_most : ℕ → ℕ → ℕ
at_most a b = flag (leb a b)

and_flags : (p q : Bool) → bit_and (flag p) (flag q) ≡ flag (p && q)
and_flags true true = refl
and_flags true false = refl
and_flags false true = refl
and_flags false false = refl

or_flags : (p q : Bool) → bit_or (flag p) (flag q) ≡ flag (p || q)
or_flags true true = refl
or_flags true false = refl
or_flags false true = refl
or_flags false false = refl

top_of_flag : (p : Bool) → top 7 (flag p) ≡ p
top_of_flag true = refl
top_of_flag false = refl

map_same : {A : Type 0} (f g : ℕ → A) → ((x : ℕ) → f x ≡ g x) → (xs : List ℕ) → map f xs ≡ map g xs
map_same f g same [] = refl
map_same f g same (x ∷ xs) = ap₂ (λ y ys. y ∷ ys) (same x) (map_same f g same xs)

between_lanes : (first last : ℕ) (lanes : List ℕ) → length lanes ≡ 32
    → zip2 bit_and (zip2 at_most (replicate 32 first) lanes) (zip2 at_most lanes (replicate 32 last)) ≡ map (λ x. flag (is_between (first, last) x)) lanes
between_lanes first last lanes long =
    ap₂ (zip2 bit_and) (zip2_splat_left at_most first 32 lanes long) (zip2_splat at_most lanes 32 last long)
    ∙ zip2-map bit_and (λ x. at_most first x) (λ x. at_most x last) lanes
    ∙ map_same _ _ (λ x. and_flags (leb first x) (leb x last)) lanes

-- the lanes of which it is known by the first ranges, with one range more
pub one_more_range : (ranges : List (ℕ × ℕ)) (i : ℕ) (lanes seen : List ℕ) → length lanes ≡ 32 → i < length ranges
    → seen ≡ map (λ x. flag (is_in (take i ranges) x)) lanes
    → zip2 bit_or seen (zip2 bit_and (zip2 at_most (replicate 32 (get_or ranges i (0, 0)).0) lanes) (zip2 at_most lanes (replicate 32 (get_or ranges i (0, 0)).1)))
    ≡ map (λ x. flag (is_in (take (i + 1) ranges) x)) lanes
one_more_range ranges i lanes seen long within known =
    let range = get_or ranges i (0, 0) in
    ap₂ (zip2 bit_or) known (between_lanes range.0 range.1 lanes long)
    ∙ zip2-map bit_or (λ x. flag (is_in (take i ranges) x)) (λ x. flag (is_between range x)) lanes
    ∙ map_same _ _ (λ x. or_flags (is_in (take i ranges) x) (is_between range x) ∙ ap flag (sym (list_any_more (λ (r : ℕ × ℕ). is_between r x) ranges i (0, 0) within))) lanes

-- no lane is in the class that has no range
pub no_range : (lanes : List ℕ) (n : ℕ) → length lanes ≡ n → replicate n 0 ≡ map (λ x. flag (is_in [] x)) lanes
no_range [] n long = ap (λ k. replicate k 0) (sym long)
no_range (x ∷ xs) n long = ap (λ k. replicate k 0) (sym long) ∙ ap (λ ys. 0 ∷ ys) (no_range xs (length xs) refl)

pub bits_of_flags : (p : ℕ → Bool) (lanes seen : List ℕ) → length lanes ≤ 64 → seen ≡ map (λ x. flag (p x)) lanes
    → mask_l (map (top 7) seen) % 2 ^ 64 ≡ mask_l (map p lanes)
bits_of_flags p lanes seen short known =
    ap (λ l. mask_l l % 2 ^ 64) (ap (map (top 7)) known ∙ map-map (top 7) (λ x. flag (p x)) lanes ∙ map_same _ _ (λ x. top_of_flag (p x)) lanes)
    ∙ mask_l-mod (map p lanes) 64 (omega (arith, length-map lanes p))

one_or_other : (b : Bool) → cond b 1 0 + cond (not b) 1 0 ≡ 1
one_or_other true = refl
one_or_other false = refl

-- each lane has its bit either where a test passes or where it does not
pub each_bit_once : (p : ℕ → Bool) (xs : List ℕ) → mask_l (map p xs) + mask_l (map (λ x. not (p x)) xs) + 1 ≡ 2 ^ length xs
each_bit_once p [] = refl
each_bit_once p (x ∷ xs) =
    let here = one_or_other (p x) in
    let rest = each_bit_once p xs in
    let double = pow-succ' 2 (length xs) in
    omega (arith, here, rest, double)

pub missed : (p : ℕ → Bool) (lanes : List ℕ) → length lanes ≡ 32 → mask_l (map p lanes) + mask_l (map (λ x. not (p x)) lanes) ≡ 4294967295
missed p lanes long = let all = each_bit_once p lanes in let total = ap (λ n. 2 ^ n) long in omega (arith, all, total)
