-- The line and the column after one more character.
use Rattle.std.proofs.Common.{◌≡◌, ℕ, zero, suc, add-one, ◌+◌, ◌≤◌, Bool, true, false, cond, ◌||◌, eqb, List, [], ◌∷◌, ◌++◌, length, take, drop, refl, ap, ◌∙◌, arith}
use Rattle.std.specs.List.{list_any}
use Rattle.std.specs.Str.{chars, IsUtf8}
use Rattle.std.proofs.lemmas.Str.{encodes-chars, length-le-encodes}
use Rattle.std.proofs.lemmas.List.{length_push}
use Rattle.xml_definitions.specs.Faults.{line_feeds, last_line}

abbrev is_end : ℕ → Bool
is_end d = eqb d 10

any-push : (xs : List ℕ) (c : ℕ) → list_any is_end (xs ++ c ∷ []) ≡ (list_any is_end xs || is_end c)
any-push [] c = or_false (is_end c)
  where
    or_false : (b : Bool) → (b || false) ≡ b
    or_false true = refl
    or_false false = refl
any-push (x ∷ xs) c = or_next (is_end x) _ _ _ (any-push xs c)
  where
    or_next : (a b d e : Bool) → b ≡ (d || e) → (a || b) ≡ ((a || d) || e)
    or_next true b d e h = refl
    or_next false b d e h = h

line_feeds-push : (xs : List ℕ) (c : ℕ) → line_feeds (xs ++ c ∷ []) ≡ line_feeds xs + cond (is_end c) 1 0
line_feeds-push [] c = omega arith
line_feeds-push (x ∷ xs) c = omega (arith, line_feeds-push xs c)

last_line-end : (xs : List ℕ) (c : ℕ) → is_end c ≡ true → last_line (xs ++ c ∷ []) ≡ []
last_line-end [] c h = rw h refl
last_line-end (x ∷ xs) c h = rw (any-push xs c, h, or_true (list_any is_end xs), or_true (is_end x)) (last_line-end xs c h)
  where
    or_true : (b : Bool) → (b || true) ≡ true
    or_true true = refl
    or_true false = refl

last_line-more : (xs : List ℕ) (c : ℕ) → is_end c ≡ false → last_line (xs ++ c ∷ []) ≡ last_line xs ++ c ∷ []
last_line-more [] c h = rw h refl
last_line-more (x ∷ xs) c h =
    let same : list_any is_end (x ∷ (xs ++ c ∷ [])) ≡ list_any is_end (x ∷ xs) = any-push (x ∷ xs) c ∙ rw h (or_false (list_any is_end (x ∷ xs))) in
    picked (list_any is_end (x ∷ (xs ++ c ∷ []))) (list_any is_end (x ∷ xs)) _ _ _ _ c same (last_line-more xs c h) refl
  where
    or_false : (b : Bool) → (b || false) ≡ b
    or_false true = refl
    or_false false = refl

    picked : (a b : Bool) (p q r s : List ℕ) (c : ℕ) → a ≡ b → p ≡ r ++ c ∷ [] → q ≡ s ++ c ∷ [] → cond a p q ≡ cond b r s ++ c ∷ []
    picked a true p q r s c h e f = rw h e
    picked a false p q r s c h e f = rw h f

-- one character more of the front
at_next : (cs : List ℕ) (i c : ℕ) (rest : List ℕ) → drop i cs ≡ c ∷ rest → (take (suc i) cs ≡ take i cs ++ c ∷ []) × (drop (suc i) cs ≡ rest)
at_next [] zero c rest e = absurd cc
at_next [] (suc i) c rest e = absurd cc
at_next (x ∷ xs) zero c rest e = let head : x ≡ c = cc in let tail : xs ≡ rest = cc in (rw head refl, tail)
at_next (x ∷ xs) (suc i) c rest e = let r = at_next xs i c rest e in (ap (λ (t : List ℕ). x ∷ t) r.0, r.1)

-- the lines and columns so far
pub record Counts (cs : List ℕ) (i line column : ℕ) : Type 0 where
  pub line_is : line ≡ 1 + line_feeds (take i cs)
  pub column_is : column ≡ 1 + length (last_line (take i cs))
  pub line_fits : line ≤ i + 1
  pub column_fits : column ≤ i + 1

pub Counts-end : (cs : List ℕ) (i line column c : ℕ) (rest : List ℕ) → Counts cs i line column → drop i cs ≡ c ∷ rest → is_end c ≡ true → Counts cs (i + 1) (line + 1) 1
Counts-end cs i line column c rest k e h =
    let n = at_next cs i c rest e in
    let one : ◌≡◌ {A = ℕ} (cond (is_end c) 1 0) 1 = rw h refl in
    rw add-one (record {
      line_is = omega (arith, k.line_is, line_feeds-push (take i cs) c, ap line_feeds n.0, one);
      column_is = rw (n.0, last_line-end (take i cs) c h) refl;
      line_fits = omega (arith, k.line_fits);
      column_fits = omega arith;
    })

pub Counts-more : (cs : List ℕ) (i line column c : ℕ) (rest : List ℕ) → Counts cs i line column → drop i cs ≡ c ∷ rest → is_end c ≡ false → Counts cs (i + 1) line (column + 1)
Counts-more cs i line column c rest k e h =
    let n = at_next cs i c rest e in
    let none : ◌≡◌ {A = ℕ} (cond (is_end c) 1 0) 0 = rw h refl in
    let last : last_line (take (suc i) cs) ≡ last_line (take i cs) ++ c ∷ [] = ap last_line n.0 ∙ last_line-more (take i cs) c h in
    rw add-one (record {
      line_is = omega (arith, k.line_is, line_feeds-push (take i cs) c, ap line_feeds n.0, none);
      column_is = omega (arith, k.column_is, ap length last, length_push (last_line (take i cs)) c);
      line_fits = omega (arith, k.line_fits);
      column_fits = omega (arith, k.column_fits);
    })

pub drop_next : (cs : List ℕ) (i c : ℕ) (rest : List ℕ) → drop i cs ≡ c ∷ rest → drop (i + 1) cs ≡ rest
drop_next cs i c rest e = rw add-one (at_next cs i c rest e).1

-- no more characters than bytes
pub chars_le : (bytes : List ℕ) → IsUtf8 bytes → length (chars bytes) ≤ length bytes
chars_le bytes utf8 = omega (arith, length-le-encodes (chars bytes), ap length (encodes-chars bytes utf8))
