-- Reading one piece after the other: what a loop over pieces keeps, and what it has read at its end.
use Rattle.std.proofs.Common.{◌≡◌, ℕ, zero, suc, ◌<◌, ◌≤◌, Bool, true, false, cond, List, [], ◌∷◌, ◌++◌, length, Option, Some, None, ◌⊎◌, inl, inr, refl, ap, append_assoc, arith}
use Rattle.std.proofs.lemmas.List.{append-nil}
use Rattle.reading.specs.Reading.{◌then◌, run_with, run_at}

-- which way a test went
pub chosen : {A : Type 0} (test : Bool) (x y z : A) → cond test x y ≡ z → ((test ≡ true) × (x ≡ z)) ⊎ ((test ≡ false) × (y ≡ z))
chosen true x y z e = inl (refl, e)
chosen false x y z e = inr (refl, e)

pub then_some : {A B : Type 0} (read : Option A) (next : A → Option B) (y : B) → (read then next) ≡ Some y → (x : A) × (read ≡ Some x) × (next x ≡ Some y)
then_some (Some x) next y e = (x, refl, e)
then_some None next y e = absurd cc

module _ {E X : Type 0} (piece_at : List E → Option (X × List E)) where
  -- the pieces that stand at the front, one after the other, until there is none
  pub data Run : List E → List X → List E → Type 0 where
    stop : {whole : List E} → piece_at whole ≡ None → Run whole [] whole
    more : {whole : List E} (x : X) (mid : List E) {xs : List X} {rest : List E} → piece_at whole ≡ Some (x, mid) → Run mid xs rest → Run whole (x ∷ xs) rest

  -- a piece takes at least one element
  abbrev pub Shortens : Type 0
  Shortens = (whole : List E) (x : X × List E) → piece_at whole ≡ Some x → length x.1 < length whole

  run_with_is : Shortens → {whole : List E} {xs : List X} {rest : List E} → Run whole xs rest → (n : ℕ) → length whole ≤ n → run_with piece_at n whole ≡ (xs, rest)
  unfolding run_with
  run_with_is shorter (stop e) zero le = refl
  run_with_is shorter (stop e) (suc n) le = rw e refl
  run_with_is shorter (more x mid e r) zero le = absurd (omega (arith, shorter _ (x, mid) e))
  run_with_is shorter (more x mid e r) (suc n) le = rw (e, run_with_is shorter r n (omega (arith, shorter _ (x, mid) e))) refl

  pub run_is : Shortens → {whole : List E} {xs : List X} {rest : List E} → Run whole xs rest → run_at piece_at whole ≡ (xs, rest)
  unfolding run_at
  run_is shorter {whole} r = run_with_is shorter r (length whole) (omega arith)

  -- The loop has come to the rest with these pieces: whatever is read from the rest completes them.
  pub record Goes (whole : List E) (xs : List X) (rest : List E) : Type 0 where
    pub on : (ys : List X) (end : List E) → Run rest ys end → Run whole (xs ++ ys) end

  pub Goes-start : (whole : List E) → Goes whole [] whole
  Goes-start whole = record { on = λ ys end r. r }

  pub Goes-more : (whole : List E) (xs : List X) (rest : List E) (x : X) (after : List E) → Goes whole xs rest → piece_at rest ≡ Some (x, after) → Goes whole (xs ++ x ∷ []) after
  Goes-more whole xs rest x after g e = record { on = λ ys end r. rw append_assoc (g.on (x ∷ ys) end (more x after e r)) }

  pub Goes-end : (whole : List E) (xs : List X) (rest : List E) → Goes whole xs rest → piece_at rest ≡ None → Run whole xs rest
  Goes-end whole xs rest g e = rw append-nil at (g.on [] rest (stop e))

  pub Goes-read : Shortens → (whole : List E) (xs : List X) (rest : List E) → Goes whole xs rest → piece_at rest ≡ None → run_at piece_at whole ≡ (xs, rest)
  Goes-read shorter whole xs rest g e = run_is shorter (Goes-end whole xs rest g e)

  -- The loop has come to the rest, and keeps nothing of the pieces.
  pub record Skips (whole rest : List E) : Type 0 where
    pub pieces : List X
    pub goes : Goes whole pieces rest

  pub Skips-start : (whole : List E) → Skips whole whole
  Skips-start whole = record { pieces = []; goes = Goes-start whole }

  pub Skips-more : (whole rest : List E) (x : X) (after : List E) → Skips whole rest → piece_at rest ≡ Some (x, after) → Skips whole after
  Skips-more whole rest x after s e = record { pieces = s.pieces ++ x ∷ []; goes = Goes-more whole s.pieces rest x after s.goes e }

  pub Skips-read : Shortens → (whole rest : List E) → Skips whole rest → piece_at rest ≡ None → (run_at piece_at whole).1 ≡ rest
  Skips-read shorter whole rest s e = ap (λ (t : List X × List E). t.1) (Goes-read shorter whole s.pieces rest s.goes e)
