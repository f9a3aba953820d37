-- What is left after reading is an end of what was there.
use Rattle.std.proofs.Common.{◌≡◌, ℕ, zero, suc, ◌<◌, ◌≤◌, Bool, true, false, cond, List, [], ◌∷◌, ◌++◌, length, Option, Some, None, refl, ap, arith}
use Rattle.reading.specs.Reading.{◌then◌, ◌otherwise◌, span, span_of, past_character, past_text, past_one, run_at, run_with, run_next}
use Rattle.reading.proofs.Runs.{Run, stop, more}

-- the second list is an end of the first
pub data Follows {E : Type 0} : List E → List E → Type 0 where
  here : {whole : List E} → Follows whole whole
  later : (first : E) {whole rest : List E} → Follows whole rest → Follows (first ∷ whole) rest

pub Follows-trans : {E : Type 0} {a b c : List E} → Follows a b → Follows b c → Follows a c
Follows-trans here q = q
Follows-trans (later first p) q = later first (Follows-trans p q)

pub Follows-length : {E : Type 0} {whole rest : List E} → Follows whole rest → length rest ≤ length whole
Follows-length here = omega arith
Follows-length (later first p) = omega (arith, Follows-length p)

pub Follows-front : {E : Type 0} {whole rest : List E} → Follows whole rest → (front : List E) × (whole ≡ front ++ rest)
Follows-front here = ([], refl)
Follows-front {E = E} (later first p) = let f = Follows-front p in (first ∷ f.0, ap (λ (t : List E). first ∷ t) f.1)

-- what was read, if anything was, leaves an end
pub data Leaves {E A : Type 0} : List E → Option (A × List E) → Type 0 where
  nothing : {whole : List E} → Leaves whole None
  left : {whole : List E} (x : A × List E) → Follows whole x.1 → Leaves whole (Some x)

-- the same where nothing but what is left is given
pub data Ends {E : Type 0} : List E → Option (List E) → Type 0 where
  none_ends : {whole : List E} → Ends whole None
  ended : {whole rest : List E} → Follows whole rest → Ends whole (Some rest)

pub follow_if : {E A : Type 0} {whole : List E} (test : Bool) (x y : A × List E) → Follows whole x.1 → Follows whole y.1 → Follows whole (cond test x y).1
follow_if true x y p q = p
follow_if false x y p q = q

pub rest_if : {E : Type 0} {whole : List E} (test : Bool) (x y : List E) → Follows whole x → Follows whole y → Follows whole (cond test x y)
rest_if true x y p q = p
rest_if false x y p q = q

pub leave_if : {E A : Type 0} {whole : List E} (test : Bool) (x y : Option (A × List E)) → Leaves whole x → Leaves whole y → Leaves whole (cond test x y)
leave_if true x y p q = p
leave_if false x y p q = q

pub end_if : {E : Type 0} {whole : List E} (test : Bool) (x y : Option (List E)) → Ends whole x → Ends whole y → Ends whole (cond test x y)
end_if true x y p q = p
end_if false x y p q = q

pub leave_otherwise : {E A : Type 0} {whole : List E} (x y : Option (A × List E)) → Leaves whole x → Leaves whole y → Leaves whole (x otherwise y)
leave_otherwise (Some x) y p q = p
leave_otherwise None y p q = q

pub end_otherwise : {E : Type 0} {whole : List E} (x y : Option (List E)) → Ends whole x → Ends whole y → Ends whole (x otherwise y)
end_otherwise (Some x) y p q = p
end_otherwise None y p q = q

pub leave_then : {E A B : Type 0} {whole : List E} (x : Option (A × List E)) (f : A × List E → Option (B × List E)) → Leaves whole x → ((y : A × List E) → Follows whole y.1 → Leaves whole (f y)) → Leaves whole (x then f)
leave_then x f (left y p) q = q y p
leave_then x f nothing q = nothing

pub end_then : {E B : Type 0} {whole : List E} (x : Option (List E)) (f : List E → Option (B × List E)) → Ends whole x → ((rest : List E) → Follows whole rest → Leaves whole (f rest)) → Leaves whole (x then f)
end_then x f (ended {rest = rest} p) q = q rest p
end_then x f none_ends q = nothing

pub ends_then : {E : Type 0} {whole : List E} (x : Option (List E)) (f : List E → Option (List E)) → Ends whole x → ((rest : List E) → Follows whole rest → Ends whole (f rest)) → Ends whole (x then f)
ends_then x f (ended {rest = rest} p) q = q rest p
ends_then x f none_ends q = none_ends

pub leaves_end : {E A : Type 0} {whole : List E} (x : Option (A × List E)) → Leaves whole x → Ends whole (x then λ y. Some y.1)
leaves_end x (left y p) = ended p
leaves_end x nothing = none_ends

pub leave_more : {E A : Type 0} {whole mid : List E} (x : Option (A × List E)) → Follows whole mid → Leaves mid x → Leaves whole x
leave_more x p (left y q) = left y (Follows-trans p q)
leave_more x p nothing = nothing

pub end_more : {E : Type 0} {whole mid : List E} (x : Option (List E)) → Follows whole mid → Ends mid x → Ends whole x
end_more x p (ended q) = ended (Follows-trans p q)
end_more x p none_ends = none_ends

left_by : {E A : Type 0} {whole : List E} (x : A × List E) (o : Option (A × List E)) → Leaves whole o → o ≡ Some x → Follows whole x.1
left_by x o (left y p) e = let same : y ≡ x = cc in rw (← same) p
left_by x o nothing e = absurd cc

pub left_follows : {E A : Type 0} {whole : List E} (x : A × List E) → Leaves whole (Some x) → Follows whole x.1
left_follows x l = left_by x (Some x) l refl

-- where a reading function reads nothing from no element, it is enough to look at a first one
pub leave_within : {E A : Type 0} (at : List E → Option (A × List E)) → at [] ≡ None → ((first : E) (rest : List E) → Leaves rest (at (first ∷ rest))) → (whole : List E) → Leaves whole (at whole)
leave_within at none leaves [] = rw none nothing
leave_within at none leaves (first ∷ rest) = leave_more _ (later first here) (leaves first rest)

-- ---- characters

pub one_follows : (whole : List ℕ) → Follows whole (past_one whole)
one_follows [] = here
one_follows (first ∷ rest) = later first here

pub character_ends : (wanted first : ℕ) (rest : List ℕ) → Ends rest (past_character wanted (first ∷ rest))
character_ends wanted first rest = end_if _ (Some rest) None (ended here) none_ends

text_within : (text whole : List ℕ) → Ends whole (past_text text whole)
text_within [] whole = ended here
text_within (wanted ∷ more_text) [] = none_ends
text_within (wanted ∷ more_text) (first ∷ rest) = ends_then (past_character wanted (first ∷ rest)) _ (end_more _ (later first here) (character_ends wanted first rest)) (λ after p. end_more _ p (text_within more_text after))

pub text_ends : (wanted : ℕ) (more_text : List ℕ) (first : ℕ) (rest : List ℕ) → Ends rest (past_text (wanted ∷ more_text) (first ∷ rest))
text_ends wanted more_text first rest = ends_then (past_character wanted (first ∷ rest)) _ (character_ends wanted first rest) (λ after p. end_more _ p (text_within more_text after))

pub span_follows : (passes : ℕ → Bool) (whole : List ℕ) → Follows whole (span passes whole).1
unfolding span
span_follows passes [] = here
span_follows passes (first ∷ rest) = follow_if (passes first) _ _ (later first (span_follows passes rest)) here

pub span_of_follows : (most : ℕ) (passes : ℕ → Bool) (whole : List ℕ) → Follows whole (span_of most passes whole).1
unfolding span_of
span_of_follows zero passes whole = here
span_of_follows (suc most) passes [] = here
span_of_follows (suc most) passes (first ∷ rest) = follow_if (passes first) _ _ (later first (span_of_follows most passes rest)) here

-- ---- pieces

module _ {E X : Type 0} (piece_at : List E → Option (X × List E)) where
  -- each piece takes an element
  pub record TakesOne : Type 0 where
    pub none : piece_at [] ≡ None
    pub leaves : (first : E) (rest : List E) → Leaves rest (piece_at (first ∷ rest))

  pub takes_shorter : TakesOne → (whole : List E) (x : X × List E) → piece_at whole ≡ Some x → length x.1 < length whole
  takes_shorter law [] x e = absurd (let h = law.none in cc)
  takes_shorter law (first ∷ rest) x e = omega (arith, Follows-length (left_follows x (rw e at (law.leaves first rest))))

  pub takes_follows : TakesOne → (whole : List E) (x : X × List E) → piece_at whole ≡ Some x → Follows whole x.1
  takes_follows law [] x e = absurd (let h = law.none in cc)
  takes_follows law (first ∷ rest) x e = later first (left_follows x (rw e at (law.leaves first rest)))

  pub takes_leaves : TakesOne → (whole : List E) → Leaves whole (piece_at whole)
  takes_leaves law = leave_within piece_at law.none law.leaves

  run_with_follows : TakesOne → (n : ℕ) (whole : List E) → Follows whole (run_with piece_at n whole).1
  unfolding run_with
  run_with_follows law zero whole = here
  run_with_follows law (suc n) whole = next (piece_at whole) refl (λ mid. run_with_follows law n mid)
    where
      next : (o : Option (X × List E)) → piece_at whole ≡ o → ((mid : List E) → Follows mid (run_with piece_at n mid).1) → Follows whole (run_next piece_at (λ mid. run_with piece_at n mid) whole o).1
      next None e go = here
      next (Some x) e go = Follows-trans (takes_follows law whole x e) (go x.1)

  pub run_follows : TakesOne → (whole : List E) → Follows whole (run_at piece_at whole).1
  unfolding run_at
  run_follows law whole = run_with_follows law (length whole) whole

  -- where a piece stands at the front, a run takes an element
  pub run_takes : TakesOne → (first : E) (rest : List E) (x : X × List E) → piece_at (first ∷ rest) ≡ Some x → Follows rest (run_at piece_at (first ∷ rest)).1
  unfolding run_at run_with
  run_takes law first rest x e = rw e (Follows-trans (left_follows x (rw e at (law.leaves first rest))) (run_with_follows law (length rest) x.1))

  run_step : TakesOne → (n : ℕ) (whole : List E) → length whole ≤ suc n → ((mid : List E) → length mid ≤ n → Run piece_at mid (run_with piece_at n mid).0 (run_with piece_at n mid).1)
      → (o : Option (X × List E)) → piece_at whole ≡ o → Run piece_at whole (run_next piece_at (λ mid. run_with piece_at n mid) whole o).0 (run_next piece_at (λ mid. run_with piece_at n mid) whole o).1
  run_step law n whole le go None e = stop e
  run_step law n whole le go (Some x) e = more x.0 x.1 e (go x.1 (omega (arith, takes_shorter law whole x e)))

  run_with-Run : TakesOne → (n : ℕ) (whole : List E) → length whole ≤ n → Run piece_at whole (run_with piece_at n whole).0 (run_with piece_at n whole).1
  unfolding run_with
  run_with-Run law zero [] le = stop law.none
  run_with-Run law zero (first ∷ rest) le = absurd (omega arith)
  run_with-Run law (suc n) whole le = run_step law n whole le (λ mid bound. run_with-Run law n mid bound) (piece_at whole) refl

  -- reading gives a run
  pub run_Run : TakesOne → (whole : List E) → Run piece_at whole (run_at piece_at whole).0 (run_at piece_at whole).1
  unfolding run_at
  run_Run law whole = run_with-Run law (length whole) whole (omega arith)
