-- The longest front of characters that pass a test.
use Rattle.std.proofs.Common.{◌≡◌, ◌≢◌, inl, inr, ℕ, Bool, true, false, not, eqb, List, [], ◌∷◌, ◌++◌, refl, sym, ap, ◌∙◌, append-nil}
use Rattle.std.proofs.lemmas.Bool.Decides.{eqb_tells}
use Rattle.std.specs.List.{list_all, list_any}
use Rattle.bake_definitions.specs.Insertions.{prefix}
use Rattle.reading.specs.Reading.{span}

-- what is left begins with a character that doesn't pass
pub span_stops : (test : ℕ → Bool) (cs : List ℕ) (c : ℕ) (rest : List ℕ) → (span test cs).1 ≡ c ∷ rest → test c ≡ false
unfolding span
span_stops test [] c rest e = absurd cc
span_stops test (d ∷ cs) c rest e = go (test d) refl (λ left. span_stops test cs c rest left)
  where
    go : (b : Bool) → test d ≡ b → ((span test cs).1 ≡ c ∷ rest → test c ≡ false) → test c ≡ false
    go true h later = let left : (span test (d ∷ cs)).1 ≡ (span test cs).1 = rw h refl in later (sym left ∙ e)
    go false h later = let left : (span test (d ∷ cs)).1 ≡ d ∷ cs = rw h refl in let same : d ≡ c = cc in rw (← same) h

-- a character that stops is among them
pub some_among : (stop : ℕ) (cs : List ℕ) (c : ℕ) (rest : List ℕ) → (span (λ d. not (eqb d stop)) cs).1 ≡ c ∷ rest → list_any (λ d. eqb d stop) cs ≡ true
unfolding span
some_among stop [] c rest e = absurd cc
some_among stop (d ∷ cs) c rest e = go (eqb d stop) refl (λ left. some_among stop cs c rest left)
  where
    go : (b : Bool) → eqb d stop ≡ b → ((span (λ x. not (eqb x stop)) cs).1 ≡ c ∷ rest → list_any (λ x. eqb x stop) cs ≡ true) → list_any (λ x. eqb x stop) (d ∷ cs) ≡ true
    go true h later = rw h refl
    go false h later = let left : (span (λ x. not (eqb x stop)) (d ∷ cs)).1 ≡ (span (λ x. not (eqb x stop)) cs).1 = rw h refl in rw h (later (sym left ∙ e))

-- and none is, where nothing is left
pub none_among : (stop : ℕ) (cs : List ℕ) → (span (λ d. not (eqb d stop)) cs).1 ≡ [] → list_any (λ d. eqb d stop) cs ≡ false
unfolding span
none_among stop [] e = refl
none_among stop (d ∷ cs) e = go (eqb d stop) refl (λ left. none_among stop cs left)
  where
    go : (b : Bool) → eqb d stop ≡ b → ((span (λ x. not (eqb x stop)) cs).1 ≡ [] → list_any (λ x. eqb x stop) cs ≡ false) → list_any (λ x. eqb x stop) (d ∷ cs) ≡ false
    go true h later = let left : (span (λ x. not (eqb x stop)) (d ∷ cs)).1 ≡ d ∷ cs = rw h refl in absurd (let none = sym left ∙ e in cc)
    go false h later = let left : (span (λ x. not (eqb x stop)) (d ∷ cs)).1 ≡ (span (λ x. not (eqb x stop)) cs).1 = rw h refl in rw h (later (sym left ∙ e))

-- the prefix of a name that has a colon, and of one that has none
pub prefix_found : (name front : List ℕ) (c : ℕ) (rest : List ℕ) → c ≡ 58
    → span (λ d. not (eqb d 58)) name ≡ (front ++ (span (λ d. not (eqb d 58)) (c ∷ rest)).0, (span (λ d. not (eqb d 58)) (c ∷ rest)).1)
    → prefix name ≡ front ++ c ∷ []
unfolding span
prefix_found name front c rest is e =
    let found : span (λ d. not (eqb d 58)) name ≡ (front, 58 ∷ rest) = e ∙ rw (is, append-nil) refl in
    let some = some_among 58 name 58 rest (ap (λ t. t.1) found) in
    rw (some, found, is) refl

pub prefix_none : (name : List ℕ) → (span (λ d. not (eqb d 58)) name).1 ≡ [] → prefix name ≡ []
unfolding span
prefix_none name e = rw (none_among 58 name e) refl

-- two characters that aren't the same
pub other : (c d : ℕ) → c ≢ d → eqb c d ≡ false
other c d h = elim (eqb_tells c d) [ inl same ↦ absurd (h same.1) | inr not_same ↦ not_same.0 ]

-- the front and what is left are the whole
pub span_whole : (test : ℕ → Bool) (cs : List ℕ) → (span test cs).0 ++ (span test cs).1 ≡ cs
unfolding span
span_whole test [] = refl
span_whole test (c ∷ cs) = go (test c) refl (span_whole test cs)
  where
    go : (b : Bool) → test c ≡ b → (span test cs).0 ++ (span test cs).1 ≡ cs → (span test (c ∷ cs)).0 ++ (span test (c ∷ cs)).1 ≡ c ∷ cs
    go true h more = rw h (ap (λ t. c ∷ t) more)
    go false h more = rw h refl

-- each character of the front passes
pub span_passes : (test : ℕ → Bool) (cs : List ℕ) → list_all test (span test cs).0 ≡ true
unfolding span
span_passes test [] = refl
span_passes test (c ∷ cs) = go (test c) refl (span_passes test cs)
  where
    go : (b : Bool) → test c ≡ b → list_all test (span test cs).0 ≡ true → list_all test (span test (c ∷ cs)).0 ≡ true
    go true h more = rw (h, h) more
    go false h more = rw h refl
