-- The text of a sheet, one character after the other, and that there is nothing left to filter in it.
use Rattle.std.proofs.Common.{◌≡◌, ℕ, Bool, true, false, ◌&&◌, ◌||◌, cond, eqb, List, [], ◌∷◌, ◌++◌, refl, sym, ◌∙◌, append_assoc}
use Rattle.std.proofs.lemmas.List.{append-nil}
use Rattle.reading.specs.Reading.{begins}
use Rattle.css_definitions.specs.SheetText.{filtered_character, left_before, filtered}

kept : (c : ℕ) (rest : List ℕ) → left_before rest (filtered_character c) ≡ filtered_character c ∷ []
kept c rest = go (eqb c 13) (eqb c 12) (eqb c 0) refl refl refl
  where
    go : (return feed null : Bool) → eqb c 13 ≡ return → eqb c 12 ≡ feed → eqb c 0 ≡ null
        → left_before rest (cond (return || feed) 10 (cond null 0xfffd c)) ≡ cond (return || feed) 10 (cond null 0xfffd c) ∷ []
    go true feed null p q r = refl
    go false true null p q r = refl
    go false false true p q r = refl
    go false false false p q r = rw (p, q, r) refl

pub filtered-filtered : (text : List ℕ) → filtered (filtered text) ≡ filtered text
unfolding filtered
filtered-filtered [] = refl
filtered-filtered (c ∷ rest) = go (eqb c 13 && begins 10 rest) (filtered-filtered rest)
  where
    go : (gone : Bool) → filtered (filtered rest) ≡ filtered rest → filtered (cond gone [] (filtered_character c ∷ []) ++ filtered rest) ≡ cond gone [] (filtered_character c ∷ []) ++ filtered rest
    go true again = again
    go false again = rw (kept, again) refl

pub filtered_more : (all out next text : List ℕ) (c : ℕ) (rest : List ℕ) → all ≡ out ++ filtered text → text ≡ c ∷ rest → next ≡ out ++ left_before rest c → all ≡ next ++ filtered rest
unfolding filtered
filtered_more all out next text c rest all_is text_is next_is = all_is ∙ rw (text_is, next_is) (sym (append_assoc out (left_before rest c) (filtered rest)))

pub filtered_end : (all out text : List ℕ) → all ≡ out ++ filtered text → text ≡ [] → out ≡ all
unfolding filtered
filtered_end all out text all_is text_is = sym (all_is ∙ rw text_is (append-nil out))
