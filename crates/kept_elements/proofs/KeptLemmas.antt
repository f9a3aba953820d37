-- What is kept under keys, entry by entry.
use Rattle.std.proofs.Common.{◌≡◌, ◌<◌, ◌+◌, ◌==◌, ℕ, Bool, true, false, cond, List, [], ◌∷◌, ◌++◌, Option, Some, None, get_or, length, take, refl, sym, ap, ◌∙◌, arith, Bor}
use Rattle.std.specs.Prelude.{is_some, option_copied}
use Rattle.std.specs.Option.{option_or}
use Rattle.std.proofs.lemmas.Bool.Decides.{nat_tests}
use Rattle.std.proofs.lemmas.List.{take_more}
use Rattle.generated_texts.specs.References.{kept_at}

same_number : (a b : ℕ) → (a == b) ≡ true → a ≡ b
same_number a b e = grind (arith, nat_tests)

-- references, and what they refer to
pub copied_cond : {V : Type 0} (b : Bool) (x : Bor V) (other : Option (Bor V)) → option_copied (cond b (Some x) other) ≡ cond b (Some x.now) (option_copied other)
copied_cond true x other = refl
copied_cond false x other = refl

pub copied_some : {V : Type 0} (o : Option (Bor V)) → is_some (option_copied o) ≡ is_some o
copied_some None = refl
copied_some (Some x) = refl

module _ {V : Type 0} where
  is_none : (o : Option V) → is_some o ≡ false → o ≡ None
  is_none None e = refl
  is_none (Some x) e = absurd (cc e)

  some_first : (o other : Option V) → is_some o ≡ true → o ≡ option_or o other
  some_first None other e = absurd (cc e)
  some_first (Some x) other e = refl

  or_none : (o : Option V) → option_or o None ≡ o
  or_none None = refl
  or_none (Some x) = refl

  -- the value under a key where no earlier entry has it
  abbrev pub or_that : Option V → (ℕ × V) → ℕ → Option V
  or_that before entry key = option_or before (cond (entry.0 == key) (Some entry.1) None)

  none_more : (entry : ℕ × V) (key : ℕ) → kept_at (entry ∷ []) key ≡ cond (entry.0 == key) (Some entry.1) None
  none_more entry key = by_case (entry.0 == key) refl
    where
      by_case : (b : Bool) → (entry.0 == key) ≡ b → kept_at (entry ∷ []) key ≡ cond (entry.0 == key) (Some entry.1) None
      by_case true e = rw e refl
      by_case false e = rw e refl

  kept-last : (kept : List (ℕ × V)) (entry : ℕ × V) (key : ℕ) → kept_at (kept ++ entry ∷ []) key ≡ or_that (kept_at kept key) entry key
  kept-last [] entry key = none_more entry key
  kept-last (first ∷ kept) entry key = by_case (first.0 == key) refl (kept-last kept entry key)
    where
      by_case : (b : Bool) → (first.0 == key) ≡ b → kept_at (kept ++ entry ∷ []) key ≡ or_that (kept_at kept key) entry key
          → kept_at (first ∷ (kept ++ entry ∷ [])) key ≡ or_that (kept_at (first ∷ kept) key) entry key
      by_case true e rest = rw e refl
      by_case false e rest = rw e rest

  pub kept-next : (kept : List (ℕ × V)) (place : ℕ) (entry : ℕ × V) (key : ℕ) → place < length kept → entry ≡ get_or kept place entry
      → kept_at (take (place + 1) kept) key ≡ or_that (kept_at (take place kept) key) entry key
  kept-next kept place entry key below is =
      ap (λ xs. kept_at xs key) (take_more kept place entry below ∙ ap (λ e. take place kept ++ e ∷ []) (sym is))
      ∙ kept-last (take place kept) entry key

  -- an entry is put under its key where there is none, and else nothing changes
  pub put_first : (old new : Option V) (before : ℕ → Option V) (entry : ℕ × V) (key : ℕ) → is_some (before entry.0) ≡ false → old ≡ before key
      → new ≡ cond (entry.0 == key) (Some entry.1) old → new ≡ or_that (before key) entry key
  put_first old new before entry key none was is = by_case (entry.0 == key) refl
    where
      by_case : (b : Bool) → (entry.0 == key) ≡ b → new ≡ or_that (before key) entry key
      by_case true e =
          let same : entry.0 ≡ key = same_number entry.0 key e in
          let empty : before key ≡ None = is_none (before key) (ap (λ k. is_some (before k)) (sym same) ∙ none) in
          rw (is, e, empty) refl
      by_case false e = rw (is, e, was) (sym (or_none (before key)))

  pub put_none : (before : ℕ → Option V) (entry : ℕ × V) (key : ℕ) → is_some (before entry.0) ≡ true → before key ≡ or_that (before key) entry key
  put_none before entry key some = by_case (entry.0 == key) refl
    where
      by_case : (b : Bool) → (entry.0 == key) ≡ b → before key ≡ or_that (before key) entry key
      by_case true e =
          let same : entry.0 ≡ key = same_number entry.0 key e in
          rw e (some_first (before key) (Some entry.1) (ap (λ k. is_some (before k)) (sym same) ∙ some))
      by_case false e = rw e (sym (or_none (before key)))
