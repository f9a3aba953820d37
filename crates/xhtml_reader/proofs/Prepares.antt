-- Line ends.
use Rattle.std.proofs.Common.{◌≡◌, ◌<◌, ℕ, Bool, true, false, ◌&&◌, cond, eqb, get_or, length, List, [], ◌∷◌, ◌++◌, refl, sym, ap, subst, ◌∙◌, arith}
use Rattle.std.specs.Str.{chars, IsUtf8, NonePass, NoCharPasses}
use Rattle.std.proofs.lemmas.Str.{chars_from_encodes, encodes-chars}
use Rattle.std.proofs.lemmas.Str.Pattern.{NoCharPasses-char}
use Rattle.xml_definitions.specs.Normalized.{as_line_feed, with_line_feeds}
use Rattle.xhtml_reader.specs.Machinery.LineEnds.{begins_with_line_feed, line_end_left}

-- the first character, and then the others
pub first_normalized : (c : ℕ) (rest : List ℕ) → with_line_feeds (c ∷ rest) ≡ line_end_left c rest ++ with_line_feeds rest
first_normalized c [] = ap (λ (b : Bool). cond b [] (as_line_feed c ∷ []) ++ []) (sym (never (eqb c 13)))
  where
    never : (b : Bool) → (b && false) ≡ false
    never true = refl
    never false = refl
first_normalized c (d ∷ rest) = picked (eqb c 13 && eqb d 10) (as_line_feed c) (with_line_feeds (d ∷ rest))
  where
    picked : (b : Bool) (x : ℕ) (xs : List ℕ) → cond b xs (x ∷ xs) ≡ cond b [] (x ∷ []) ++ xs
    picked true x xs = refl
    picked false x xs = refl

-- without a carriage return
unchanged : (cs : List ℕ) → NonePass (λ c. eqb c 13) cs → with_line_feeds cs ≡ cs
unchanged [] none = refl
unchanged (c ∷ cs) none = first_normalized c cs ∙ (λ i. kept i ++ unchanged cs none.1 i)
  where
    kept : line_end_left c cs ≡ c ∷ []
    kept = rw none.0 refl

pub unchanged_text : (bytes : List ℕ) → IsUtf8 bytes → NoCharPasses (λ c. eqb c 13) bytes → with_line_feeds (chars bytes) ≡ chars bytes
unchanged_text bytes utf8 none = rw (← chars_from_encodes none.0 bytes utf8 none.1) (unchanged none.0 none.2)

-- with line feeds there is no carriage return

not_return : (c : ℕ) → eqb (as_line_feed c) 13 ≡ false
not_return c = go (eqb c 13) refl
  where
    go : (b : Bool) → eqb c 13 ≡ b → eqb (cond b 10 c) 13 ≡ false
    go true h = refl
    go false h = h

pub no_returns : (cs : List ℕ) → NonePass (λ c. eqb c 13) (with_line_feeds cs)
no_returns [] = tt
no_returns (c ∷ cs) = subst (λ t. NonePass (λ d. eqb d 13) t) (sym (first_normalized c cs)) (go (eqb c 13 && begins_with_line_feed cs) (no_returns cs))
  where
    go : (b : Bool) → NonePass (λ d. eqb d 13) (with_line_feeds cs) → NonePass (λ d. eqb d 13) (cond b [] (as_line_feed c ∷ []) ++ with_line_feeds cs)
    go true more = more
    go false more = (not_return c, more)

pub changed_text : (bytes : List ℕ) → IsUtf8 bytes → (k : ℕ) × (k < length bytes) × (get_or bytes k 0 ≡ 13) → with_line_feeds (chars bytes) ≡ chars bytes → ⊥
changed_text bytes utf8 at same =
    let none : NoCharPasses (λ c. eqb c 13) bytes = (chars bytes, encodes-chars bytes utf8, subst (λ t. NonePass (λ d. eqb d 13) t) same (no_returns (chars bytes))) in
    NoCharPasses-char 13 bytes at.0 none (omega arith) at.1 at.2
