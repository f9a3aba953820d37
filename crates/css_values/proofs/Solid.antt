-- The tokens without Blanks, where the whitespace at the front is skipped.
use Rattle.std.proofs.Common.{◌≡◌, Bool, true, false, cond, List, [], ◌∷◌, length, refl, arith}
use Rattle.css_tokens.specs.TokenReading.{is_whitespace, skip_whitespace}
use Rattle.css_tokens.specs.declared.token.Token.{Token}
use Rattle.css_values.specs.Parts.{solid}

pub none_solid : (tokens left : List Token) → left ≡ skip_whitespace tokens → length left ≡ 0 → solid tokens ≡ []
unfolding solid
none_solid [] left e z = refl
none_solid (token ∷ tokens) left e z = go (is_whitespace token.kind) refl (λ f. none_solid tokens left f z)
  where
    go : (blank : Bool) → is_whitespace token.kind ≡ blank → (left ≡ skip_whitespace tokens → solid tokens ≡ []) → cond blank (solid tokens) (token.kind ∷ solid tokens) ≡ []
    go true b more = more (rw b at e)
    go false b more = absurd (let whole : left ≡ token ∷ tokens = rw b at e in omega (arith, rw whole at z))

pub first_solid : (tokens left : List Token) (first : Token) (rest : List Token) → left ≡ skip_whitespace tokens → left ≡ first ∷ rest → solid tokens ≡ first.kind ∷ solid rest
unfolding solid
first_solid [] left first rest e f = absurd cc
first_solid (token ∷ tokens) left first rest e f = go (is_whitespace token.kind) refl (λ same. first_solid tokens left first rest same f)
  where
    go : (blank : Bool) → is_whitespace token.kind ≡ blank → (left ≡ skip_whitespace tokens → solid tokens ≡ first.kind ∷ solid rest) → cond blank (solid tokens) (token.kind ∷ solid tokens) ≡ first.kind ∷ solid rest
    go true b more = more (rw b at e)
    go false b more =
        let whole : left ≡ token ∷ tokens = rw b at e in
        let head : token ≡ first = cc in
        let tail : tokens ≡ rest = cc in
        rw (head, tail) refl
