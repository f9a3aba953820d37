-- The spans of tokens (our own): they are in order, don't overlap and each is its slice of the text.
use Rattle.std.specs.Prelude.{◌≡◌, ℕ, ◌≤◌, List, [], ◌∷◌, length, drop, Some}
use Rattle.std.specs.Str.{chars, IsCharBoundary}
use Rattle.css_tokens.specs.Tokens.{token_at}
use Rattle.css_tokens.specs.declared.token.Token.{Token}

-- The token's span begins here or later, and lies within the text on its character bounds. The text
-- from its start on reads as this token, and what is left is the text from its end on.
pub record IsSpan (text : List ℕ) (place : ℕ) (token : Token) : Type 0 where
  pub from : place ≤ token.start
  pub forward : token.start ≤ token.end
  pub within : token.end ≤ length text
  pub starts : IsCharBoundary text token.start
  pub ends : IsCharBoundary text token.end
  pub slice : token_at (chars (drop token.start text)) ≡ Some (token.kind, chars (drop token.end text))

-- each token's span begins where the one before it ends, or later
abbrev pub AreSpans : List ℕ → ℕ → List Token → Type 0
AreSpans text place [] = Unit {0}
AreSpans text place (token ∷ tokens) = IsSpan text place token × AreSpans text token.end tokens
