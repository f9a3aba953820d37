-- Component values as a grammar: CSS Syntax 3, 5.4.7 to 5.4.9.
use Rattle.std.specs.Prelude.{◌≡◌, ℕ, Bool, true, false, List, [], ◌∷◌, drop, Some, None}
use Rattle.css_tokens.specs.declared.token.Token.{Token}
use Rattle.css_tokens.specs.declared.token.TokenKind.{TokenKind}
use Rattle.css_tokens.specs.TokenReading.{is_sign}
use Rattle.css_reader.specs.Blocks.{closing_bracket}

-- What is left after the component values at the front of tokens: nothing at the end of the text; all, where
-- a token stands at the front that ends them; and else what is left after the others. The first is a token
-- that opens no block, or a block: its opening token, the values in it, and its closing bracket, where the
-- text does not end before.
pub data IsPast : (TokenKind → Bool) → List Token → List Token → Type 0 where
  nothing : {ends : TokenKind → Bool} → IsPast ends [] []
  ended : {ends : TokenKind → Bool} (first : Token) (rest : List Token) → ends first.kind ≡ true → IsPast ends (first ∷ rest) (first ∷ rest)
  token : {ends : TokenKind → Bool} (first : Token) {tokens rest : List Token} → ends first.kind ≡ false → closing_bracket first.kind ≡ None → IsPast ends tokens rest → IsPast ends (first ∷ tokens) rest
  block : {ends : TokenKind → Bool} (first : Token) (bracket : ℕ) {tokens : List Token} (closing : List Token) {rest : List Token} → ends first.kind ≡ false → closing_bracket first.kind ≡ Some bracket
      → IsPast (is_sign bracket) tokens closing → IsPast ends (drop 1 closing) rest → IsPast ends (first ∷ tokens) rest
