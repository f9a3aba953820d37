-- Blocks of a sheet, and what stands outside of them: CSS Syntax 3, 5 and 5.4.7 to 5.4.9.
use Rattle.std.specs.Prelude.{ℕ, zero, suc, ◌-◌, Bool, ◌==◌, if◌then◌else◌, List, [], ◌∷◌, length, take, drop, Option, Some, None}
use Rattle.reading.specs.Punctuation.{left_parenthesis, right_parenthesis}
use Rattle.css_tokens.specs.declared.token.Token.{Token}
use Rattle.css_tokens.specs.declared.token.TokenKind.{TokenKind}
use Rattle.css_tokens.specs.declared.token.TokenKind.TheVariants as kind
use Rattle.css_tokens.specs.TokenReading.{is_sign}
use Rattle.selectors.specs.Simples.{left_square_bracket, right_square_bracket}

abbrev pub left_curly_bracket : ℕ
left_curly_bracket = 123

abbrev pub right_curly_bracket : ℕ
right_curly_bracket = 125

-- 5.4.7: the bracket that closes the block that this token opens. `(`, `[`, `{` and a function open one
abbrev pub closing_bracket : TokenKind → Option ℕ
closing_bracket (kind.Function name) = Some right_parenthesis
closing_bracket (kind.Sign c) =
    if c == left_parenthesis then Some right_parenthesis
    else (if c == left_square_bracket then Some right_square_bracket
    else (if c == left_curly_bracket then Some right_curly_bracket else None))
closing_bracket _ = None

-- what is left after a component value, from what follows its first token: a token that opens no block is
-- a value by itself; 5.4.8 and 5.4.9: one that does is a value with all up to its closing bracket, which
-- belongs to it, or to the end of the text
abbrev pub past_value : ((TokenKind → Bool) → List Token → List Token) → Option ℕ → List Token → List Token
past_value past_values None rest = rest
past_value past_values (Some bracket) rest = drop 1 (past_values (is_sign bracket) rest)

-- what is left after so many component values, or fewer
unfoldable pub past_values : ℕ → (TokenKind → Bool) → List Token → List Token
past_values zero ends tokens = tokens
past_values (suc most) ends [] = []
past_values (suc most) ends (first ∷ rest) =
    if ends first.kind then first ∷ rest else past_values most ends (past_value (past_values most) (closing_bracket first.kind) rest)

-- What is left after the component values at the front: from the first token on that ends them and that
-- stands in no block among them; nothing, where there is none. There are no more values than tokens.
abbrev pub past_piece : (TokenKind → Bool) → List Token → List Token
past_piece ends tokens = past_values (length tokens) ends tokens

-- the tokens of the component values at the front
abbrev pub piece : (TokenKind → Bool) → List Token → List Token
piece ends tokens = take (length tokens - length (past_piece ends tokens)) tokens
