-- Reading tokens from their front, as the grammars of CSS Syntax 3, 5 do.
use Rattle.std.specs.Prelude.{ℕ, Bool, true, false, ◌==◌, if◌then◌else◌, List, [], ◌∷◌, Option, Some, None, ℤ}
use Rattle.reading.specs.Reading.{◌then◌}
use Rattle.css_definitions.specs.Words.{is_word}
use Rattle.css_tokens.specs.declared.token.Token.{Token}
use Rattle.css_tokens.specs.declared.token.TokenKind.{TokenKind}
use Rattle.css_tokens.specs.declared.token.TokenKind.TheVariants as kind

-- Kinds of tokens.

-- `<whitespace-token>`
abbrev pub is_whitespace : TokenKind → Bool
is_whitespace kind.Blank = true
is_whitespace _ = false

-- this character by itself
abbrev pub is_sign : ℕ → TokenKind → Bool
is_sign wanted (kind.Sign c) = c == wanted
is_sign wanted _ = false

-- CSS Values 4, 4.1: the identifier is this keyword, in any ASCII case
abbrev pub is_keyword : List ℕ → TokenKind → Bool
is_keyword word (kind.Word name) = is_word name word
is_keyword word _ = false

-- the function has this name, in any ASCII case
abbrev pub is_function : List ℕ → TokenKind → Bool
is_function word (kind.Function name) = is_word name word
is_function word _ = false

-- `<ident-token>`
abbrev pub ident_of : TokenKind → Option (List ℕ)
ident_of (kind.Word name) = Some name
ident_of _ = None

-- `<function-token>`
abbrev pub function_of : TokenKind → Option (List ℕ)
function_of (kind.Function name) = Some name
function_of _ = None

-- `<string-token>`
abbrev pub string_of : TokenKind → Option (List ℕ)
string_of (kind.Chars value) = Some value
string_of _ = None

-- CSS Values 4, 5.2: an integer is a number without point and exponent
abbrev pub integer_of : TokenKind → Option ℤ
integer_of (kind.Number true value) = Some value
integer_of _ = None

-- The token at the front.

-- what the first token holds, where it holds such a thing
abbrev pub held_at : {X : Type 0} → (TokenKind → Option X) → List Token → Option (X × List Token)
held_at held [] = None
held_at held (first ∷ rest) = held first.kind then λ x. Some (x, rest)

abbrev pub ident_at : List Token → Option (List ℕ × List Token)
ident_at tokens = held_at ident_of tokens

-- the name of a function, and what is left after its bracket
abbrev pub function_at : List Token → Option (List ℕ × List Token)
function_at tokens = held_at function_of tokens

-- what is left after this character
abbrev pub past_delimiter : ℕ → List Token → Option (List Token)
past_delimiter wanted [] = None
past_delimiter wanted (first ∷ rest) = if is_sign wanted first.kind then Some rest else None

-- 5.4.8 and 5.4.9: this bracket closes what was opened, and so does the end of the tokens
abbrev pub past_close : ℕ → List Token → Option (List Token)
past_close bracket [] = Some []
past_close bracket (first ∷ rest) = if is_sign bracket first.kind then Some rest else None

-- what is left after whitespace, if it stands there
abbrev pub skip_whitespace : List Token → List Token
skip_whitespace [] = []
skip_whitespace (first ∷ rest) = if is_whitespace first.kind then skip_whitespace rest else first ∷ rest
