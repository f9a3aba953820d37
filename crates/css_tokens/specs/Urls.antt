-- Identifiers, functions and addresses: CSS Syntax 3, 4.3.4, 4.3.6 and 4.3.14.
use Rattle.std.specs.Prelude.{ℕ, Bool, false, ◌&&◌, ◌||◌, not, ◌==◌, if◌then◌else◌, codes, List, [], ◌∷◌, Option, Some, None}
use Rattle.reading.specs.Characters.{is_blank, is_quote}
use Rattle.reading.specs.Punctuation.{left_parenthesis, right_parenthesis, reverse_solidus, commercial_at}
use Rattle.reading.specs.Reading.{◌then◌, ◌otherwise◌, begins, past_character, past_one, span, run_at}
use Rattle.css_definitions.specs.SheetCharacters.{is_non_printable}
use Rattle.css_definitions.specs.Identifiers.{escape_at, identifier_at}
use Rattle.css_definitions.specs.Words.{is_word}
use Rattle.css_tokens.specs.declared.token.TokenKind.{TokenKind}
use Rattle.css_tokens.specs.declared.token.TokenKind.TheVariants as kind

abbrev pub past_blanks : List ℕ → List ℕ
past_blanks characters = (span is_blank characters).1

-- a character that may stand in an address without an escape
abbrev pub is_url_character : ℕ → Bool
is_url_character c = not (is_blank c || (is_quote c || ((c == left_parenthesis || c == right_parenthesis) || (c == reverse_solidus || is_non_printable c))))

-- a character of an address, or an escape
unfoldable pub url_character_at : List ℕ → Option (ℕ × List ℕ)
url_character_at [] = None
url_character_at (first ∷ rest) = if first == reverse_solidus then escape_at rest else (if is_url_character first then Some (first, rest) else None)

-- 4.3.14: anything but a `)`; an escaped `)` doesn't count
unfoldable pub bad_url_character_at : List ℕ → Option (ℕ × List ℕ)
bad_url_character_at [] = None
bad_url_character_at (first ∷ rest) =
    if first == right_parenthesis then None else (if first == reverse_solidus then escape_at rest otherwise Some (first, rest) else Some (first, rest))

-- what is left after the `)` that ends a bad address
abbrev pub past_bad_url : List ℕ → List ℕ
past_bad_url characters = past_one (run_at bad_url_character_at characters).1

-- after the characters of an address and blanks: only a `)` or the end of the text may stand there
abbrev pub url_end : List ℕ → List ℕ → TokenKind × List ℕ
url_end value [] = (kind.Url value, [])
url_end value (first ∷ rest) = if first == right_parenthesis then (kind.Url value, rest) else (kind.BadUrl, past_bad_url (first ∷ rest))

abbrev pub url_of : List ℕ × List ℕ → TokenKind × List ℕ
url_of value = url_end value.0 (past_blanks value.1)

-- 4.3.6: after `url(`
unfoldable pub url_at : List ℕ → TokenKind × List ℕ
url_at characters = url_of (run_at url_character_at (past_blanks characters))

abbrev pub begins_quote : List ℕ → Bool
begins_quote [] = false
begins_quote (first ∷ rest) = is_quote first

-- 4.3.4, after a name and its `(`: the name `url` begins an address, unless a quote follows
abbrev pub function_or_url : List ℕ → List ℕ → TokenKind × List ℕ
function_or_url name characters = if is_word name (codes "url") && not (begins_quote (past_blanks characters)) then url_at characters else (kind.Function name, characters)

abbrev pub named_of : List ℕ × List ℕ → TokenKind × List ℕ
named_of name = if begins left_parenthesis name.1 then function_or_url name.0 (past_one name.1) else (kind.Word name.0, name.1)

-- 4.3.4: an identifier, a function or an address
unfoldable pub named_at : List ℕ → Option (TokenKind × List ℕ)
named_at characters = identifier_at characters then λ name. Some (named_of name)

unfoldable pub at_keyword_at : List ℕ → Option (TokenKind × List ℕ)
at_keyword_at characters = past_character commercial_at characters then λ rest. identifier_at rest then λ name. Some (kind.AtKeyword name.0, name.1)
