-- The tokens of a sheet: CSS Syntax 3, 4.3.1 and 4.3.2. At each place the first rule that applies.
use Rattle.std.specs.Prelude.{ℕ, ◌-◌, ◌&&◌, ◌==◌, if◌then◌else◌, List, [], ◌∷◌, ◌++◌, length, Option, Some, None, is_some, codes, encode_utf8_all}
use Rattle.reading.specs.Characters.{is_blank}
use Rattle.reading.specs.Punctuation.{number_sign, asterisk, solidus}
use Rattle.reading.specs.Reading.{◌then◌, ◌otherwise◌, begins, past_character, past_text, past_one, run_at}
use Rattle.css_definitions.specs.Identifiers.{ident_character_at, ident_sequence_at, starts_identifier}
use Rattle.css_tokens.specs.Strings.{string_at}
use Rattle.css_tokens.specs.Numbers.{number_at}
use Rattle.css_tokens.specs.Urls.{past_blanks, named_at, at_keyword_at}
use Rattle.css_tokens.specs.declared.token.TokenKind.{TokenKind}
use Rattle.css_tokens.specs.declared.token.TokenKind.TheVariants as kind
use Rattle.css_tokens.specs.declared.token.Token.{Token}

-- what is left after the first `*/`, or nothing without one
abbrev pub past_comment_end : List ℕ → List ℕ
past_comment_end [] = []
past_comment_end (first ∷ rest) = if first == asterisk && begins solidus rest then past_one rest else past_comment_end rest

-- 4.3.2: what is left after a comment
abbrev pub comment_at : List ℕ → Option (List ℕ)
comment_at characters = past_text (codes "/*") characters then λ rest. Some (past_comment_end rest)

-- what is left after one blank or more
abbrev pub blanks_at : List ℕ → Option (List ℕ)
blanks_at [] = None
blanks_at (first ∷ rest) = if is_blank first then Some (past_blanks rest) else None

abbrev pub hash_of : List ℕ → TokenKind × List ℕ
hash_of characters = (kind.Hash (starts_identifier characters) (ident_sequence_at characters).0, (ident_sequence_at characters).1)

-- a `#` before an ident code point or an escape
unfoldable pub hash_at : List ℕ → Option (TokenKind × List ℕ)
hash_at characters = past_character number_sign characters then λ rest. if is_some (ident_character_at rest) then Some (hash_of rest) else None

-- this token where the text stands at the front
abbrev pub fixed_at : TokenKind → List ℕ → List ℕ → Option (TokenKind × List ℕ)
fixed_at token text characters = past_text text characters then λ rest. Some (token, rest)

abbrev pub sign_token_at : List ℕ → Option (TokenKind × List ℕ)
sign_token_at [] = None
sign_token_at (first ∷ rest) = Some (kind.Sign first, rest)

-- the token at the front, where no comment stands there
unfoldable pub token_at : List ℕ → Option (TokenKind × List ℕ)
token_at characters =
    (blanks_at characters then λ rest. Some (kind.Blank, rest))
    otherwise string_at characters
    otherwise hash_at characters
    otherwise number_at characters
    otherwise fixed_at kind.CommentClose (codes "-->") characters
    otherwise fixed_at kind.CommentOpen (codes "<!--") characters
    otherwise named_at characters
    otherwise at_keyword_at characters
    otherwise sign_token_at characters

-- a comment or a token
unfoldable pub piece_at : List ℕ → Option (Option TokenKind × List ℕ)
piece_at characters = (comment_at characters then λ rest. Some (None, rest)) otherwise (token_at characters then λ read. Some (Some read.0, read.1))

-- how many bytes the characters take in UTF-8
abbrev pub width : List ℕ → ℕ
width characters = length (encode_utf8_all characters)

-- a comment or a token, and how many bytes there are from its first character on and after its last
pub record Piece : Type 0 where
  pub kind : Option TokenKind
  pub from : ℕ
  pub after : ℕ

unfoldable pub placed_at : List ℕ → Option (Piece × List ℕ)
placed_at characters = piece_at characters then λ read. Some (record { kind = read.0; from = width characters; after = width read.1 }, read.1)

-- a comment leaves no token
abbrev pub token_from : Option TokenKind → ℕ → ℕ → List Token
token_from None start end = []
token_from (Some kind) start end = record { kind = kind; start = start; end = end } ∷ []

-- the tokens of these pieces of a text of so many bytes
abbrev pub tokens_of : ℕ → List Piece → List Token
tokens_of all [] = []
tokens_of all (piece ∷ pieces) = token_from piece.kind (all - piece.from) (all - piece.after) ++ tokens_of all pieces

-- the tokens of a prepared text
unfoldable pub tokens : List ℕ → List Token
tokens text = tokens_of (width text) (run_at placed_at text).0
