-- The parts of which values are made: CSS Values 4. By its section 2.5 Blanks may stand between all of them
-- and mean nothing, so values are read from the kinds of the tokens without Blanks.
use Rattle.std.specs.Prelude.{ℕ, Bool, true, false, ◌&&◌, not, if◌then◌else◌, List, [], ◌∷◌, Option, Some, None, codes, ℤ, pos, int_lt}
use Rattle.plain_types.specs.StyleNames.{style_name}
use Rattle.reading.specs.Punctuation.{comma, right_parenthesis}
use Rattle.reading.specs.Reading.{◌then◌, only, run_at}
use Rattle.css_definitions.specs.Words.{is_word, is_among}
use Rattle.css_tokens.specs.TokenReading.{is_whitespace, is_sign, is_keyword, is_function, ident_of, string_of, integer_of}
use Rattle.css_tokens.specs.declared.token.Token.{Token}
use Rattle.css_tokens.specs.declared.token.TokenKind.{TokenKind}
use Rattle.css_tokens.specs.declared.token.TokenKind.TheVariants as kind

-- Tokens.

-- the kinds of the tokens, without Blanks
unfoldable pub solid : List Token → List TokenKind
solid [] = []
solid (token ∷ tokens) = if is_whitespace token.kind then solid tokens else token.kind ∷ solid tokens

-- what the first token holds, where it holds such a thing
abbrev pub one_at : {X : Type 0} → (TokenKind → Option X) → List TokenKind → Option (X × List TokenKind)
one_at held [] = None
one_at held (first ∷ rest) = held first then λ x. Some (x, rest)

-- what is left after a first token that passes
abbrev pub past_one_that : (TokenKind → Bool) → List TokenKind → Option (List TokenKind)
past_one_that passes [] = None
past_one_that passes (first ∷ rest) = if passes first then Some rest else None

abbrev pub past_comma : List TokenKind → Option (List TokenKind)
past_comma kinds = past_one_that (is_sign comma) kinds

abbrev pub past_keyword : List ℕ → List TokenKind → Option (List TokenKind)
past_keyword word kinds = past_one_that (is_keyword word) kinds

abbrev pub past_function : List ℕ → List TokenKind → Option (List TokenKind)
past_function word kinds = past_one_that (is_function word) kinds

-- CSS Syntax 3, 5.4.9: a `)` closes a function, and so does the end of the text
abbrev pub past_close : List TokenKind → Option (List TokenKind)
past_close [] = Some []
past_close (first ∷ rest) = if is_sign right_parenthesis first then Some rest else None

-- Names, strings and integers.

abbrev pub word_at : List TokenKind → Option (List ℕ × List TokenKind)
word_at kinds = one_at ident_of kinds

abbrev pub string_at : List TokenKind → Option (List ℕ × List TokenKind)
string_at kinds = one_at string_of kinds

abbrev pub integer_at : List TokenKind → Option (ℤ × List TokenKind)
integer_at kinds = one_at integer_of kinds

-- 5.1, `<integer [0,∞]>`: an integer of at least 0
abbrev pub natural_of : TokenKind → Option ℤ
natural_of kind = integer_of kind then λ value. if int_lt value (pos 0) then None else Some value

abbrev pub natural_at : List TokenKind → Option (ℤ × List TokenKind)
natural_at kinds = one_at natural_of kinds

-- 4.2: the words that no custom-ident is: the CSS-wide keywords (CSS Cascade 5, 7.3) and `default`
abbrev pub wide_words : List (List ℕ)
wide_words = codes "inherit" ∷ codes "initial" ∷ codes "unset" ∷ codes "revert" ∷ codes "revert-layer" ∷ codes "default" ∷ []

-- CSS Lists 3, 4: the name of a counter is a custom-ident other than `none`
abbrev pub is_counter_name : List ℕ → Bool
is_counter_name name = not (is_among (codes "none" ∷ wide_words) name)

abbrev pub name_of : TokenKind → Option (List ℕ)
name_of (kind.Word name) = if is_counter_name name then Some name else None
name_of _ = None

abbrev pub name_at : List TokenKind → Option (List ℕ × List TokenKind)
name_at kinds = one_at name_of kinds

-- CSS Counter Styles 3, 3: the name of a counter style is a custom-ident other than `none`, too; the names
-- that are predefined become lower-case
abbrev pub style_name_at : List TokenKind → Option (List ℕ × List TokenKind)
style_name_at kinds = name_at kinds then λ name. Some (style_name name.0, name.1)

-- CSS Counter Styles 3, 3.2: `<string> | <image> | <custom-ident>` (our own: no image)
abbrev pub symbol_of : TokenKind → Option (List ℕ)
symbol_of (kind.Chars value) = Some value
symbol_of (kind.Word name) = if is_among wide_words name then None else Some name
symbol_of _ = None

abbrev pub symbol_at : List TokenKind → Option (List ℕ × List TokenKind)
symbol_at kinds = one_at symbol_of kinds

-- Combinations.

abbrev pub alone : {X : Type 0} → Option (X × List TokenKind) → Option X
alone read = read then λ x. only x.0 x.1

abbrev pub is_nothing_left : List TokenKind → Bool
is_nothing_left [] = true
is_nothing_left (_ ∷ _) = false

-- the keyword stands there alone
abbrev pub is_alone : List ℕ → List TokenKind → Bool
is_alone word [] = false
is_alone word (first ∷ rest) = is_keyword word first && is_nothing_left rest

-- one or more
abbrev pub some_of : {X : Type 0} → List X × List TokenKind → Option (List X × List TokenKind)
some_of ([], rest) = None
some_of (x ∷ xs, rest) = Some (x ∷ xs, rest)

module _ {X : Type 0} (piece_at : List TokenKind → Option (X × List TokenKind)) where
  -- one or more, and nothing else
  abbrev pub all_of : List TokenKind → Option (List X)
  all_of kinds = alone (some_of (run_at piece_at kinds))

  -- a comma, and then one
  unfoldable pub after_comma_at : List TokenKind → Option (X × List TokenKind)
  after_comma_at kinds = past_comma kinds then piece_at

  abbrev pub with_first : X → List X × List TokenKind → Option (List X)
  with_first x more = only (x ∷ more.0) more.1

  -- one or more between commas, and nothing else
  abbrev pub comma_list : List TokenKind → Option (List X)
  comma_list kinds = piece_at kinds then λ first. with_first first.0 (run_at after_comma_at first.1)
