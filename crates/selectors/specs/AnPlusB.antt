-- The An+B notation: CSS Syntax 3, 6. Our own: it is read from the source text of the argument, in which
-- comments count for nothing, and not from its tokens; and its numbers stop at those of 32 bits.
use Rattle.std.specs.Prelude.{ℕ, Bool, true, false, ◌-◌, ◌^◌, ◌==◌, if◌then◌else◌, List, [], ◌∷◌, take, drop, flat_map, Option, Some, None, codes, ℤ, pos, neg_ℤ}
use Rattle.std.specs.Int.{int_max, int_min}
use Rattle.std.specs.Str.Parse.{digits_value}
use Rattle.plain_types.specs.StyleNames.{lower_case}
use Rattle.reading.specs.Punctuation.{plus_sign, hyphen_minus, right_parenthesis}
use Rattle.reading.specs.Reading.{◌then◌, ◌otherwise◌, only, past_character, past_text, run_at}
use Rattle.css_tokens.specs.Numbers.{sign_at, digits_at, signed}
use Rattle.css_tokens.specs.Urls.{past_blanks}
use Rattle.css_tokens.specs.declared.token.Token.{Token}
use Rattle.reading.specs.Characters.{is_ascii}
use Rattle.css_tokens.specs.TokenReading.{is_sign, past_close}
use Rattle.selectors.specs.declared.an_plus_b.AnPlusB.{AnPlusB}

abbrev pub an_plus_b : ℤ → ℤ → AnPlusB
an_plus_b a b = record { a = a; b = b }

-- what was read, where nothing but blanks is left
abbrev pub only_blanks_after : {X : Type 0} → X → List ℕ → Option X
only_blanks_after x text = only x (past_blanks text)

-- a sign that may not be missing: whether it is `-`
abbrev pub written_sign_at : List ℕ → Option (Bool × List ℕ)
written_sign_at [] = None
written_sign_at (first ∷ rest) = if first == hyphen_minus then Some (true, rest) else (if first == plus_sign then Some (false, rest) else None)

-- the nearest number of 32 bits
abbrev pub nearest_i32 : ℤ → ℤ
nearest_i32 number = int_max (neg_ℤ (pos (2 ^ 31))) (int_min number (pos (2 ^ 31 - 1)))

-- digits after a sign
abbrev pub signed_at : Bool × List ℕ → Option (ℤ × List ℕ)
signed_at sign = digits_at sign.1 then λ digits. Some (nearest_i32 (signed sign.0 (digits_value 10 digits.0)), digits.1)

-- what was read after a sign, or 1 where nothing was
abbrev pub or_one : Bool × List ℕ → Option (ℤ × List ℕ) → ℤ × List ℕ
or_one sign (Some read) = read
or_one sign None = (signed sign.0 1, sign.1)

-- this number, and `n`
abbrev pub n_of : ℤ × List ℕ → Option (ℤ × List ℕ)
n_of number = past_character 110 number.1 then λ rest. Some (number.0, rest)

-- after a sign: digits, or 1 where there are none, and `n`
abbrev pub n_at : Bool × List ℕ → Option (ℤ × List ℕ)
n_at sign = n_of (or_one sign (signed_at sign))

-- blanks, a sign, blanks and digits
abbrev pub offset_at : List ℕ → Option (ℤ × List ℕ)
offset_at text = written_sign_at (past_blanks text) then λ sign. signed_at (sign.0, past_blanks sign.1)

-- `odd | even`
abbrev pub odd_or_even : List ℕ → Option AnPlusB
odd_or_even text =
    (past_text (codes "odd") text then λ rest. only_blanks_after (an_plus_b (pos 2) (pos 1)) rest)
    otherwise (past_text (codes "even") text then λ rest. only_blanks_after (an_plus_b (pos 2) (pos 0)) rest)

-- `<integer>`
abbrev pub b_alone : List ℕ → Option AnPlusB
b_alone text = signed_at (sign_at text) then λ b. only_blanks_after (an_plus_b (pos 0) b.0) b.1

-- `<n-dimension> [ ['+' | '-'] <signless-integer> ]?`
abbrev pub a_and_b : List ℕ → Option AnPlusB
a_and_b text =
    n_at (sign_at text) then λ a. only_blanks_after (an_plus_b a.0 (pos 0)) a.1 otherwise (offset_at a.1 then λ b. only_blanks_after (an_plus_b a.0 b.0) b.1)

abbrev pub an_plus_b_of : List ℕ → Option AnPlusB
an_plus_b_of text = odd_or_even text otherwise b_alone text otherwise a_and_b text

-- the text has this meaning, blanks at its ends left out
unfoldable pub an_plus_b_value : List ℕ → Option AnPlusB
an_plus_b_value text = an_plus_b_of (past_blanks text)

-- The source text of an argument.

-- the bytes of a token
abbrev pub slice : List ℕ → Token → List ℕ
slice text token = take (token.end - token.start) (drop token.start text)

-- the tokens one after the other, without the comments between them, in ASCII lower case
abbrev pub source : List ℕ → List Token → List ℕ
source text tokens = lower_case (flat_map (slice text) tokens)

-- A token of the argument. It ends at the first `)`: the notation has no bracket, so the argument of a
-- function with another one inside has no meaning either way.
abbrev pub argument_token_at : List Token → Option (Token × List Token)
argument_token_at [] = None
argument_token_at (first ∷ rest) = if is_sign right_parenthesis first.kind then None else Some (first, rest)

-- the meaning of a source text: all of the notation is ASCII, where each byte is a character
abbrev pub source_value : List ℕ → Option AnPlusB
source_value bytes = if is_ascii bytes then an_plus_b_value bytes else None

abbrev pub argument_of : List ℕ → List Token × List Token → Option (AnPlusB × List Token)
argument_of text argument = source_value (source text argument.0) then λ value. past_close right_parenthesis argument.1 then λ rest. Some (value, rest)

-- what stands after `:nth-child(` and its kin, with the end of the function
unfoldable pub an_plus_b_at : List ℕ → List Token → Option (AnPlusB × List Token)
an_plus_b_at text tokens = argument_of text (run_at argument_token_at tokens)
