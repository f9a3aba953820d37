-- Numeric tokens: CSS Syntax 3, 4.3.3, 4.3.10, 4.3.12 and 4.3.13. Our own: only the value of a whole
-- number counts, and it saturates.
use Rattle.std.specs.Prelude.{ℕ, Bool, true, false, ◌||◌, ◌==◌, if◌then◌else◌, List, [], ◌∷◌, Option, Some, None, is_some, ℤ, pos, neg_ℤ}
use Rattle.std.specs.Str.Parse.{digits_value}
use Rattle.std.specs.Int.{int_max, int_min}
use Rattle.plain_types.specs.declared.count.TheConstants.{COUNT_LOW, COUNT_HIGH}
use Rattle.reading.specs.Characters.{is_digit}
use Rattle.reading.specs.Punctuation.{percent_sign, plus_sign, hyphen_minus, full_stop}
use Rattle.reading.specs.Reading.{◌then◌, ◌otherwise◌, begins, past_character, past_one, span}
use Rattle.css_definitions.specs.Identifiers.{starts_identifier, ident_sequence_at}
use Rattle.css_tokens.specs.declared.token.TokenKind.{TokenKind}
use Rattle.css_tokens.specs.declared.token.TokenKind.TheVariants as kind

-- an optional sign: whether it is `-`
abbrev pub sign_at : List ℕ → Bool × List ℕ
sign_at [] = (false, [])
sign_at (first ∷ rest) = if first == hyphen_minus then (true, rest) else (if first == plus_sign then (false, rest) else (false, first ∷ rest))

-- one digit or more
abbrev pub digits_at : List ℕ → Option (List ℕ × List ℕ)
digits_at [] = None
digits_at (first ∷ rest) = if is_digit first then Some (span is_digit (first ∷ rest)) else None

-- a number with its sign
abbrev pub signed : Bool → ℕ → ℤ
signed false number = pos number
signed true number = neg_ℤ (pos number)

-- the nearest count
abbrev pub saturated : Bool → ℕ → ℤ
saturated negative number = int_max COUNT_LOW (int_min (signed negative number) COUNT_HIGH)

-- the count that is nearest to the number of digits with this sign
abbrev pub saturated_at : Bool → List ℕ → Option (ℤ × List ℕ)
saturated_at negative characters = digits_at characters then λ digits. Some (saturated negative (digits_value 10 digits.0), digits.1)

-- an integer: an optional sign and digits
abbrev pub integer_at : List ℕ → Option (ℤ × List ℕ)
integer_at characters = saturated_at (sign_at characters).0 (sign_at characters).1

-- what is left after a point and digits
abbrev pub fraction_at : List ℕ → Option (List ℕ)
fraction_at characters = past_character full_stop characters then λ rest. digits_at rest then λ digits. Some digits.1

-- what is left after `e` or `E`, an optional sign and digits
abbrev pub exponent_at : List ℕ → Option (List ℕ)
exponent_at [] = None
exponent_at (first ∷ rest) = if first == 101 || first == 69 then (digits_at (sign_at rest).1 then λ digits. Some digits.1) else None

-- what is left after an optional part
abbrev pub or_stay : Option (List ℕ) → List ℕ → List ℕ
or_stay (Some rest) characters = rest
or_stay None characters = characters

-- what follows a number makes it a dimension or a percentage
abbrev pub number_end : Bool → ℤ → List ℕ → TokenKind × List ℕ
number_end whole value characters =
    if starts_identifier characters then (kind.Dimension, (ident_sequence_at characters).1)
    else (if begins percent_sign characters then (kind.Percentage, past_one characters) else (kind.Number whole value, characters))

-- after the fraction: an exponent makes the number not whole
abbrev pub after_fraction : Bool → ℤ → List ℕ → TokenKind × List ℕ
after_fraction whole value characters =
    if is_some (exponent_at characters) then number_end false (pos 0) (or_stay (exponent_at characters) characters) else number_end whole value characters

-- after digits that write this count: a fraction makes the number not whole
abbrev pub after_digits : ℤ → List ℕ → TokenKind × List ℕ
after_digits value characters =
    if is_some (fraction_at characters) then after_fraction false (pos 0) (or_stay (fraction_at characters) characters)
    else after_fraction true value characters

-- after the sign: digits, or a fraction alone
abbrev pub unsigned_at : Bool × List ℕ → Option (TokenKind × List ℕ)
unsigned_at sign =
    (saturated_at sign.0 sign.1 then λ value. Some (after_digits value.0 value.1))
    otherwise (fraction_at sign.1 then λ rest. Some (after_fraction false (pos 0) rest))

unfoldable pub number_at : List ℕ → Option (TokenKind × List ℕ)
number_at characters = unsigned_at (sign_at characters)
