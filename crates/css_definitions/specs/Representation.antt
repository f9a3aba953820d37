-- Counter values as texts: CSS Counter Styles 3, 2 and 3.
use Rattle.std.specs.Prelude.{ℕ, zero, suc, ◌+◌, ◌-◌, ◌/◌, ◌%◌, Bool, true, false, ◌&&◌, ◌==◌, nat_le, nat_lt, ℤ, pos, negsuc, ◌-ℤ◌, int_le, List, [], ◌∷◌, ◌++◌, Option, Some, None, length, cond, codes, unwrap_or, unsigned_abs, option_and_then, encode_utf8_all, slice_index_or}
use Rattle.std.specs.Ordering.{int_eq}
use Rattle.std.specs.Fmt.{signed_decimal}
use Rattle.std.specs.Int.{int_rem_euclid, is_negative}
use Rattle.std.specs.Int.Digits.{digits_of}
use Rattle.std.specs.List.{find, flat_map, list_any, repeat}
use Rattle.std.specs.Option.{option_map, option_map_or}
use Rattle.std.specs.Str.{bytes_eq}
use Rattle.unicode_segmentation.specs.Grapheme.{graphemes}
use Rattle.plain_types.specs.declared.counter_style.Bounds.{Bounds}
use Rattle.plain_types.specs.declared.counter_style.CounterStyle.{CounterStyle}
use Rattle.plain_types.specs.declared.counter_style.Weight.{Weight}
use Rattle.plain_types.specs.declared.style_ref.Anonymous.{Anonymous}
use Rattle.plain_types.specs.declared.style_ref.StyleRef.{StyleRef}
use Rattle.plain_types.specs.declared.style_ref.StyleRef.TheVariants.{Nothing, Name, Symbols}
use Rattle.plain_types.specs.declared.style_ref.System.{System}
use Rattle.plain_types.specs.declared.style_ref.System.TheVariants.{Cyclic, Numeric, Alphabetic, Symbolic, Additive, Fixed, Extends}
use Rattle.plain_types.specs.StyleNames.{style_name}
use Rattle.plain_types.specs.Table.{decimal_style, is_supplied, style_named}
use Rattle.css_definitions.specs.CounterStyles.{initial_style}

-- What a system writes for a number.

-- the symbol at a place, from 0
abbrev pub symbol : List (List ℕ) → ℕ → List ℕ
symbol symbols place = slice_index_or symbols place []

-- 3.1.1: (value - 1) modulo the number of symbols
abbrev pub cyclic_place : ℤ → ℕ → ℕ
cyclic_place value count = unsigned_abs (int_rem_euclid (value -ℤ pos 1) (pos count))

-- 3.1.2: value - first, where that is the place of a symbol
abbrev pub place_within : ℕ → ℤ → Option ℕ
place_within count (pos place) = cond (nat_lt place count) (Some place) None
place_within count (negsuc n) = None

abbrev pub fixed_place : ℤ → ℤ → ℕ → Option ℕ
fixed_place value first count = place_within count (value -ℤ first)

-- 3.1.3: one symbol, once more for each round of the symbols
abbrev pub symbolic_text : List (List ℕ) → ℕ → List ℕ
symbolic_text symbols number = repeat ((number - 1) / length symbols + 1) (symbol symbols ((number - 1) % length symbols))

-- 3.1.4: the digits of the bijective base, from 0 for the first symbol, the highest first; a number has
-- no more of them than itself
abbrev pub bijective_digits_within : ℕ → ℕ → ℕ → List ℕ
bijective_digits_within zero base number = []
bijective_digits_within (suc digits) base number =
    cond (number == 0) [] (bijective_digits_within digits base ((number - 1) / base) ++ (number - 1) % base ∷ [])

abbrev pub bijective_digits : ℕ → ℕ → List ℕ
bijective_digits base number = bijective_digits_within number base number

abbrev pub alphabetic_text : List (List ℕ) → ℕ → List ℕ
alphabetic_text symbols number = flat_map (symbol symbols) (bijective_digits (length symbols) number)

-- 3.1.5: the digits of the positional base, the highest first; a single 0 for 0
abbrev pub positional_digits : ℕ → ℕ → List ℕ
positional_digits base number = cond (number == 0) (0 ∷ []) (digits_of base number)

abbrev pub numeric_text : List (List ℕ) → ℕ → List ℕ
numeric_text symbols number = flat_map (symbol symbols) (positional_digits (length symbols) number)

-- 3.1.6: the tuples in order, each as often as its weight is in what is left. What is left after the last
-- one is the rest. A weight below 1 is no part of a number.
abbrev pub natural : ℤ → ℕ
natural (pos n) = n
natural (negsuc n) = 0

abbrev pub is_part : ℕ → ℕ → Bool
is_part weight number = nat_le 1 weight && nat_le weight number

abbrev pub additive_parts : List Weight → ℕ → List ℕ
additive_parts [] number = []
additive_parts (tuple ∷ tuples) number =
    cond (is_part (natural tuple.weight) number)
    (repeat (number / natural tuple.weight) tuple.symbol ++ additive_parts tuples (number % natural tuple.weight))
    (additive_parts tuples number)

abbrev pub additive_rest : List Weight → ℕ → ℕ
additive_rest [] number = number
additive_rest (tuple ∷ tuples) number =
    cond (is_part (natural tuple.weight) number) (additive_rest tuples (number % natural tuple.weight)) (additive_rest tuples number)

-- 3.1.6: 0 is the symbol of weight 0, any other number its parts where they leave no rest
abbrev pub additive_text : List Weight → ℕ → Option (List ℕ)
additive_text tuples number =
    cond (number == 0)
    (option_map (λ (tuple : Weight). tuple.symbol) (find (λ (tuple : Weight). int_eq tuple.weight (pos 0)) tuples))
    (cond (additive_rest tuples number == 0) (Some (additive_parts tuples number)) None)

-- 3.1.3, 3.1.4: 0 has no text
abbrev pub positive_text : ℕ → List ℕ → Option (List ℕ)
positive_text number text = cond (number == 0) None (Some text)

-- 2, step 3: the initial text of a value, by the system
abbrev pub initial_text : System → List (List ℕ) → List Weight → ℤ → Option (List ℕ)
initial_text Cyclic symbols tuples value = Some (symbol symbols (cyclic_place value (length symbols)))
initial_text Numeric symbols tuples value = Some (numeric_text symbols (unsigned_abs value))
initial_text Alphabetic symbols tuples value = positive_text (unsigned_abs value) (alphabetic_text symbols (unsigned_abs value))
initial_text Symbolic symbols tuples value = positive_text (unsigned_abs value) (symbolic_text symbols (unsigned_abs value))
initial_text Additive symbols tuples value = additive_text tuples (unsigned_abs value)
initial_text (Fixed first) symbols tuples value = option_map (symbol symbols) (fixed_place value first (length symbols))
initial_text (Extends name) symbols tuples value = None

-- What a style writes for a value.

-- 3.2: whether a system writes a negative value as a positive one with a sign
abbrev pub uses_sign : System → Bool
uses_sign Cyclic = false
uses_sign (Fixed first) = false
uses_sign _ = true

abbrev pub has_sign : CounterStyle → ℤ → Bool
has_sign style value = uses_sign style.system && is_negative value

abbrev pub signed : CounterStyle → ℤ → List ℕ → List ℕ
signed style value text = cond (has_sign style value) (style.before ++ text ++ style.after) text

-- 3.5: a missing bound is infinite
abbrev pub is_in_bounds : ℤ → Bounds → Bool
is_in_bounds value bounds = option_map_or (λ low. int_le low value) bounds.low true && option_map_or (λ high. int_le value high) bounds.high true

abbrev pub is_in_range : CounterStyle → ℤ → Bool
is_in_range style value = list_any (is_in_bounds value) style.ranges

-- 3.6: how many grapheme clusters a text has, and how many pad symbols it lacks
abbrev pub cluster_count : List ℕ → ℕ
cluster_count text = length (graphemes true (encode_utf8_all text))

abbrev pub missing_count : CounterStyle → ℤ → List ℕ → ℕ
missing_count style value initial =
    natural style.width - cluster_count initial - cond (has_sign style value) (cluster_count style.before + cluster_count style.after) 0

abbrev pub padded : CounterStyle → ℤ → List ℕ → List ℕ
padded style value initial = repeat (missing_count style value initial) style.pad ++ initial

-- 2 lets a program give up on long texts; a padded text of more than 120 code points is too long (our own)
abbrev pub limited : List ℕ → Option (List ℕ)
limited text = cond (nat_le (length text) 120) (Some text) None

-- 2, steps 2 to 5: the text of a value, or none where the fallback is to write it
abbrev pub written : CounterStyle → ℤ → Option (List ℕ)
written style value =
    cond (is_in_range style value)
    (option_map (signed style value) (option_and_then (λ initial. limited (padded style value initial)) (initial_text style.system style.symbols style.weights value)))
    None

-- What is written for a value in a table of styles.

-- 4: the style that `symbols()` writes in place
abbrev pub anonymous_style : Anonymous → CounterStyle
anonymous_style anonymous = record (initial_style anonymous.system) { symbols = anonymous.symbols; suffix = codes " " }

module _ (table : List CounterStyle) where
  -- 3.7: the fallback of a style, where it is defined and is none of the styles that were tried
  abbrev pub next_style : List (List ℕ) → CounterStyle → Option CounterStyle
  next_style tried style = cond (list_any (bytes_eq (style_name style.fallback)) tried) None (style_named table style.fallback)

  -- 2 and 3.7: the text of the first style that writes the value, from this one along the fallbacks, and at
  -- the end `decimal`, which writes every value. So many styles are tried.
  abbrev pub represented_within : ℕ → List (List ℕ) → CounterStyle → ℤ → List ℕ
  represented_within zero tried style value = signed_decimal value
  represented_within (suc styles) tried style value =
      unwrap_or (written style value)
      (option_map_or (λ next. represented_within styles (style.name ∷ tried) next value) (next_style (style.name ∷ tried) style) (signed_decimal value))

  -- no more than the table's styles and one of `symbols()`
  abbrev pub represented : CounterStyle → ℤ → List ℕ
  represented style value = represented_within (length table + 1) [] style value

  -- 2, step 1: the style that is meant; an unknown name means `decimal`, and so do too few symbols (our own)
  abbrev pub chosen_style : StyleRef → CounterStyle
  chosen_style Nothing = decimal_style
  chosen_style (Name name) = unwrap_or (style_named table name) decimal_style
  chosen_style (Symbols anonymous) = cond (is_supplied anonymous.system (length anonymous.symbols) 0) (anonymous_style anonymous) decimal_style

  -- 5: the text of a value; `none` is the empty text
  abbrev pub representation : StyleRef → ℤ → List ℕ
  representation Nothing value = []
  representation (Name name) value = represented (chosen_style (Name name)) value
  representation (Symbols anonymous) value = represented (chosen_style (Symbols anonymous)) value

  -- 3.3, 3.4: a marker has the prefix and the suffix of the style that is meant, whichever writes the value
  abbrev pub marker_text : StyleRef → ℤ → List ℕ
  marker_text style value = (chosen_style style).prefix ++ representation style value ++ (chosen_style style).suffix
