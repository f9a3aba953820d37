-- The predefined counter styles, as rules: CSS Counter Styles 3, 6.
use Rattle.std.specs.Prelude.{ℕ, ◌+◌, ◌*◌, ◌/◌, ◌%◌, ◌^◌, pos, List, [], ◌∷◌, Some, None, codes, map, reverse}
use Rattle.std.specs.List.{range_with_len}
use Rattle.plain_types.specs.declared.counter_style.Descriptor.{Descriptor}
use Rattle.plain_types.specs.declared.counter_style.Descriptor.TheVariants as descriptor
use Rattle.plain_types.specs.declared.counter_style.StyleDef.{StyleDef}
use Rattle.plain_types.specs.declared.counter_style.Weight.{Weight}
use Rattle.plain_types.specs.declared.style_ref.System.TheVariants.{Cyclic, Numeric, Alphabetic, Additive, Extends}

abbrev pub rule : List ℕ → List Descriptor → StyleDef
rule name descriptors = record { name = name; descriptors = descriptors }

-- each character of a text as a symbol
abbrev pub symbols_of : List ℕ → List (List ℕ)
symbols_of characters = map (λ c. c ∷ []) characters

-- 6.1, the numeric styles: the digits 0 to 9 are the ten characters from this one on
abbrev pub numeric : List ℕ → ℕ → StyleDef
numeric name zero_digit = rule name (descriptor.System Numeric ∷ descriptor.Symbols (symbols_of (range_with_len zero_digit 10)) ∷ [])

-- 6.1, the additive styles
abbrev pub additive : List ℕ → ℕ → ℕ → List Weight → StyleDef
additive name low high tuples =
    rule name (descriptor.System Additive ∷ descriptor.Range (record { low = Some (pos low); high = Some (pos high) } ∷ []) ∷ descriptor.Additive tuples ∷ [])

abbrev pub tuple : ℕ → List ℕ → Weight
tuple weight symbol = record { weight = pos weight; symbol = symbol }

-- The Roman numerals that the letters for 1, 5, 10, 50, 100, 500 and 1000 make up.
abbrev pub roman : ℕ → ℕ → ℕ → ℕ → ℕ → ℕ → ℕ → List Weight
roman i v x l c d m =
    tuple 1000 (m ∷ []) ∷ tuple 900 (c ∷ m ∷ []) ∷ tuple 500 (d ∷ []) ∷ tuple 400 (c ∷ d ∷ [])
    ∷ tuple 100 (c ∷ []) ∷ tuple 90 (x ∷ c ∷ []) ∷ tuple 50 (l ∷ []) ∷ tuple 40 (x ∷ l ∷ [])
    ∷ tuple 10 (x ∷ []) ∷ tuple 9 (i ∷ x ∷ []) ∷ tuple 5 (v ∷ []) ∷ tuple 4 (i ∷ v ∷ []) ∷ tuple 1 (i ∷ []) ∷ []

-- The 36 Armenian letters from this one on are 1 to 9, 10 to 90, 100 to 900 and 1000 to 9000.
abbrev pub armenian : ℕ → List Weight
armenian first = map (λ k. tuple ((k % 9 + 1) * 10 ^ (k / 9)) ((first + k) ∷ [])) (reverse (range_with_len 0 36))

-- 6.2, the alphabetic styles
abbrev pub alphabetic : List ℕ → List ℕ → StyleDef
alphabetic name letters = rule name (descriptor.System Alphabetic ∷ descriptor.Symbols (symbols_of letters) ∷ [])

-- 6.3, the styles of one sign
abbrev pub sign : List ℕ → ℕ → StyleDef
sign name character = rule name (descriptor.System Cyclic ∷ descriptor.Symbols ((character ∷ []) ∷ []) ∷ descriptor.Suffix (codes " ") ∷ [])

abbrev pub predefined : List StyleDef
predefined =
    numeric (codes "decimal") 0x30
    ∷ rule (codes "decimal-leading-zero") (descriptor.System (Extends (codes "decimal")) ∷ descriptor.Pad (pos 2) (codes "0") ∷ [])
    ∷ numeric (codes "arabic-indic") 0x660
    ∷ additive (codes "armenian") 1 9999 (armenian 0x531)
    ∷ additive (codes "upper-armenian") 1 9999 (armenian 0x531)
    ∷ additive (codes "lower-armenian") 1 9999 (armenian 0x561)
    ∷ numeric (codes "bengali") 0x9e6
    ∷ numeric (codes "cambodian") 0x17e0
    ∷ numeric (codes "khmer") 0x17e0
    ∷ rule (codes "cjk-decimal") (descriptor.System Numeric ∷ descriptor.Range (record { low = Some (pos 0); high = None } ∷ [])
    ∷ descriptor.Symbols (symbols_of (codes "〇一二三四五六七八九")) ∷ descriptor.Suffix (codes "、") ∷ [])
    ∷ numeric (codes "devanagari") 0x966
    ∷ numeric (codes "gujarati") 0xae6
    ∷ numeric (codes "gurmukhi") 0xa66
    ∷ numeric (codes "kannada") 0xce6
    ∷ numeric (codes "lao") 0xed0
    ∷ numeric (codes "malayalam") 0xd66
    ∷ numeric (codes "mongolian") 0x1810
    ∷ numeric (codes "myanmar") 0x1040
    ∷ numeric (codes "oriya") 0xb66
    ∷ numeric (codes "persian") 0x6f0
    ∷ additive (codes "lower-roman") 1 3999 (roman 105 118 120 108 99 100 109)
    ∷ additive (codes "upper-roman") 1 3999 (roman 73 86 88 76 67 68 77)
    ∷ numeric (codes "tamil") 0xbe6
    ∷ numeric (codes "telugu") 0xc66
    ∷ numeric (codes "thai") 0xe50
    ∷ numeric (codes "tibetan") 0xf20
    ∷ alphabetic (codes "lower-alpha") (codes "abcdefghijklmnopqrstuvwxyz")
    ∷ alphabetic (codes "lower-latin") (codes "abcdefghijklmnopqrstuvwxyz")
    ∷ alphabetic (codes "upper-alpha") (codes "ABCDEFGHIJKLMNOPQRSTUVWXYZ")
    ∷ alphabetic (codes "upper-latin") (codes "ABCDEFGHIJKLMNOPQRSTUVWXYZ")
    ∷ alphabetic (codes "lower-greek") (codes "αβγδεζηθικλμνξοπρστυφχψω")
    ∷ sign (codes "disc") 0x2022
    ∷ sign (codes "circle") 0x25e6
    ∷ sign (codes "square") 0x25aa
    -- 6.3 leaves these two signs to the program (our own)
    ∷ sign (codes "disclosure-open") 0x25be
    ∷ sign (codes "disclosure-closed") 0x25b8 ∷ []
