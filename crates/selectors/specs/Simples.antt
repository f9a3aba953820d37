-- Simple selectors: Selectors 4, "Grammar". Names of pseudo-classes count in any ASCII case, those of types,
-- ids, classes and attributes as they are written (our own: without namespaces).
use Rattle.std.specs.Prelude.{ℕ, Bool, true, false, ◌==◌, if◌then◌else◌, List, [], ◌∷◌, Option, Some, None, codes, pos}
use Rattle.plain_types.specs.declared.selector.Simple.{Simple}
use Rattle.plain_types.specs.declared.selector.Simple.TheVariants as simple
use Rattle.plain_types.specs.declared.selector_parts.AttrTest.{AttrTest}
use Rattle.plain_types.specs.declared.selector_parts.AttrTest.TheVariants as test
use Rattle.reading.specs.Punctuation.{asterisk, full_stop}
use Rattle.reading.specs.Reading.{◌then◌, ◌otherwise◌, optional}
use Rattle.css_definitions.specs.Words.{is_word, is_among}
use Rattle.css_tokens.specs.declared.token.Token.{Token}
use Rattle.css_tokens.specs.declared.token.TokenKind.{TokenKind}
use Rattle.css_tokens.specs.declared.token.TokenKind.TheVariants as kind
use Rattle.css_tokens.specs.TokenReading.{held_at, ident_at, past_delimiter, past_close, skip_whitespace}
use Rattle.selectors.specs.declared.an_plus_b.AnPlusB.{AnPlusB}
use Rattle.selectors.specs.declared.pseudo_classes.Siblings.{Siblings}
use Rattle.selectors.specs.AnPlusB.{an_plus_b}

-- `<type-selector>`: an identifier or `*`
abbrev pub type_of : TokenKind → Option Simple
type_of (kind.Word name) = Some (simple.Element name)
type_of (kind.Sign c) = if c == asterisk then Some simple.Any else None
type_of _ = None

abbrev pub type_at : List Token → Option (Simple × List Token)
type_at tokens = held_at type_of tokens

-- `<id-selector>`: a hash that is an identifier
abbrev pub id_of : TokenKind → Option Simple
id_of (kind.Hash true name) = Some (simple.Id name)
id_of _ = None

abbrev pub id_at : List Token → Option (Simple × List Token)
id_at tokens = held_at id_of tokens

-- `<class-selector>`: `.` and an identifier
abbrev pub class_at : List Token → Option (Simple × List Token)
class_at tokens = past_delimiter full_stop tokens then λ rest. ident_at rest then λ name. Some (simple.Class name.0, name.1)

-- Attribute selectors: Selectors 4, 6.

-- the test of a sign before `=`
abbrev pub test_of : TokenKind → Option AttrTest
test_of (kind.Sign c) =
    if c == 126 then Some test.Word
    else (if c == 124 then Some test.Dash
    else (if c == 94 then Some test.Start
    else (if c == 36 then Some test.End
    else (if c == asterisk then Some test.Inside else None))))
test_of _ = None

abbrev pub equals_sign : ℕ
equals_sign = 61

-- `<attr-matcher>`: `[ '~' | '|' | '^' | '$' | '*' ]? '='`
abbrev pub test_at : List Token → Option (AttrTest × List Token)
test_at tokens =
    (past_delimiter equals_sign tokens then λ rest. Some (test.Equal, rest))
    otherwise (held_at test_of tokens then λ test. past_delimiter equals_sign test.1 then λ rest. Some (test.0, rest))

-- `<string-token> | <ident-token>`
abbrev pub value_of : TokenKind → Option (List ℕ)
value_of (kind.Chars value) = Some value
value_of (kind.Word value) = Some value
value_of _ = None

-- `<attr-modifier>`: `i | s`, whether ASCII case does not count
abbrev pub flag_word : List ℕ → Option Bool
flag_word word = if is_word word (codes "i") then Some true else (if is_word word (codes "s") then Some false else None)

abbrev pub flag_of : TokenKind → Option Bool
flag_of (kind.Word word) = flag_word word
flag_of _ = None

-- a flag that is missing is `s`
abbrev pub or_sensitive : Option Bool → Bool
or_sensitive (Some fold) = fold
or_sensitive None = false

abbrev pub left_square_bracket : ℕ
left_square_bracket = 91

abbrev pub right_square_bracket : ℕ
right_square_bracket = 93

-- whitespace and the bracket
abbrev pub bracket_end : Simple → List Token → Option (Simple × List Token)
bracket_end attribute tokens = past_close right_square_bracket (skip_whitespace tokens) then λ rest. Some (attribute, rest)

abbrev pub present : List ℕ → Simple
present name = simple.Attr name test.Present [] false

-- after the value: its flag, and the end
abbrev pub after_value : List ℕ → AttrTest → List ℕ → Option Bool × List Token → Option (Simple × List Token)
after_value name test value flag = bracket_end (simple.Attr name test value (or_sensitive flag.0)) flag.1

abbrev pub flag_at : List Token → Option Bool × List Token
flag_at tokens = optional (held_at flag_of (skip_whitespace tokens)) tokens

-- after the name: a test and a value
abbrev pub tested_at : List ℕ → List Token → Option (Simple × List Token)
tested_at name tokens = test_at (skip_whitespace tokens) then λ test. held_at value_of (skip_whitespace test.1) then λ value. after_value name test.0 value.0 (flag_at value.1)

-- `<attribute-selector>`
unfoldable pub attribute_at : List Token → Option (Simple × List Token)
attribute_at tokens =
    past_delimiter left_square_bracket tokens then λ inside. ident_at (skip_whitespace inside) then λ name. bracket_end (present name.0) name.1 otherwise tested_at name.0 name.1

-- Pseudo-classes: Selectors 4, 8, 9 and "Tree-Structural pseudo-classes".

-- those in which no element is ever (our own: nobody points at an element, has it in focus or follows links)
abbrev pub never_classes : List (List ℕ)
never_classes =
    codes "hover" ∷ codes "active" ∷ codes "focus" ∷ codes "focus-visible" ∷ codes "focus-within" ∷ codes "link" ∷ codes "visited" ∷ codes "any-link" ∷ codes "target"
    ∷ []

-- counted from the first or the last, among all siblings or those of the type
abbrev pub siblings : Bool → Bool → Siblings
siblings from_end same_type = record { from_end = from_end; same_type = same_type }

abbrev pub nth : Siblings → AnPlusB → Simple
nth siblings value = simple.Nth value.a value.b siblings.from_end siblings.same_type

-- the first one that is counted
abbrev pub first_of : Siblings → Simple
first_of siblings = nth siblings (an_plus_b (pos 0) (pos 1))

-- a pseudo-class without arguments
unfoldable pub plain_class : List ℕ → Option Simple
plain_class name =
    if is_word name (codes "root") then Some simple.Root
    else (if is_word name (codes "empty") then Some simple.Empty
    else (if is_word name (codes "first-child") then Some (first_of (siblings false false))
    else (if is_word name (codes "last-child") then Some (first_of (siblings true false))
    else (if is_word name (codes "only-child") then Some (simple.Only false)
    else (if is_word name (codes "first-of-type") then Some (first_of (siblings false true))
    else (if is_word name (codes "last-of-type") then Some (first_of (siblings true true))
    else (if is_word name (codes "only-of-type") then Some (simple.Only true)
    else (if is_among never_classes name then Some simple.Never else None))))))))

-- a pseudo-class with an argument in the An+B notation
abbrev pub nth_class : List ℕ → Option Siblings
nth_class name =
    if is_word name (codes "nth-child") then Some (siblings false false)
    else (if is_word name (codes "nth-last-child") then Some (siblings true false)
    else (if is_word name (codes "nth-of-type") then Some (siblings false true)
    else (if is_word name (codes "nth-last-of-type") then Some (siblings true true) else None)))
