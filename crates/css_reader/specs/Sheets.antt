-- The sheet of a text, and the declarations of a `style` attribute. Every text has both: CSS Syntax 3, 5.3.3, and CSS
-- Style Attributes, 3.
use Rattle.std.specs.Prelude.{ℕ, encode_utf8_all, if◌then◌else◌, List, Option, Some, None, codes, flat_map}
use Rattle.std.specs.List.{filter_map}
use Rattle.plain_types.specs.declared.counter_style.StyleDef.{StyleDef}
use Rattle.plain_types.specs.declared.declaration.Declared.{Declared}
use Rattle.plain_types.specs.declared.sheet.Sheet.{Sheet}
use Rattle.plain_types.specs.declared.sheet.StyleRule.{StyleRule}
use Rattle.reading.specs.Reading.{◌then◌, only}
use Rattle.css_definitions.specs.SheetText.{prepared}
use Rattle.css_definitions.specs.Words.{is_word}
use Rattle.css_tokens.specs.Tokens.{tokens}
use Rattle.css_tokens.specs.declared.token.Token.{Token}
use Rattle.css_tokens.specs.TokenReading.{ident_at, skip_whitespace}
use Rattle.selectors.specs.Selectors.{selector_list}
use Rattle.css_reader.specs.Declarations.{declarations, descriptors}
use Rattle.css_reader.specs.Rules.{Rule, style_rule, at_rule, rules}

-- Selectors 4, 4.1, and CSS Syntax 3, 9.1: a rule whose prelude is no list of selectors is none. The text is
-- taken as its bytes, among which tokens have their places.
abbrev pub style_rule_of : List ℕ → Rule → Option StyleRule
style_rule_of text (style_rule prelude block) = selector_list text prelude then λ selectors. Some (record { selectors = selectors; declared = declarations block })
style_rule_of text (at_rule name prelude block) = None

-- one identifier, and whitespace around it if there is some
abbrev pub lone_name : List Token → Option (List ℕ)
lone_name tokens = ident_at (skip_whitespace tokens) then λ name. only name.0 (skip_whitespace name.1)

-- CSS Counter Styles 3, 3: `@counter-style <counter-style-name> { .. }`; our own: every other at-rule is none
abbrev pub style_def_of : Rule → Option StyleDef
style_def_of (style_rule prelude block) = None
style_def_of (at_rule name prelude block) =
    if is_word name (codes "counter-style") then (lone_name prelude then λ style. Some (record { name = style; descriptors = descriptors block }))
    else None

-- what these rules of a text give
abbrev pub sheet_of : List ℕ → List Rule → Sheet
sheet_of text found = record { rules = filter_map (style_rule_of text) found; styles = filter_map style_def_of found }

-- the sheet of a text
unfoldable pub sheet : List ℕ → Sheet
sheet text = sheet_of (encode_utf8_all (prepared text)) (rules (tokens (prepared text)))

-- CSS Cascade 5, 6.1 "Order of Appearance": sheets one after the other act as one, with the rules of all in this order
unfoldable pub sheets : List (List ℕ) → Sheet
sheets texts = record {
  rules = flat_map (λ (text : List ℕ). (sheet text).rules) texts;
  styles = flat_map (λ (text : List ℕ). (sheet text).styles) texts;
}

-- CSS Style Attributes, 3 "Syntax and Parsing": the declarations of a `style` attribute whose value is this text; it
-- is the content of a block, in which a `}` without a `{` before it closes nothing. Our own: the value is prepared as
-- the text of a sheet is, so that a byte order mark at its front goes
unfoldable pub inline_declarations : List ℕ → List Declared
inline_declarations text = declarations (tokens (prepared text))
