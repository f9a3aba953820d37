-- Declarations of the properties that make generated texts.
use Rattle.std.specs.Prelude.{ℕ, if◌then◌else◌, List, [], ◌∷◌, Option, Some, None, codes}
use Rattle.plain_types.specs.declared.declaration.Declaration.{Declaration}
use Rattle.plain_types.specs.declared.declaration.Declaration.TheVariants as declaration
use Rattle.plain_types.specs.declared.declaration.Said.{Said}
use Rattle.plain_types.specs.declared.declaration.Said.TheVariants as said
use Rattle.plain_types.specs.declared.style.Display.{Display}
use Rattle.plain_types.specs.declared.style.Display.TheVariants as display
use Rattle.plain_types.specs.declared.style.ListType.{ListType}
use Rattle.reading.specs.Reading.{◌then◌, ◌otherwise◌}
use Rattle.css_definitions.specs.Words.{is_word, is_among}
use Rattle.css_tokens.specs.declared.token.TokenKind.{TokenKind}
use Rattle.css_tokens.specs.TokenReading.{ident_of}
use Rattle.css_values.specs.Parts.{one_at, is_alone, alone}
use Rattle.css_values.specs.Styles.{list_type_at}
use Rattle.css_values.specs.Lists.{resets, increments, assigns, list_style}
use Rattle.css_values.specs.Contents.{quotes_value, content_value}

-- CSS Display 3, 2: values that are neither `none` nor `list-item` (our own: these alone, so none of two
-- words, and neither `contents` nor `run-in`)
abbrev pub plain_displays : List (List ℕ)
plain_displays =
    codes "block" ∷ codes "inline" ∷ codes "inline-block" ∷ codes "flow-root" ∷ codes "flex" ∷ codes "inline-flex" ∷ codes "grid" ∷ codes "inline-grid"
    ∷ codes "table" ∷ codes "inline-table" ∷ codes "table-row" ∷ codes "table-row-group" ∷ codes "table-header-group" ∷ codes "table-footer-group"
    ∷ codes "table-column" ∷ codes "table-column-group" ∷ codes "table-cell" ∷ codes "table-caption" ∷ codes "ruby" ∷ []

abbrev pub display_word : List ℕ → Option Display
display_word word =
    if is_word word (codes "none") then Some display.Absent
    else (if is_word word (codes "list-item") then Some display.ListItem
    else (if is_among plain_displays word then Some display.Plain else None))

abbrev pub display_of : TokenKind → Option Display
display_of kind = ident_of kind then display_word

abbrev pub display_value : List TokenKind → Option Display
display_value kinds = alone (one_at display_of kinds)

abbrev pub list_type_value : List TokenKind → Option ListType
list_type_value kinds = alone (list_type_at kinds)

-- CSS Cascade 5, 7.3: every property has these keywords (our own: neither `revert` nor `revert-layer`)
abbrev pub css_wide : {X : Type 0} → List TokenKind → Option (Said X)
css_wide kinds =
    if is_alone (codes "inherit") kinds then Some said.Inherit
    else (if is_alone (codes "initial") kinds then Some said.Initial
    else (if is_alone (codes "unset") kinds then Some said.Unset else None))

abbrev pub said_of : {X : Type 0} → List TokenKind → Option X → Option (Said X)
said_of kinds value = css_wide kinds otherwise (value then λ x. Some (said.Value x))

-- our own: these properties alone
-- what a declaration of this name with these tokens says, if it says something of a property that we know
unfoldable pub declared : List ℕ → List TokenKind → Option Declaration
declared name kinds =
    if is_word name (codes "display") then (said_of kinds (display_value kinds) then λ value. Some (declaration.Display value))
    else (if is_word name (codes "content") then (said_of kinds (content_value kinds) then λ value. Some (declaration.Content value))
    else (if is_word name (codes "counter-reset") then (said_of kinds (resets kinds) then λ value. Some (declaration.Resets value))
    else (if is_word name (codes "counter-increment") then (said_of kinds (increments kinds) then λ value. Some (declaration.Increments value))
    else (if is_word name (codes "counter-set") then (said_of kinds (assigns kinds) then λ value. Some (declaration.Assigns value))
    else (if is_word name (codes "list-style-type") then (said_of kinds (list_type_value kinds) then λ value. Some (declaration.ListStyle value))
    else (if is_word name (codes "list-style") then (said_of kinds (list_style kinds) then λ value. Some (declaration.ListStyle value))
    else (if is_word name (codes "quotes") then (said_of kinds (quotes_value kinds) then λ value. Some (declaration.Quotes value))
    else None)))))))
