-- Reading the first item, as the code does. Each function gives what it has read, if it stands at the front,
-- and the characters after it.
use Rattle.std.specs.Prelude.{ℕ, Bool, true, ◌&&◌, not, ◌==◌, if◌then◌else◌, List, [], ◌∷◌, Option, Some, None, codes}
use Rattle.std.specs.Char.{to_ascii_uppercase}
use Rattle.std.specs.List.{list_all, list_any}
use Rattle.std.specs.Str.{bytes_eq}
use Rattle.std.specs.Str.Parse.{digits_value}
use Rattle.plain_types.specs.declared.attr.Attr.{Attr}
use Rattle.reading.specs.Characters.{is_blank, is_quote, is_digit, is_hexadecimal_digit}
use Rattle.xml_definitions.specs.Characters.{is_character, is_plain}
use Rattle.xml_definitions.specs.Items.{Item, doctype, comment, instruction, start_tag, empty_tag, end_tag, reference, section, plain_character}
use Rattle.xml_definitions.specs.Spelling.{is_legal, entity, as_read}
use Rattle.reading.specs.Reading.{◌then◌, past_character, past_text, run_at, span}
use Rattle.xhtml_items.specs.Reading.{either_way, name_at, split_once}

-- Steps.

abbrev pub past_capital : ℕ → List ℕ → Option (List ℕ)
past_capital wanted [] = None
past_capital wanted (c ∷ cs) = if to_ascii_uppercase c == wanted then Some cs else None

-- after this word of capitals, in any ASCII case
abbrev pub past_capitals : List ℕ → List ℕ → Option (List ℕ)
past_capitals [] cs = Some cs
past_capitals (letter ∷ letters) cs = past_capital letter cs then λ rest. past_capitals letters rest

abbrev pub skip_blanks : List ℕ → List ℕ
skip_blanks cs = (span is_blank cs).1

-- after one blank or more
abbrev pub past_some_blanks : List ℕ → Option (List ℕ)
past_some_blanks [] = None
past_some_blanks (c ∷ cs) = if is_blank c then Some (skip_blanks cs) else None

abbrev pub if_allowed : List ℕ × List ℕ → Option (List ℕ × List ℕ)
if_allowed text = if list_all is_character text.0 then Some text else None

-- the characters up to the first of these words, and those after that word
unfoldable pub up_to : List ℕ → List ℕ → Option (List ℕ × List ℕ)
up_to stop cs = split_once stop cs then λ text. if_allowed text

-- References.

-- the character of this number, in digits of a base
abbrev pub numbered : ℕ → List ℕ → Option ℕ
numbered base [] = None
numbered base (first ∷ rest) = if is_legal (digits_value base (first ∷ rest)) then Some (digits_value base (first ∷ rest)) else None

-- the digits of a number, and `;`
unfoldable pub number_at : (ℕ → Bool) → ℕ → List ℕ → Option (ℕ × List ℕ)
number_at test base cs = past_character 59 (span test cs).1 then λ rest. numbered base (span test cs).0 then λ c. Some (c, rest)

-- what stands behind `&#`
unfoldable pub numeric_at : List ℕ → Option (ℕ × List ℕ)
numeric_at cs = either_way (past_character 120 cs) (λ rest. number_at is_hexadecimal_digit 16 rest) (number_at is_digit 10 cs)

-- what stands behind `&`, as a name
unfoldable pub entity_at : List ℕ → Option (ℕ × List ℕ)
entity_at cs = name_at cs then λ name. past_character 59 name.1 then λ rest. entity name.0 then λ c. Some (c, rest)

-- what stands behind `&`
unfoldable pub reference_at : List ℕ → Option (ℕ × List ℕ)
reference_at cs = either_way (past_character 35 cs) (λ rest. numeric_at rest) (entity_at cs)

-- Attributes.

-- a part of a value between two of these quotes
unfoldable pub value_part_at : ℕ → List ℕ → Option (ℕ × List ℕ)
value_part_at quote [] = None
value_part_at quote (c ∷ cs) = if c == 38 then reference_at cs else (if is_plain c && not (c == quote) then Some (as_read c, cs) else None)

abbrev pub past_value : ℕ → List ℕ × List ℕ → Option (List ℕ × List ℕ)
past_value quote value = past_character quote value.1 then λ rest. Some (value.0, rest)

-- a value between two quotes
unfoldable pub quoted_at : List ℕ → Option (List ℕ × List ℕ)
quoted_at [] = None
quoted_at (quote ∷ cs) = if is_quote quote then past_value quote (run_at (value_part_at quote) cs) else None

abbrev pub attribute : List ℕ → List ℕ → Attr
attribute name value = record { name = name; value = value }

-- an attribute, with the blanks before it
unfoldable pub attribute_at : List ℕ → Option (Attr × List ℕ)
attribute_at cs =
    past_some_blanks cs then λ start. name_at start then λ name. past_character 61 (skip_blanks name.1) then λ sign. quoted_at (skip_blanks sign) then λ value.
    Some (attribute name.0 value.0, value.1)

-- whether no two of the names are the same
abbrev pub are_distinct : List Attr → Bool
are_distinct [] = true
are_distinct (first ∷ rest) = not (list_any (λ (other : Attr). bytes_eq first.name other.name) rest) && are_distinct rest

-- Tags.

abbrev pub found : Item → List ℕ → Option (Item × List ℕ)
found item rest = Some (item, rest)

-- the end of a tag
unfoldable pub tag_end_at : List ℕ → List Attr → List ℕ → Option (Item × List ℕ)
tag_end_at name attrs cs =
    either_way (past_text (codes "/>") cs) (λ rest. found (empty_tag name attrs) rest)
    (past_character 62 cs then λ rest. found (start_tag name attrs) rest)

-- a tag behind its name
unfoldable pub attributes_at : List ℕ → List ℕ → Option (Item × List ℕ)
attributes_at name cs =
    if are_distinct (run_at attribute_at cs).0
    then tag_end_at name (run_at attribute_at cs).0 (skip_blanks (run_at attribute_at cs).1)
    else None

-- a tag behind its `<`
unfoldable pub tag_at : List ℕ → Option (Item × List ℕ)
tag_at cs = name_at cs then λ name. attributes_at name.0 name.1

-- an end tag behind its `</`
unfoldable pub end_tag_at : List ℕ → Option (Item × List ℕ)
end_tag_at cs = name_at cs then λ name. past_character 62 (skip_blanks name.1) then λ rest. found (end_tag name.0) rest

-- Instructions and the doctype.

unfoldable pub instruction_text_at : List ℕ → Option (Item × List ℕ)
instruction_text_at [] = None
instruction_text_at (c ∷ cs) = if is_blank c then (up_to (codes "?>") cs then λ text. found instruction text.1) else None

-- an instruction behind its `<?`
unfoldable pub instruction_at : List ℕ → Option (Item × List ℕ)
instruction_at cs = name_at cs then λ target. either_way (past_text (codes "?>") target.1) (λ rest. found instruction rest) (instruction_text_at target.1)

unfoldable pub past_literal : List ℕ → Option (List ℕ)
past_literal [] = None
past_literal (quote ∷ cs) = if is_quote quote then past_character quote (span (λ c. is_character c && not (c == quote)) cs).1 else None

-- after blanks and a literal
unfoldable pub past_system : List ℕ → Option (List ℕ)
past_system cs = past_some_blanks cs then λ start. past_literal start

-- after a second literal, if there is one
unfoldable pub past_second : List ℕ → List ℕ
past_second cs = either_way (past_system cs) (λ rest. rest) cs

-- after blanks, a literal and maybe a second one
unfoldable pub past_public : List ℕ → Option (List ℕ)
past_public cs = past_system cs then λ rest. Some (past_second rest)

unfoldable pub past_identifier : List ℕ → List ℕ → Option (List ℕ)
past_identifier cs start =
    either_way (past_text (codes "SYSTEM") start) (λ rest. past_system rest)
    (either_way (past_text (codes "PUBLIC") start) (λ rest. past_public rest) (Some cs))

-- after an external identifier, if there is one
unfoldable pub past_external : List ℕ → Option (List ℕ)
past_external cs = either_way (past_some_blanks cs) (λ start. past_identifier cs start) (Some cs)

-- a doctype behind its `<!`
unfoldable pub doctype_at : List ℕ → Option (Item × List ℕ)
doctype_at cs =
    past_capitals (codes "DOCTYPE") cs then λ word. past_some_blanks word then λ start. name_at start then λ name. past_external name.1 then λ rest.
    past_character 62 (skip_blanks rest) then λ rest. found doctype rest

-- The first item.

-- a comment behind its `<!--`
abbrev pub comment_at : List ℕ → Option (Item × List ℕ)
comment_at cs = up_to (codes "-->") cs then λ text. found comment text.1

-- a section behind its `<![CDATA[`
abbrev pub section_at : List ℕ → Option (Item × List ℕ)
section_at cs = up_to (codes "]]>") cs then λ text. found (section text.0) text.1

-- what stands behind `<!`
unfoldable pub declaration_at : List ℕ → Option (Item × List ℕ)
declaration_at cs =
    either_way (past_text (codes "--") cs) (λ rest. comment_at rest)
    (either_way (past_text (codes "[CDATA[") cs) (λ rest. section_at rest)
    (doctype_at cs))

-- what stands behind `<`
unfoldable pub markup_at : List ℕ → Option (Item × List ℕ)
markup_at [] = None
markup_at (c ∷ cs) =
    if c == 33 then declaration_at cs
    else (if c == 63 then instruction_at cs
    else (if c == 47 then end_tag_at cs
    else tag_at (c ∷ cs)))

unfoldable pub item_at : List ℕ → Option (Item × List ℕ)
item_at [] = None
item_at (c ∷ cs) =
    if c == 60 then markup_at cs
    else (if c == 38 then (reference_at cs then λ referred. found (reference referred.0) referred.1)
    else (if is_plain c then found (plain_character c) cs else None))
