-- How items are spelled: the productions of XML 1.0, each with its section and number, over a text whose
-- line ends have become line feeds (2.11). Where the profile differs the comment says `our own`.
use Rattle.std.specs.Prelude.{◌≡◌, ℕ, Bool, false, ◌&&◌, ◌||◌, not, ◌==◌, if◌then◌else◌, IsTrue, List, [], ◌∷◌, ◌++◌, Option, Some, codes, map}
use Rattle.std.specs.Char.{to_ascii_uppercase}
use Rattle.std.specs.List.{list_all}
use Rattle.std.specs.Map.{lookup}
use Rattle.std.specs.Str.{bytes_eq}
use Rattle.std.specs.Str.Parse.{digits_value}
use Rattle.plain_types.specs.Tree.{HasDistinctNames}
use Rattle.plain_types.specs.declared.attr.Attr.{Attr}
use Rattle.reading.specs.Characters.{is_blank, is_quote, is_digit, is_hexadecimal_digit}
use Rattle.xml_definitions.specs.Characters.{is_character, is_plain, is_name}
use Rattle.xml_definitions.specs.Items.{Item, ArePieces, doctype, comment, instruction, start_tag, empty_tag, end_tag, reference, section, plain_character}

-- What items are made of.

-- there is a character, and each passes the test
abbrev pub are_some : (ℕ → Bool) → List ℕ → Bool
are_some test [] = false
are_some test (first ∷ rest) = test first && list_all test rest

-- 2.3 [3] S, which most productions have as S?: any number of blanks
abbrev pub AreBlanks : List ℕ → Type 0
AreBlanks characters = IsTrue (list_all is_blank characters)

-- 2.3 [3] S: blanks, of which there are some
abbrev pub AreSomeBlanks : List ℕ → Type 0
AreSomeBlanks characters = IsTrue (are_some is_blank characters)

abbrev pub IsName : List ℕ → Type 0
IsName characters = IsTrue (is_name characters)

-- the characters up to the first of these texts: it stands behind them, and nowhere before
pub record AreUpTo (stop characters : List ℕ) : Type 0 where
  pub allowed : IsTrue (list_all is_character characters)
  pub first : (before after : List ℕ) → characters ++ stop ≡ before ++ stop ++ after → after ≡ []

-- References.

-- 4.1 Legal Character: one of 2.2 Char, in its own sense, to which the carriage return belongs
abbrev pub is_legal : ℕ → Bool
is_legal c = c == 13 || is_character c

-- our own, besides the first five (4.6): the entities that are declared, each with its character
unfoldable pub entities : List (List ℕ × ℕ)
entities =
    (codes "amp", 0x26) ∷ (codes "lt", 0x3c) ∷ (codes "gt", 0x3e) ∷ (codes "quot", 0x22) ∷ (codes "apos", 0x27)
    ∷ (codes "nbsp", 0xa0) ∷ (codes "sect", 0xa7) ∷ (codes "copy", 0xa9) ∷ (codes "laquo", 0xab) ∷ (codes "shy", 0xad)
    ∷ (codes "middot", 0xb7) ∷ (codes "raquo", 0xbb) ∷ (codes "times", 0xd7) ∷ (codes "ndash", 0x2013) ∷ (codes "mdash", 0x2014)
    ∷ (codes "lsquo", 0x2018) ∷ (codes "rsquo", 0x2019) ∷ (codes "ldquo", 0x201c) ∷ (codes "rdquo", 0x201d) ∷ (codes "hellip", 0x2026)
    ∷ []

-- the character of the entity of this name
abbrev pub entity : List ℕ → Option ℕ
entity name = lookup (bytes_eq name) entities

-- 4.1 [67] Reference: a character by its number ([66] CharRef), or an entity by its name ([68] EntityRef)
pub data IsReference : List ℕ → ℕ → Type 0 where
  decimal_reference : (digits : List ℕ) → IsTrue (are_some is_digit digits) → IsTrue (is_legal (digits_value 10 digits))
      → IsReference (codes "&#" ++ digits ++ codes ";") (digits_value 10 digits)
  hexadecimal_reference : (digits : List ℕ) → IsTrue (are_some is_hexadecimal_digit digits) → IsTrue (is_legal (digits_value 16 digits))
      → IsReference (codes "&#x" ++ digits ++ codes ";") (digits_value 16 digits)
  entity_reference : (name : List ℕ) (character : ℕ) → entity name ≡ Some character
      → IsReference (codes "&" ++ name ++ codes ";") character

-- Attributes.

-- 3.3.3: a blank that is written in a value reads as a space
abbrev pub as_read : ℕ → ℕ
as_read c = if is_blank c then 32 else c

-- a part of 2.3 [10] AttValue between two of these quotes, and the character that it reads as (3.3.3)
pub data IsValuePart (quote : ℕ) : List ℕ → ℕ → Type 0 where
  written_character : (c : ℕ) → IsTrue (is_plain c && not (c == quote)) → IsValuePart quote (c ∷ []) (as_read c)
  referred_character : {characters : List ℕ} {character : ℕ} → IsReference characters character → IsValuePart quote characters character

-- 3.1 [41] Attribute, with 2.8 [25] Eq, and with the blanks that part it from what stands before
pub record IsAttribute (characters : List ℕ) (attr : Attr) : Type 0 where
  pub before : List ℕ
  pub after_name : List ℕ
  pub after_sign : List ℕ
  pub quote : ℕ
  pub value : List ℕ
  pub parted : AreSomeBlanks before
  pub named : IsName attr.name
  pub blanks : AreBlanks after_name × AreBlanks after_sign
  pub quoted : IsTrue (is_quote quote)
  pub reads : ArePieces (IsValuePart quote) value attr.value
  pub parts : characters ≡ before ++ attr.name ++ after_name ++ codes "=" ++ after_sign ++ quote ∷ [] ++ value ++ quote ∷ []

-- Tags.

-- 3.1 [40] STag and [44] EmptyElemTag, which differ in their ends; Unique Att Spec
pub record IsTag (end characters name : List ℕ) (attrs : List Attr) : Type 0 where
  pub written : List ℕ
  pub blanks : List ℕ
  pub named : IsName name
  pub attributes : ArePieces IsAttribute written attrs
  pub distinct : HasDistinctNames attrs
  pub blank : AreBlanks blanks
  pub parts : characters ≡ codes "<" ++ name ++ written ++ blanks ++ end

-- 3.1 [42] ETag
pub record IsEndTag (characters name : List ℕ) : Type 0 where
  pub blanks : List ℕ
  pub named : IsName name
  pub blank : AreBlanks blanks
  pub parts : characters ≡ codes "</" ++ name ++ blanks ++ codes ">"

-- What leaves nothing in the tree, and sections.

-- 2.5 [15] Comment; our own: `--` may stand in one
pub data IsComment : List ℕ → Type 0 where
  comment_text : {inside : List ℕ} → AreUpTo (codes "-->") inside → IsComment (codes "<!--" ++ inside ++ codes "-->")

-- 2.6 [16] PI; our own: of any name, so that 2.8 [23] XMLDecl is one too
pub data IsInstruction : List ℕ → Type 0 where
  bare_instruction : (target : List ℕ) → IsName target → IsInstruction (codes "<?" ++ target ++ codes "?>")
  instruction_text : (target : List ℕ) (blank : ℕ) {inside : List ℕ} → IsName target → IsTrue (is_blank blank) → AreUpTo (codes "?>") inside
      → IsInstruction (codes "<?" ++ target ++ blank ∷ inside ++ codes "?>")

-- 2.7 [18] CDSect
pub data IsSection : List ℕ → List ℕ → Type 0 where
  section_text : {inside : List ℕ} → AreUpTo (codes "]]>") inside → IsSection (codes "<![CDATA[" ++ inside ++ codes "]]>") inside

-- 2.3 [11] SystemLiteral; our own: [12] PubidLiteral too
pub data IsLiteral : List ℕ → Type 0 where
  literal : (quote : ℕ) (inside : List ℕ) → IsTrue (is_quote quote) → IsTrue (list_all (λ c. is_character c && not (c == quote)) inside)
      → IsLiteral (quote ∷ inside ++ quote ∷ [])

-- 4.2.2 [75] ExternalID, if there is one, with the blanks before it; our own: the second literal after
-- `PUBLIC` may be missing
pub data IsExternalId : List ℕ → Type 0 where
  no_identifier : IsExternalId []
  system_identifier : (before between : List ℕ) {system : List ℕ} → AreSomeBlanks before → AreSomeBlanks between → IsLiteral system
      → IsExternalId (before ++ codes "SYSTEM" ++ between ++ system)
  public_identifier : (before between : List ℕ) {public : List ℕ} → AreSomeBlanks before → AreSomeBlanks between → IsLiteral public
      → IsExternalId (before ++ codes "PUBLIC" ++ between ++ public)
  both_identifiers : (before between after : List ℕ) {public system : List ℕ} → AreSomeBlanks before → AreSomeBlanks between → IsLiteral public
      → AreSomeBlanks after → IsLiteral system → IsExternalId (before ++ codes "PUBLIC" ++ between ++ public ++ after ++ system)

-- 2.8 [28] doctypedecl, without declarations inside; our own: its word in any ASCII case
pub record IsDoctype (characters : List ℕ) : Type 0 where
  pub word : List ℕ
  pub before : List ℕ
  pub name : List ℕ
  pub identifier : List ℕ
  pub after : List ℕ
  pub spelled : map to_ascii_uppercase word ≡ codes "DOCTYPE"
  pub parted : AreSomeBlanks before
  pub named : IsName name
  pub external : IsExternalId identifier
  pub blank : AreBlanks after
  pub parts : characters ≡ codes "<!" ++ word ++ before ++ name ++ identifier ++ after ++ codes ">"

-- The characters spell this item.
abbrev pub Spells : List ℕ → Item → Type 0
Spells characters doctype = IsDoctype characters
Spells characters comment = IsComment characters
Spells characters instruction = IsInstruction characters
Spells characters (start_tag name attrs) = IsTag (codes ">") characters name attrs
Spells characters (empty_tag name attrs) = IsTag (codes "/>") characters name attrs
Spells characters (end_tag name) = IsEndTag characters name
Spells characters (reference character) = IsReference characters character
Spells characters (section inside) = IsSection characters inside
Spells characters (plain_character character) = IsTrue (is_plain character) × (characters ≡ character ∷ [])
