-- What the functions that read a text return, seen on lists of characters.
use Rattle.std.specs.Prelude.{ℕ, List}
use Rattle.std.specs.Str.{chars, IsUtf8}
use Rattle.std.specs.Borrow.{Bor}
use Rattle.plain_types.specs.declared.attr.Attr.{Attr}
use Rattle.xml_definitions.specs.Items.{Item, doctype, comment, instruction, start_tag, empty_tag, end_tag, reference, section, plain_character}
use Rattle.xhtml_items.specs.declared.token.Token.{Token}
use Rattle.xhtml_items.specs.declared.token.Token.TheVariants.{Doctype, Comment, Instruction, StartTag, EmptyTag, EndTag, Reference, Section, Character}

-- the item for which a token stands
abbrev pub item_of : Token → Item
item_of Doctype = doctype
item_of Comment = comment
item_of Instruction = instruction
item_of (StartTag name attrs) = start_tag (chars name.now) attrs
item_of (EmptyTag name attrs) = empty_tag (chars name.now) attrs
item_of (EndTag name) = end_tag (chars name.now)
item_of (Reference character) = reference character
item_of (Section characters) = section (chars characters.now)
item_of (Character character) = plain_character character

-- the parts of the text that a token holds are texts
abbrev pub IsText : Token → Type 0
IsText Doctype = Unit {0}
IsText Comment = Unit {0}
IsText Instruction = Unit {0}
IsText (StartTag name attrs) = IsUtf8 name.now
IsText (EmptyTag name attrs) = IsUtf8 name.now
IsText (EndTag name) = IsUtf8 name.now
IsText (Reference character) = Unit {0}
IsText (Section characters) = IsUtf8 characters.now
IsText (Character character) = Unit {0}

abbrev pub text_view : Bor (List ℕ) → List ℕ
text_view text = chars text.now

abbrev pub two_texts : Bor (List ℕ) × Bor (List ℕ) → List ℕ × List ℕ
two_texts x = (chars x.0.now, chars x.1.now)

-- an entry of a table: a name, and its character
abbrev pub entry : Bor (List ℕ) × ℕ → List ℕ × ℕ
entry x = (x.0.now, x.1)

abbrev pub character_view : ℕ × Bor (List ℕ) → ℕ × List ℕ
character_view x = (x.0, chars x.1.now)

abbrev pub value_view : List ℕ × Bor (List ℕ) → List ℕ × List ℕ
value_view x = (x.0, chars x.1.now)

abbrev pub attribute_view : Attr × Bor (List ℕ) → Attr × List ℕ
attribute_view x = (x.0, chars x.1.now)

abbrev pub attributes_view : List Attr × Bor (List ℕ) → List Attr × List ℕ
attributes_view x = (x.0, chars x.1.now)

abbrev pub token_view : Token × Bor (List ℕ) → Item × List ℕ
token_view x = (item_of x.0, chars x.1.now)
