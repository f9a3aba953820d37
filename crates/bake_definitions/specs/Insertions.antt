-- What is put into a document: generated texts, each as an element of its own (our own).
use Rattle.std.specs.Prelude.{ℕ, Bool, ◌||◌, not, ◌==◌, cond, if◌then◌else◌, List, [], ◌∷◌, ◌++◌, codes, map}
use Rattle.std.specs.List.{list_any}
use Rattle.std.specs.Str.{bytes_eq}
use Rattle.dump_definitions.specs.Dump.{kind_name}
use Rattle.plain_types.specs.declared.attr.Attr.{Attr}
use Rattle.plain_types.specs.declared.box_kind.BoxKind.{BoxKind}
use Rattle.reading.specs.Reading.{span}
use Rattle.xml_definitions.specs.Spelling.{is_legal}

-- a text that is put into an element, and of which of its boxes it is
pub record Insertion : Type 0 where
  pub kind : BoxKind
  pub text : List ℕ

-- The element.

-- Namespaces in XML 1.0, 4 [8] PrefixedName: what stands before the first colon of a name, with the colon;
-- a name without one has no prefix
abbrev pub prefix : List ℕ → List ℕ
prefix name = if list_any (λ c. c == 58) name then (span (λ c. not (c == 58)) name).0 ++ 58 ∷ [] else []

-- a `span` (HTML, 4.5.26); the prefix of the element that it is put into makes it one of its namespace (our own)
abbrev pub inserted_name : List ℕ → List ℕ
inserted_name name = prefix name ++ codes "span"

-- one class of each kind of box
abbrev pub class_of : BoxKind → List ℕ
class_of kind = codes "baked-" ++ kind_name kind

-- one attribute, the class
abbrev pub inserted_attrs : BoxKind → List Attr
inserted_attrs kind = record { name = codes "class"; value = class_of kind } ∷ []

-- Its characters.

-- XML 1.0, 2.2 Char: a character that no document can have, not by reference either, becomes U+FFFD
abbrev pub as_legal : ℕ → ℕ
as_legal c = if is_legal c then c else 0xfffd

-- the characters of the element's one text
abbrev pub inserted_characters : Insertion → List ℕ
inserted_characters insertion = map as_legal insertion.text

-- XML 1.0, 2.4: `&`, `<` and the `>` of `]]>`, here each `>`, are written by references; 2.11: so is the carriage
-- return, which would read as a line feed
abbrev pub is_referred : ℕ → Bool
is_referred c = (c == 38 || c == 60) || (c == 62 || c == 13)

-- the references to these four
abbrev pub reference_to : ℕ → List ℕ
reference_to c =
    cond (c == 38) (codes "&amp;")
    (cond (c == 60) (codes "&lt;")
    (cond (c == 62) (codes "&gt;")
    (codes "&#13;")))

-- Elements that take none.

-- HTML, 13.1.2 "void elements": there is nothing in them
unfoldable pub void_names : List (List ℕ)
void_names =
    codes "area" ∷ codes "base" ∷ codes "br" ∷ codes "col" ∷ codes "embed" ∷ codes "hr" ∷ codes "img" ∷ codes "input"
    ∷ codes "link" ∷ codes "meta" ∷ codes "source" ∷ codes "track" ∷ codes "wbr" ∷ []

-- HTML, 4, by their content models: no element may stand in them, or at least no `span`
unfoldable pub text_names : List (List ℕ)
text_names =
    codes "html" ∷ codes "head" ∷ codes "title" ∷ codes "style" ∷ codes "script" ∷ codes "iframe" ∷ codes "textarea" ∷ codes "option" ∷ []

-- HTML, 4, by their content models: only children of certain names may stand in them
unfoldable pub parent_names : List (List ℕ)
parent_names =
    codes "ul" ∷ codes "ol" ∷ codes "menu" ∷ codes "dl" ∷ codes "table" ∷ codes "thead" ∷ codes "tbody" ∷ codes "tfoot"
    ∷ codes "tr" ∷ codes "colgroup" ∷ codes "select" ∷ codes "optgroup" ∷ codes "picture" ∷ codes "hgroup" ∷ codes "svg" ∷ codes "math" ∷ []

-- HTML, 4, by their content models: their first or last child is a `summary`, a `legend` or an `rt`, where they have one
unfoldable pub captioned_names : List (List ℕ)
captioned_names = codes "details" ∷ codes "fieldset" ∷ codes "ruby" ∷ []

-- the names of the elements in which no `span` may stand first, or none last; names are compared as written
unfoldable pub names_without_span : List (List ℕ)
names_without_span = void_names ++ (text_names ++ (parent_names ++ captioned_names))

-- a `span` may be put into an element of this name
abbrev pub takes_span : List ℕ → Bool
takes_span name = not (list_any (bytes_eq name) names_without_span)
