-- Why an element is numbered and marked as it is (our own): where each property of its style comes from, and its counters.
use Rattle.std.specs.Prelude.{ℕ, Bool, if◌then◌else◌, List, [], ◌∷◌, ◌++◌, Option, Some, None, codes, encode_utf8_all, flat_map, is_some, option_map}
use Rattle.std.specs.Fmt.{decimal, signed_decimal}
use Rattle.std.specs.Option.{option_and_then, option_map_or}
use Rattle.forest.specs.Forest.{Forest}
use Rattle.forest.specs.Keys.{Keyed, numbered}
use Rattle.forest.specs.Paths.{key_at, path_of}
use Rattle.plain_types.specs.declared.counter.Counter.{Counter}
use Rattle.plain_types.specs.declared.node.Node.{Node}
use Rattle.plain_types.specs.declared.sheet.Sheet.{Sheet}
use Rattle.node_arena.specs.Nodes.{name_of}
use Rattle.dump_definitions.specs.Dump.{kind_name, path_text, quoted}
use Rattle.generated_texts.specs.declared.entry.NodeEntry.{NodeEntry}
use Rattle.generated_texts.specs.Documents.{agent_sheet}
use Rattle.generated_texts.specs.Entries.{document_entries}
use Rattle.generated_texts.specs.References.{kept_at}
use Rattle.generated_texts.specs.StyleElements.{author_sheet}
use Rattle.style_sources.specs.Sources.{value_source_at}
use Rattle.style_sources.specs.declared.place.DeclarationPlace.{DeclarationPlace}
use Rattle.style_sources.specs.declared.place.DeclarationPlace.TheVariants.{Rule, Hint, StyleAttribute}
use Rattle.style_sources.specs.declared.place.SheetOrigin.{SheetOrigin}
use Rattle.style_sources.specs.declared.place.SheetOrigin.TheVariants.{UserAgent, Author}
use Rattle.style_sources.specs.declared.property.Property.{Property}
use Rattle.style_sources.specs.declared.property.Property.TheVariants.{Display, Content, CounterReset, CounterIncrement, CounterSet, ListStyleType, Quotes}
use Rattle.style_sources.specs.declared.value_source.ValueSource.{ValueSource}
use Rattle.style_sources.specs.declared.value_source.ValueSource.TheVariants.{Declared, Inherited, Initial}

-- the properties, in the order of their lines
abbrev pub properties : List Property
properties = Display ∷ Content ∷ CounterReset ∷ CounterIncrement ∷ CounterSet ∷ ListStyleType ∷ Quotes ∷ []

-- a property by its name in CSS
abbrev pub property_name : Property → List ℕ
property_name Display = codes "display"
property_name Content = codes "content"
property_name CounterReset = codes "counter-reset"
property_name CounterIncrement = codes "counter-increment"
property_name CounterSet = codes "counter-set"
property_name ListStyleType = codes "list-style-type"
property_name Quotes = codes "quotes"

abbrev pub origin_name : SheetOrigin → List ℕ
origin_name UserAgent = codes "agent"
origin_name Author = codes "author"

-- where a declaration stands: `agent N`, where N style rules stand before its rule in the user agent's sheet; `author N`, where
-- N stand before it in the author's sheet and the `style` elements after it, taken as one; `hint`; or `inline`
abbrev pub place_text : DeclarationPlace → List ℕ
place_text (Rule origin number) = origin_name origin ++ 32 ∷ decimal number
place_text Hint = codes "hint"
place_text StyleAttribute = codes "inline"

abbrev pub importance_text : Bool → List ℕ
importance_text important = if important then codes " important" else []

abbrev pub source_text : ValueSource → List ℕ
source_text (Declared place important) = place_text place ++ importance_text important
source_text Inherited = codes "inherited"
source_text Initial = codes "initial"

-- PROPERTY SOURCE and a line feed
abbrev pub source_line : Property → ValueSource → List ℕ
source_line property source = property_name property ++ 32 ∷ (source_text source ++ 10 ∷ [])

-- counter "NAME" PATH KIND VALUE and a line feed: the path of the element of the box that created it, which of its boxes
-- that is, and the counter's value
abbrev pub counter_line : Forest (Keyed Node) → Counter → List ℕ
counter_line document counter =
    codes "counter " ++ (quoted counter.name
    ++ 32 ∷ (path_text (path_of document counter.creator.key)
    ++ 32 ∷ (kind_name counter.creator.kind
    ++ 32 ∷ (signed_decimal counter.value ++ 10 ∷ []))))

unfoldable pub source_lines : (Property → ValueSource) → List ℕ
source_lines source_of = flat_map (λ (property : Property). source_line property (source_of property)) properties

-- the element's counters set (CSS Lists 3, 4), in its order; without a box it has none
abbrev pub counter_lines : Forest (Keyed Node) → Option NodeEntry → List ℕ
counter_lines document entry = option_map_or (λ (entry : NodeEntry). flat_map (counter_line document) entry.own) entry []

-- the account of the element of this key in a document whose nodes have keys, under the author's sheet
unfoldable pub element_account : Sheet → Forest (Keyed Node) → ℕ → List ℕ
element_account author document key =
    source_lines (value_source_at document agent_sheet author key) ++ counter_lines document (kept_at (document_entries author document) key)

-- the element that a path leads to; at a text, or past the children, there is none
abbrev pub element_at : Forest (Keyed Node) → List ℕ → Option ℕ
element_at document path = option_and_then (λ key. if is_some (name_of document key) then Some key else None) (key_at document path)

-- the account of the element at a path, if there is one, in a document whose nodes have keys, under the sheet of this text
abbrev pub keyed_account : List ℕ → Forest (Keyed Node) → List ℕ → Option (List ℕ)
keyed_account sheet_text document path = option_map (element_account (author_sheet sheet_text document) document) (element_at document path)

-- that of a document, each of whose nodes has its place in tree order as its key, as bytes
unfoldable pub account : List ℕ → Forest Node → List ℕ → Option (List ℕ)
account sheet_text tree path = option_map encode_utf8_all (keyed_account sheet_text (numbered 0 tree) path)
