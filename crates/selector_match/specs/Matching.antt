-- Which elements a selector matches: Selectors 4, in the numbering of its draft of 21 November 2018.
use Rattle.std.specs.Prelude.{ℕ, Bool, true, false, not, ◌&&◌, ◌∷◌, [], List, take, reverse, codes}
use Rattle.std.specs.List.{list_any, list_all}
use Rattle.std.specs.Option.{option_map_or}
use Rattle.std.specs.Str.{bytes_eq}
use Rattle.forest.specs.Forest.{Forest}
use Rattle.forest.specs.Keys.{Keyed}
use Rattle.plain_types.specs.declared.node.Node.{Node}
use Rattle.plain_types.specs.declared.selector.Compound.{Compound}
use Rattle.plain_types.specs.declared.selector.Selector.{Selector}
use Rattle.plain_types.specs.declared.selector.Simple.{Simple}
use Rattle.plain_types.specs.declared.selector.Simple.TheFolds.{fold-Simple, fold-Compound}
use Rattle.plain_types.specs.declared.selector.Simple.TheOpen.{Simple-F, Compound-F}
use Rattle.plain_types.specs.declared.selector_parts.Join.{Join}
use Rattle.plain_types.specs.declared.selector_parts.Join.TheVariants.{Descendant, Child, Next, Later}
use Rattle.plain_types.specs.Attributes.{value_of}
use Rattle.selector_match.specs.Attributes.{has_word, passes_in_case}
use Rattle.selector_match.specs.Elements.{Element, Standing, ancestors, earlier_siblings, is_root, standing_of}
use Rattle.selector_match.specs.Positions.{is_nth, is_only, position_of}

-- one of them is so
abbrev pub one_is : List Bool → Bool
one_is answers = list_any (λ answer. answer) answers

-- all of them are so
abbrev pub all_are : List Bool → Bool
all_are answers = list_all (λ answer. answer) answers

-- the element has an attribute of this name, whose value passes the test
abbrev pub has_attr : Element → List ℕ → (List ℕ → Bool) → Bool
has_attr element name test = option_map_or test (value_of name element.attrs) false

-- The element matches this simple selector. In `:is()`, `:where()` and `:not()` stands for each of the
-- compound selectors whether the element matches it.
abbrev pub simple_matches : Standing → Simple-F Bool Bool → Bool
-- 5.1 and 5.2: type selectors and `*`; names are compared as written
simple_matches standing Simple-F.Any = true
simple_matches standing (Simple-F.Element name) = bytes_eq standing.level.element.name name
-- 6.6 and 6.7: `.class` and `#id`, compared as written
simple_matches standing (Simple-F.Id name) = has_attr standing.level.element (codes "id") (λ value. bytes_eq value name)
simple_matches standing (Simple-F.Class name) = has_attr standing.level.element (codes "class") (λ value. has_word value name)
-- 13.1 and 13.2: `:root` and `:empty`
simple_matches standing Simple-F.Root = is_root standing
simple_matches standing Simple-F.Empty = standing.level.element.is_empty
-- our own: there is no user here who points, and no history of links
simple_matches standing Simple-F.Never = false
-- 6.1 to 6.3: attribute selectors
simple_matches standing (Simple-F.Attr name test value fold) = has_attr standing.level.element name (λ text. passes_in_case fold test text value)
-- 13.3 and 13.4: `:only-child`, `:nth-child()` and their kin
simple_matches standing (Simple-F.Only same_type) = is_only same_type standing.level
simple_matches standing (Simple-F.Nth a b from_end same_type) = is_nth a b (position_of from_end same_type standing.level)
-- 4.2 to 4.4: `:is()`, `:where()` and `:not()`
simple_matches standing (Simple-F.Is choices) = one_is choices
simple_matches standing (Simple-F.Weightless choices) = one_is choices
simple_matches standing (Simple-F.Not choices) = not (one_is choices)

-- 3.1: what matches each simple selector of a compound selector matches it
abbrev pub compound_matches : Compound-F Bool Bool → Bool
compound_matches compound = all_are compound.simples

module _ (standing : Standing) where
  abbrev pub matches_simple : Simple → Bool
  matches_simple simple = fold-Simple Bool Bool (simple_matches standing) compound_matches simple

  abbrev pub matches_compound : Compound → Bool
  matches_compound compound = fold-Compound Bool Bool (simple_matches standing) compound_matches compound

-- 14: the elements to which a combinator leads from the element on its right, the nearest first
abbrev pub led : Join → Standing → List Standing
led Descendant standing = ancestors standing
led Child standing = take 1 (ancestors standing)
led Later standing = earlier_siblings standing
led Next standing = take 1 (earlier_siblings standing)

-- The combinators before an element lead to elements that match the compounds on their left. Both stand
-- here from the last to the first. Our own: combinators and compounds that are not equally many match nothing.
abbrev pub matches_before : List Join → List Compound → Standing → Bool
matches_before [] [] standing = true
matches_before [] (compound ∷ compounds) standing = false
matches_before (join ∷ joins) [] standing = false
matches_before (join ∷ joins) (compound ∷ compounds) standing =
    list_any (λ (other : Standing). matches_compound other compound && matches_before joins compounds other) (led join standing)

-- The element matches the last compound, and the others are matched before it. Our own: a selector without
-- a compound matches nothing.
abbrev pub matches_from : List Compound → List Join → Standing → Bool
matches_from [] joins standing = false
matches_from (last ∷ compounds) joins standing = matches_compound standing last && matches_before joins compounds standing

-- 3.1: the element matches the complex selector, whose pseudo-element does not count here
abbrev pub matches_complex : Selector → Standing → Bool
matches_complex selector standing = matches_from (reverse selector.compounds) (reverse selector.joins) standing

-- the node of this key is an element of the document, and matches the selector
abbrev pub matches : Forest (Keyed Node) → ℕ → Selector → Bool
matches tree key selector = option_map_or (matches_complex selector) (standing_of tree key) false
