-- What selectors see of a document: Selectors 4, 3.2 "Data Model", a tree of elements. The relations between
-- elements are those of DOM, 1.1 "Trees", among elements alone.
use Rattle.std.specs.Prelude.{ℕ, ◌==◌, if◌then◌else◌, Bool, true, false, ◌&&◌, List, [], ◌∷◌, length, Option, Some, None}
use Rattle.std.specs.Option.{option_or}
use Rattle.forest.specs.Forest.{Forest, Empty, Tree}
use Rattle.forest.specs.Keys.{Keyed, without_keys}
use Rattle.plain_types.specs.declared.attr.Attr.{Attr}
use Rattle.plain_types.specs.declared.node.Node.{Node}
use Rattle.plain_types.specs.declared.node.Node.TheVariants as node

-- an element: its name, its attributes, and whether it is empty
pub record Element : Type 0 where
  pub name : List ℕ
  pub attrs : List Attr
  pub is_empty : Bool

-- Selectors 3, 6.6.5.12: these children are none, or texts without characters; white space counts (our own:
-- Selectors 4, 13.2 leaves it out)
abbrev pub are_nothing : Forest Node → Bool
are_nothing Empty = true
are_nothing (Tree (node.Element name attrs) children after) = false
are_nothing (Tree (node.Text characters) children after) = (length characters == 0) && are_nothing after

-- the element of this name, with these attributes and children
abbrev pub element_with : List ℕ → List Attr → Forest Node → Element
element_with name attrs children = record { name = name; attrs = attrs; is_empty = are_nothing children }

-- the elements among the roots, from the first
abbrev pub elements : Forest Node → List Element
elements Empty = []
elements (Tree (node.Element name attrs) children after) = element_with name attrs children ∷ elements after
elements (Tree (node.Text characters) children after) = elements after

-- an element with its element siblings: those before it from the nearest, and those after it from the nearest
pub record Level : Type 0 where
  pub element : Element
  pub earlier : List Element
  pub later : List Element

-- where an element stands: among its siblings, and under its ancestors, its parent first, each among its own
-- siblings
pub record Standing : Type 0 where
  pub level : Level
  pub above : List Level

-- Selectors 4, 13.1: no element is above it
abbrev pub is_root : Standing → Bool
is_root standing = length standing.above == 0

-- the ancestors, the parent first
abbrev pub ancestors_in : List Level → List Standing
ancestors_in [] = []
ancestors_in (level ∷ above) = record { level = level; above = above } ∷ ancestors_in above

abbrev pub ancestors : Standing → List Standing
ancestors standing = ancestors_in standing.above

-- the siblings before these, from the nearest
abbrev pub levels_back : List Element → List Element → List Level
levels_back [] later = []
levels_back (nearest ∷ earlier) later = record { element = nearest; earlier = earlier; later = later } ∷ levels_back earlier (nearest ∷ later)

abbrev pub among : List Level → List Level → List Standing
among above [] = []
among above (level ∷ levels) = record { level = level; above = above } ∷ among above levels

-- the element siblings before it, the nearest first
abbrev pub earlier_siblings : Standing → List Standing
earlier_siblings standing = among standing.above (levels_back standing.level.earlier (standing.level.element ∷ standing.level.later))

-- an element between the siblings before it, from the nearest, and the trees after it
abbrev pub level_of : List Element → Element → Forest (Keyed Node) → Level
level_of earlier here after = record { element = here; earlier = earlier; later = elements (without_keys after) }

-- where the element of this key stands, in trees of which the parent and the other ancestors are these, and
-- the element siblings before them these; a text stands nowhere
abbrev pub standing_in : List Level → List Element → Forest (Keyed Node) → ℕ → Option Standing
standing_in above earlier Empty key = None
standing_in above earlier (Tree first children after) key = elim first.label [
  | node.Element name attrs ↦
      let here : Element = element_with name attrs (without_keys children) in
      let level : Level = level_of earlier here after in
      if first.key == key then Some (record { level = level; above = above })
      else option_or (standing_in (level ∷ above) [] children key) (standing_in above (here ∷ earlier) after key)
  | node.Text characters ↦ standing_in above earlier after key
]

-- where the element of this key stands in a document
abbrev pub standing_of : Forest (Keyed Node) → ℕ → Option Standing
standing_of tree key = standing_in [] [] tree key
