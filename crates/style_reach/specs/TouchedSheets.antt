-- Which edits touch a style sheet: the one beside the document, or that of a style element (our own).
use Rattle.std.specs.Prelude.{ℕ, ◌&&◌, ◌||◌, Bool, true, false, List, Option, Some, codes, option_and_then}
use Rattle.std.specs.List.{list_any}
use Rattle.std.specs.Option.{option_map_or}
use Rattle.std.specs.Str.{bytes_eq}
use Rattle.forest.specs.Forest.{Forest, labels}
use Rattle.forest.specs.Keys.{Keyed, without_keys}
use Rattle.forest.specs.Paths.{key_at}
use Rattle.forest.specs.Spots.{label_of, on_link, parent_of}
use Rattle.plain_types.specs.declared.edit.Edit.{Edit}
use Rattle.plain_types.specs.declared.edit.Edit.TheVariants.{Insert, Remove, Move, SetAttr, UnsetAttr, ReplaceSheet}
use Rattle.plain_types.specs.declared.node.Node.{Node}
use Rattle.plain_types.specs.declared.node.Node.TheVariants.{Element, Text}
use Rattle.node_arena.specs.Changes.{alone}
use Rattle.style_reach.specs.Ancestors.{inclusive_ancestors}

-- HTML, 4.2.6 "The style element"; here whatever its `type` is
abbrev pub is_style : Node → Bool
is_style (Element name attrs) = bytes_eq name (codes "style")
is_style (Text characters) = false

-- a style element stands in these trees
abbrev pub have_style : Forest Node → Bool
have_style trees = list_any is_style (labels trees)

-- there is such a node, and it passes
abbrev pub passes : (ℕ → Bool) → Option ℕ → Bool
passes test key = option_map_or test key false

module _ (tree : Forest (Keyed Node)) where
  -- the node of this key is a style element
  abbrev pub is_style_of : ℕ → Bool
  is_style_of key = option_map_or is_style (label_of tree key) false

  -- it is one, or one stands in it
  abbrev pub holds_style : ℕ → Bool
  holds_style key = have_style (without_keys (alone (on_link tree (Some key))))

  -- it is one, or it stands in one
  abbrev pub is_in_style : ℕ → Bool
  is_in_style key = list_any (λ (node : Keyed Node). is_style node.label) (inclusive_ancestors tree key)

  -- the parent of the node at a path
  abbrev pub parent_at : List ℕ → Option ℕ
  parent_at path = option_and_then (parent_of tree) (key_at tree path)

  -- HTML, 4.2.6: at a style element, an attribute of this name says in which language its sheet is written
  abbrev pub tells_language : List ℕ → List ℕ → Bool
  tells_language path name = passes is_style_of (key_at tree path) && bytes_eq name (codes "type")

  -- A style element comes, goes or moves; or what stands in one changes; or its `type` does.
  abbrev pub touches_sheet : Edit → Bool
  touches_sheet (Insert parent index fragment) = have_style fragment || passes is_in_style (key_at tree parent)
  touches_sheet (Remove path) = passes holds_style (key_at tree path) || passes is_in_style (parent_at path)
  touches_sheet (Move from parent index) =
      passes holds_style (key_at tree from)
      || (passes is_in_style (parent_at from) || passes is_in_style (key_at tree parent))
  touches_sheet (SetAttr path name value) = tells_language path name
  touches_sheet (UnsetAttr path name) = tells_language path name
  touches_sheet (ReplaceSheet text) = true
