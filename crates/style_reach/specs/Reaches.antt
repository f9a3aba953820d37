-- Where an edit can change styles, beside the trees that it puts in, takes out or moves, and that of the element whose
-- attribute it changes (our own).
use Rattle.std.specs.Prelude.{ℕ, ◌&&◌, ◌||◌, if◌then◌else◌, List, Option, Some, None, option_and_then, unwrap_or}
use Rattle.forest.specs.Forest.{Forest}
use Rattle.forest.specs.Keys.{Keyed}
use Rattle.forest.specs.Paths.{key_at}
use Rattle.forest.specs.Spots.{parent_of}
use Rattle.plain_types.specs.declared.edit.Edit.{Edit}
use Rattle.plain_types.specs.declared.edit.Edit.TheVariants.{Insert, Remove, Move, SetAttr, UnsetAttr, ReplaceSheet}
use Rattle.plain_types.specs.declared.node.Node.{Node}
use Rattle.plain_types.specs.declared.sheet.Features.{Features}
use Rattle.plain_types.specs.declared.sheet.Sheet.{Sheet}
use Rattle.css_reader.specs.Features.{features}
use Rattle.style_reach.specs.TouchedSheets.{parent_at, touches_sheet}
use Rattle.style_reach.specs.declared.extent.Reach.{Reach}
use Rattle.style_reach.specs.declared.extent.Reach.TheVariants.{Own, Under, Both, All}

-- what the selectors of the user agent and of the author look at
abbrev pub all_features : Sheet → Sheet → Features
all_features agent author = record {
  siblings = (features agent).siblings || (features author).siblings;
  positions = (features agent).positions || (features author).positions;
  empties = (features agent).empties || (features author).empties;
}

-- what is seen from one element, and from what stands in it; or from none but the edited ones
abbrev pub under : Option ℕ → Reach
under None = Own
under (Some top) = Under top

-- what is seen from two
abbrev pub both : Option ℕ → Option ℕ → Reach
both (Some first) (Some second) = Both first second
both _ _ = Own

module _ (features : Features) (tree : Forest (Keyed Node)) where
  -- A child of a node comes or goes. The other children may see it, by their siblings and positions, and the node
  -- itself, by its emptiness. Where selectors look at siblings and at emptiness, the node's siblings may see that it
  -- is empty.
  abbrev pub seen_from : ℕ → Option ℕ
  seen_from parent =
      if features.siblings && features.empties then Some (unwrap_or (parent_of tree parent) parent)
      else (if features.siblings || (features.positions || features.empties) then Some parent else None)

  -- a child comes at the node of this path
  abbrev pub coming_at : List ℕ → Option ℕ
  coming_at parent = option_and_then seen_from (key_at tree parent)

  -- the node of this path goes
  abbrev pub going_at : List ℕ → Option ℕ
  going_at path = option_and_then seen_from (parent_at tree path)

  -- the element of this path has another attribute; its siblings may see it
  abbrev pub attribute_at : List ℕ → Option ℕ
  attribute_at path = if features.siblings then parent_at tree path else None

  -- the reach of an edit that touches no sheet
  abbrev pub reach_in_tree : Edit → Reach
  reach_in_tree (Insert parent index fragment) = under (coming_at parent)
  reach_in_tree (Remove path) = under (going_at path)
  reach_in_tree (Move from parent index) = both (going_at from) (coming_at parent)
  reach_in_tree (SetAttr path name value) = under (attribute_at path)
  reach_in_tree (UnsetAttr path name) = under (attribute_at path)
  reach_in_tree (ReplaceSheet text) = All

  -- the reach of an edit
  abbrev pub reach : Edit → Reach
  reach edit = if touches_sheet tree edit then All else reach_in_tree edit
