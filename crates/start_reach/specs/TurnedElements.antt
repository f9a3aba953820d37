-- Elements that stay under other starts than before (our own): they are turned, and a walk goes into each of them.
use Rattle.std.specs.Prelude.{◌≡◌, ◌==◌, ◌&&◌, ◌||◌, ℕ, nat_lt, Bool, false, if◌then◌else◌, List, [], ◌∷◌, Option, Some, None, All, fold, option_map, unwrap_or}
use Rattle.std.specs.Option.{option_or}
use Rattle.forest.specs.Forest.{Forest, Empty, Tree}
use Rattle.forest.specs.Keys.{Keyed}
use Rattle.forest.specs.Spots.{index_of}
use Rattle.plain_types.specs.declared.node.Node.{Node}
use Rattle.plain_types.specs.declared.style.Style.{Style}
use Rattle.box_eval.specs.declared.inputs.Start.{Start}
use Rattle.box_eval.specs.Evaluation.{Element, StyledNode, Text, element_starts, style_within}
use Rattle.merged_walk.specs.declared.stop.Stop.{Stop}
use Rattle.merged_walk.specs.Merges.{Merge, End, Kept, Turned, Gone, Come}
use Rattle.merged_walk.specs.TurnedNodes.{with_way}
use Rattle.styled_merge.specs.Stays.{OfElement}
use Rattle.styled_merge.specs.StyledMerges.{Starting, Styling}

module _ {L : Type 0} (is_element : L → Bool) where
  -- the merge where each kept element with such a key is turned
  abbrev pub turned_where : (ℕ → Bool) → Merge L → Merge L
  turned_where is_turned End = End
  turned_where is_turned (Kept node children after) =
      if is_element node.label && is_turned node.key then Turned node node (turned_where is_turned children) (turned_where is_turned after)
      else Kept node (turned_where is_turned children) (turned_where is_turned after)
  turned_where is_turned (Turned was node children after) = Turned was node (turned_where is_turned children) (turned_where is_turned after)
  turned_where is_turned (Gone node children after) = Gone node children (turned_where is_turned after)
  turned_where is_turned (Come node children after) = Come node children (turned_where is_turned after)

  -- an element of this key is kept or turned
  abbrev pub stays : ℕ → Merge L → Bool
  stays key End = false
  stays key (Kept node children after) = (is_element node.label && node.key == key) || (stays key children || stays key after)
  stays key (Turned was node children after) = (is_element node.label && node.key == key) || (stays key children || stays key after)
  stays key (Gone node children after) = stays key after
  stays key (Come node children after) = stays key after

module _ {L : Type 0} where
  -- the keys of the nodes above a node, from the root, and its own
  abbrev pub way_in : Forest (Keyed L) → ℕ → Option (List ℕ)
  way_in Empty key = None
  way_in (Tree node children after) key =
      if node.key == key then Some (node.key ∷ [])
      else option_or (option_map (λ way. node.key ∷ way) (way_in children key)) (way_in after key)

  abbrev pub way_to : Forest (Keyed L) → ℕ → List ℕ
  way_to forest key = unwrap_or (way_in forest key) []

  -- of two siblings the first comes before the other
  abbrev pub is_earlier : Forest (Keyed L) → ℕ → ℕ → Bool
  is_earlier forest first other = nat_lt (index_of forest first) (index_of forest other)

  -- stops, with those on the way to each of these nodes of a document
  abbrev pub with_ways_to : Forest (Keyed L) → List ℕ → List Stop → List Stop
  with_ways_to forest keys stops = fold (λ stops key. with_way (is_earlier forest) 0 (way_to forest key) stops) stops keys

-- the boxes of the element have the same starts as before, where its parent has this style
abbrev pub HasSameStartsUnder : (new : Styling) (was_start start : Starting) → Option Style → ℕ → Type 0
HasSameStartsUnder new was_start start parent key = element_starts was_start key (new key parent) ≡ element_starts start key (new key parent)

module _ (new : Styling) (was_start start : Starting) where
  -- each element that is kept, and not turned, has the same starts as before, where the parent of its level has this style
  abbrev pub KeptHaveSameStarts : Option Style → Merge Node → Type 0
  KeptHaveSameStarts parent End = Unit {0}
  KeptHaveSameStarts parent (Kept node children after) =
      OfElement (HasSameStartsUnder new was_start start parent) node.key node.label
      × KeptHaveSameStarts (style_within new start parent node.key node.label) children
      × KeptHaveSameStarts parent after
  KeptHaveSameStarts parent (Turned was node children after) =
      KeptHaveSameStarts (style_within new start parent node.key node.label) children × KeptHaveSameStarts parent after
  KeptHaveSameStarts parent (Gone node children after) = KeptHaveSameStarts parent after
  KeptHaveSameStarts parent (Come node children after) = KeptHaveSameStarts parent after

-- of a styled element: each start that its boxes ask for is what it was
abbrev pub AsksForSame : (was_start : Starting) → StyledNode → Type 0
AsksForSame was_start (Element element) = All (λ (asked : Start). was_start asked.creator asked.name ≡ asked.value) element.starts
AsksForSame was_start Text = Unit {0}
