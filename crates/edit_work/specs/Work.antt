-- How much of a document an edit touches (our own). Told by the documents before the edit and after it, their sheets
-- and their evaluations: it knows nothing of how the one evaluation is made from the other.
use Rattle.std.specs.Prelude.{ℕ, ◌+◌, Bool, false, List, ◌++◌, flat_map, sum_by}
use Rattle.std.specs.Option.{option_map_or}
use Rattle.plain_types.specs.declared.edit.Edit.{Edit}
use Rattle.box_eval.specs.declared.element_record.ElementRecord.{ElementRecord}
use Rattle.generated_texts.specs.Documents.{agent_sheet}
use Rattle.generated_texts.specs.References.{kept_at}
use Rattle.style_reach.specs.Reaches.{all_features, reach}
use Rattle.style_reach.specs.declared.extent.Reach.{Reach}
use Rattle.edit_work.specs.Counters.{in_touched_scopes}
use Rattle.edit_work.specs.Inputs.{differing_elements}
use Rattle.edit_work.specs.KeyedSources.{KeyedSource, author, records, weight}
use Rattle.edit_work.specs.Places.{around_place, elements_at, new_places, paths_after, paths_before, places}
use Rattle.edit_work.specs.References.{referring_first, referring_second}

-- the element of this key has a box
abbrev pub has_box_in : KeyedSource → ℕ → Bool
has_box_in source key = option_map_or (λ (element : ElementRecord). element.has_box) (kept_at (records source) key) false

module _ (edit : Edit) (before after : KeyedSource) where
  -- where the edit can change styles
  abbrev pub edit_reach : Reach
  edit_reach = reach (all_features agent_sheet (author before)) before.tree edit

  abbrev pub places_before : List (List ℕ)
  places_before = places edit_reach (paths_before edit) before.tree

  abbrev pub places_after : List (List ℕ)
  places_after = places edit_reach (paths_after edit) after.tree

  -- The five points. Each is a list of elements by their keys; how often an element stands in it is said at each.

  -- the elements of the trees at the places, in both documents: once for each place and tree
  unfoldable pub placed : List ℕ
  placed = flat_map (elements_at before.tree) places_before ++ flat_map (elements_at after.tree) places_after

  -- those whose inputs differ, each once, and behind each its child elements, each once
  unfoldable pub differing : List ℕ
  differing = differing_elements before after

  -- those in the scope of a reversed counter that is touched: once for each such counter
  unfoldable pub in_scopes : List ℕ
  in_scopes = in_touched_scopes before after placed

  -- Those around a place: its ancestors, and its preceding element siblings back to the nearest that has a box. A place is
  -- looked at where it is before the edit, a new one where it is after it; an element stands here once for each.
  unfoldable pub around_places : List ℕ
  around_places =
      flat_map (around_place before.tree (has_box_in before)) places_before
      ++ flat_map (around_place after.tree (has_box_in after)) (new_places edit_reach edit)

  -- those that refer to what falls under one of these points, each once
  abbrev pub referring_to_points : List ℕ
  referring_to_points = referring_first before after (placed ++ (differing ++ (in_scopes ++ around_places)))

  -- and those that refer to these, each once more
  unfoldable pub referring : List ℕ
  referring = referring_to_points ++ referring_second before after referring_to_points

  -- what pays for walks: the weights of the elements that are placed, that differ or that are around a place
  unfoldable pub walk_work : ℕ
  walk_work = sum_by (weight before after) (placed ++ (differing ++ around_places))

  -- The work of the edit: the weights of the elements of all points, added up. What falls under several is counted for each.
  unfoldable pub work : ℕ
  work = walk_work + sum_by (weight before after) (in_scopes ++ referring)
