-- What a walk is told of the merge of an edit where what it reaches goes and comes, and that it may go over it.
use Rattle.std.specs.Prelude.{◌≡◌, Bool, List, Option}
use Rattle.forest.specs.Forest.{Forest}
use Rattle.forest.specs.Keys.{Keyed}
use Rattle.plain_types.specs.declared.edit.Edit.{Edit}
use Rattle.plain_types.specs.declared.node.Node.{Node}
use Rattle.plain_types.specs.declared.sheet.Features.{Features}
use Rattle.plain_types.specs.declared.style.Style.{Style}
use Rattle.merged_walk.specs.declared.stop.Stop.{Stop}
use Rattle.merged_walk.specs.Merges.{Merge}
use Rattle.merged_walk.specs.Stops.{stops_of}
use Rattle.surroundings.specs.MergedLevels.{AreAllLed, HasLeaves}
use Rattle.surroundings.specs.StyledEvaluators.{is_element as is_styled_element}
use Rattle.edit_merge.specs.EditMerges.{inserted_key, is_element}
use Rattle.edit_merge.specs.Laws.{OfEachEdit}
use Rattle.style_reach.specs.Reaches.{reach}
use Rattle.styled_merge.specs.StyledMerges.{Starting, Styling, styled_merge}
use Rattle.styled_merge.specs.Reached.{reached_merge}
use Rattle.styled_merge.specs.ReachStops.{reach_stops}

-- a walk may go over the merge: these are its stops, texts have no children in its new forest, and its root isn't to be skipped
pub record IsWalkable {L : Type 0} (is_element : L → Bool) (ahead : List Stop) (merge : Merge L) : Type 0 where
  pub stops : ahead ≡ stops_of is_element 0 merge
  pub leaves : HasLeaves is_element merge
  pub led : AreAllLed merge

-- the stops of an edit that is done, whatever selectors look at
abbrev pub stops_where : Features → Edit → (old new : Forest (Keyed Node)) → List Stop
stops_where features edit old new = reach_stops (reach features old edit) edit (inserted_key edit new) old

-- they are those of its merge, where what it reaches goes and comes
abbrev pub ReachesAreWalkable : Type 0
ReachesAreWalkable =
    OfEachEdit (λ edit old new. (features : Features)
    → IsWalkable is_element (stops_where features edit old new) (reached_merge features edit old new))

-- and of that merge with styles and starts, whatever these are
abbrev pub StyledReachesAreWalkable : Type 0
StyledReachesAreWalkable =
    OfEachEdit (λ edit old new. (features : Features) (old_style new_style : Styling) (was_start start : Starting) (parent : Option Style)
    → IsWalkable is_styled_element (stops_where features edit old new)
    (styled_merge old_style new_style was_start start parent (reached_merge features edit old new)))
