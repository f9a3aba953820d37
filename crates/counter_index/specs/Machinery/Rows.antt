-- Siblings as the scope of a counter has them, one after the other (our own, over CSS Lists 3, 4.4).
use Rattle.std.specs.Prelude.{ℕ, Bool, false, not, is_some, List, [], ◌++◌, Option, if◌then◌else◌}
use Rattle.std.specs.Option.{option_map_or}
use Rattle.forest.specs.Forest.{Forest}
use Rattle.forest.specs.Keys.{Keyed}
use Rattle.plain_types.specs.declared.box_id.BoxId.{BoxId}
use Rattle.plain_types.specs.declared.counter.Counter.{Counter}
use Rattle.box_eval.specs.declared.change.Change.{Change}
use Rattle.scope_reading.specs.ScopeChanges.{has_it}
use Rattle.scope_deeds.specs.Counting.{Counting}
use Rattle.scope_deeds.specs.KeptScopes.{kept_after, kept_before, kept_changes, kept_own}

module _ (kept : ℕ → Option Counting) where
  -- a node has an own box, and its own set lacks the counter of this name that this box creates
  abbrev pub lacks_it : BoxId → List ℕ → ℕ → Bool
  lacks_it creator name key = option_map_or (λ (own : List Counter). not (has_it creator name own)) (kept_own kept key) false

  module _ {L : Type 0} where
    -- what a node does and all under it
    abbrev pub tree_changes : ℕ → (children : Forest (Keyed L)) → List Change
    tree_changes key children = kept_before kept key ++ (kept_changes kept children ++ kept_after kept key)

    -- the same, where the node has an own box
    abbrev pub boxed_changes : ℕ → (children : Forest (Keyed L)) → List Change
    boxed_changes key children = if is_some (kept_own kept key) then tree_changes key children else []
