-- What is done to a counter in its scope, told by what is kept of elements under their keys (our own, over CSS Lists 3, 4.4).
use Rattle.std.specs.Prelude.{ℕ, ◌==◌, List, [], ◌++◌, Option, option_and_then, if◌then◌else◌}
use Rattle.std.specs.Option.{option_map_or}
use Rattle.forest.specs.Forest.{Forest, Empty, Tree}
use Rattle.forest.specs.Keys.{Keyed}
use Rattle.forest.specs.Spots.{root_keys}
use Rattle.plain_types.specs.declared.box_id.BoxId.{BoxId}
use Rattle.plain_types.specs.declared.box_kind.BoxKind.{BoxKind}
use Rattle.plain_types.specs.declared.box_kind.BoxKind.TheVariants as kind
use Rattle.plain_types.specs.declared.counter.Counter.{Counter}
use Rattle.box_eval.specs.declared.change.Change.{Change}
use Rattle.edit_work.specs.KeyedSources.{is_among}
use Rattle.scope_reading.specs.ScopeChanges.{has_it}
use Rattle.scope_deeds.specs.Counting.{Counting}

-- `kept` has what is kept of the element with a key. Of a text it has nothing.
module _ (kept : ℕ → Option Counting) where
  -- what the boxes of a node before its children do to counters, and its box after them
  abbrev pub kept_before : ℕ → List Change
  kept_before key = option_map_or (λ (its : Counting). its.deeds.before_children) (kept key) []

  abbrev pub kept_after : ℕ → List Change
  kept_after key = option_map_or (λ (its : Counting). its.deeds.after_children) (kept key) []

  -- the counters of its own box, where it has one
  abbrev pub kept_own : ℕ → Option (List Counter)
  kept_own key = option_and_then (λ (its : Counting). its.own) (kept key)

  module _ {L : Type 0} where
    -- What trees side by side do, in tree order. Elements that are under one without a box are read too: nothing is found there, so
    -- code may leave them out.
    abbrev pub kept_changes : Forest (Keyed L) → List Change
    kept_changes Empty = []
    kept_changes (Tree node children after) = kept_before node.key ++ (kept_changes children ++ (kept_after node.key ++ kept_changes after))

    -- the counter of this name that this box creates
    module _ (creator : BoxId) (name : List ℕ) where
      -- What siblings do with all that is in them, up to the first whose own box lacks the counter. Those that have no box are passed.
      abbrev pub kept_row : Forest (Keyed L) → List Change
      kept_row Empty = []
      kept_row (Tree node children after) =
          let here : List Change = kept_before node.key ++ (kept_changes children ++ (kept_after node.key ++ kept_row after)) in
          option_map_or (λ (own : List Counter). if has_it creator name own then here else []) (kept_own node.key) (kept_row after)

      -- What is read from the creator's element on, by the box of it that creates the counter. Its before box: its boxes before
      -- the children, the children as a row, and its after box. Its after box: that box alone. Its own box, or its marker: the
      -- element, and the siblings after it.
      abbrev pub kept_from : BoxKind → ℕ → (children after : Forest (Keyed L)) → List Change
      kept_from kind.Before key children after = kept_before key ++ (kept_row children ++ kept_after key)
      kept_from kind.After key children after = kept_after key
      kept_from _ key children after = kept_before key ++ (kept_changes children ++ (kept_after key ++ kept_row after))

      -- That, and behind it, whichever box it is, the after box of the element's parent, which is the last sibling box.
      abbrev pub kept_scope : Forest (Keyed L) → List Change
      kept_scope Empty = []
      kept_scope (Tree node children after) =
          if node.key == creator.key then kept_from creator.kind node.key children after
          else
          (kept_scope children
          ++ ((if is_among (root_keys children) creator.key then kept_after node.key else [])
          ++ kept_scope after))
