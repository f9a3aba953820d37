-- The turns of a walk over two merged forests (our own).
use Rattle.std.specs.Prelude.{◌≡◌, ◌≤◌, ◌+◌, ℕ, Bool, true, false, not, ◌||◌, List, [], ◌∷◌, ◌++◌, length, if◌then◌else◌}
use Rattle.forest.specs.Forest.{Forest, Empty}
use Rattle.forest.specs.Keys.{Keyed}
use Rattle.merged_walk.specs.declared.stop.Stop.{Stop}
use Rattle.merged_walk.specs.declared.stop.Way.TheVariants.{Inside, Anew}
use Rattle.merged_walk.specs.Merges.{Merge, End, Kept, Turned, Gone, Come, all_come, has_place, from_place}
use Rattle.merged_walk.specs.Stops.{stop_at, stops_of}
use Rattle.merged_walk.specs.Evaluators.{Evaluator, past_all}
use Rattle.merged_walk.specs.Walks.{Open, State, handed_at_place, is_fresh, new_past, old_past}

-- the first stop was taken off a list, where one is to be taken
abbrev pub IsTaken : Bool → Stop → List Stop → List Stop → Type 0
IsTaken takes stop stops later = stops ≡ (if takes then stop ∷ later else later)

module _ {L K H : Type 0} where
  -- a node at which a walk stands, once it is open
  abbrev pub opened : State L K H → (node was_node : Keyed L) → Bool → Merge L → Open L H
  opened state node was_node fresh after =
      record { node = node; was_node = was_node; handed = state.handed; was_handed = state.was_handed; fresh = fresh; after = after }

module _ {L K H : Type 0} (evaluator : Evaluator L K H) where
  pub data WalkTurn (now : State L K H) : State L K H → Type 0 where
    -- a kept element is entered: it has a place under it, or is handed something else
    entering : (node : Keyed L) (children after : Merge L) (later : List Stop) (spent : ℕ)
        → now.here ≡ Kept node children after
        → evaluator.is_element node.label ≡ true
        → is_fresh now.above ≡ false
        → (has_place children || not (evaluator.is_same now.handed now.was_handed)) ≡ true
        → IsTaken (has_place children) (stop_at evaluator.is_element (length now.above) Inside (Kept node children after)) now.stops later
        → spent ≤ now.spent + 3
        → WalkTurn now (record {
          above = opened now node node false after ∷ now.above;
          handed = evaluator.within node now.handed;
          was_handed = evaluator.within node now.was_handed;
          here = children;
          stops = later;
          changes = now.changes;
          spent = spent;
        })
    -- an element with another label is entered
    entering_turned : (was node : Keyed L) (children after : Merge L) (later : List Stop) (spent : ℕ)
        → now.here ≡ Turned was node children after
        → evaluator.is_element node.label ≡ true
        → evaluator.is_element was.label ≡ true
        → was.key ≡ node.key
        → is_fresh now.above ≡ false
        → now.stops ≡ stop_at evaluator.is_element (length now.above) Inside (Turned was node children after) ∷ later
        → spent ≤ now.spent + 3
        → WalkTurn now (record {
          above = opened now node was false after ∷ now.above;
          handed = evaluator.within node now.handed;
          was_handed = evaluator.within was now.was_handed;
          here = children;
          stops = later;
          changes = now.changes;
          spent = spent;
        })
    -- an element that comes is entered, at its stop or on a fresh level
    entering_fresh : (node : Keyed L) (children : Forest (Keyed L)) (after : Merge L) (later : List Stop) (spent : ℕ)
        → now.here ≡ Come node children after
        → evaluator.is_element node.label ≡ true
        → IsTaken (not (is_fresh now.above)) (stop_at evaluator.is_element (length now.above) Anew (Come node children after)) now.stops later
        → spent ≤ now.spent + 2
        → WalkTurn now (record {
          above = opened now node node true after ∷ now.above;
          handed = evaluator.within node now.handed;
          was_handed = now.was_handed;
          here = all_come children;
          stops = later;
          changes = now.changes;
          spent = spent;
        })
    -- a text that is kept is passed
    passing : (node : Keyed L) (after : Merge L)
        → now.here ≡ Kept node End after
        → evaluator.is_element node.label ≡ false
        → WalkTurn now (record now { here = after })
    -- a text that comes is passed, at its stop or on a fresh level
    passing_fresh : (node : Keyed L) (after : Merge L) (later : List Stop)
        → now.here ≡ Come node Empty after
        → evaluator.is_element node.label ≡ false
        → IsTaken (not (is_fresh now.above)) (stop_at evaluator.is_element (length now.above) Anew (Come node Empty after)) now.stops later
        → WalkTurn now (record now { here = after; stops = later })
    -- a tree that is gone is passed, at its stop
    missing : (node : Keyed L) (children : Forest (Keyed L)) (after : Merge L) (stop : Stop) (later : List Stop)
        → now.here ≡ Gone node children after
        → is_fresh now.above ≡ false
        → now.stops ≡ stop ∷ later
        → WalkTurn now (record now {
          was_handed = evaluator.past node now.was_handed (past_all evaluator (evaluator.within node now.was_handed) children);
          here = after;
          stops = later;
        })
    -- kept trees without a place are skipped, up to the next place of the level or to its end, where the same is handed
    skipping : (node : Keyed L) (children after : Merge L) (spent : ℕ)
        → now.here ≡ Kept node children after
        → is_fresh now.above ≡ false
        → has_place children ≡ false
        → evaluator.is_same now.handed now.was_handed ≡ true
        → spent ≤ now.spent + 2
        → WalkTurn now (record now {
          handed = handed_at_place evaluator now.handed (Kept node children after);
          was_handed = handed_at_place evaluator now.handed (Kept node children after);
          here = from_place (Kept node children after);
          spent = spent;
        })
    -- the innermost open element is left, and what is kept of it is a change
    leaving : (innermost : Open L H) (above : List (Open L H)) (spent : ℕ)
        → now.above ≡ innermost ∷ above
        → now.here ≡ End
        → spent ≤ now.spent + 2
        → WalkTurn now (record now {
          above = above;
          handed = new_past evaluator innermost now.handed;
          was_handed = old_past evaluator innermost now.was_handed;
          here = innermost.after;
          changes = now.changes ++ (innermost.node.key, evaluator.kept innermost.node innermost.handed now.handed) ∷ [];
          spent = spent;
        })

  -- turns one after the other
  pub data Run (first : State L K H) : State L K H → Type 0 where
    no_turn : Run first first
    then_turn : (now next : State L K H) → Run first now → WalkTurn now next → Run first next

  -- a walk before its first turn
  abbrev pub begun : (handed was_handed : H) → Merge L → (spent : ℕ) → State L K H
  begun handed was_handed merge spent = record {
    above = [];
    handed = handed;
    was_handed = was_handed;
    here = merge;
    stops = stops_of evaluator.is_element 0 merge;
    changes = [];
    spent = spent;
  }

-- a walk has ended
pub record IsEnded {L K H : Type 0} (state : State L K H) : Type 0 where
  pub above : state.above ≡ []
  pub here : state.here ≡ End
