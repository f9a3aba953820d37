-- Which boxes create the counters of a name, and in whose scope a box is, told without sets: CSS Lists 3, 4.4.
use Rattle.std.specs.Prelude.{ℕ, Bool, false, ◌&&◌, ◌||◌, not, List, [], ◌∷◌, ◌++◌, Option, None, cond, filter}
use Rattle.std.specs.List.{fold, last_or, list_any}
use Rattle.forest.specs.Forest.{Forest, Empty, Tree, labels}
use Rattle.plain_types.specs.declared.box_id.BoxId.{BoxId}
use Rattle.counter_sets.specs.Sets.{is_same_box}
use Rattle.counter_scopes.specs.Boxes.{DocumentBox}
use Rattle.counter_scopes.specs.Counting.{mentions, resets}

-- the box is one of these trees
abbrev pub stands_in : BoxId → Forest DocumentBox → Bool
stands_in box Empty = false
stands_in box (Tree root children after) = is_same_box root.id box || (stands_in box children || stands_in box after)

module _ (name : List ℕ) where
  -- the box is one of these trees, or under one, before the first of their roots that resets the name
  abbrev pub stands_before_reset : BoxId → Forest DocumentBox → Bool
  stands_before_reset box Empty = false
  stands_before_reset box (Tree root children after) =
      not (resets name root) && (is_same_box root.id box || (stands_in box children || stands_before_reset box after))

  -- 4.4: The scope of a counter is, of its creator and the creator's later sibling boxes before the first of them
  -- that resets the name, these boxes and all under them.
  abbrev pub is_in_scope : Forest DocumentBox → (creator box : BoxId) → Bool
  is_in_scope Empty creator box = false
  is_in_scope (Tree root children after) creator box =
      cond (is_same_box root.id creator)
      (is_same_box root.id box || (stands_in box children || stands_before_reset box after))
      (is_in_scope children creator box || is_in_scope after creator box)

  module _ (boxes : Forest DocumentBox) where
    -- 4.2, 4.4 and 4.7: A box creates a counter of the name exactly where it resets the name, or increments, sets
    -- or uses it and is in the scope of no counter of the name that an earlier box created.
    abbrev pub creates : List DocumentBox → DocumentBox → Bool
    creates earlier box = resets name box || (mentions name box && not (list_any (λ (creator : DocumentBox). is_in_scope boxes creator.id box.id) earlier))

    abbrev pub with_creator : List DocumentBox → DocumentBox → List DocumentBox
    with_creator earlier box = cond (creates earlier box) (earlier ++ box ∷ []) earlier

    -- the boxes that create counters of the name, in tree order
    abbrev pub creators : List DocumentBox
    creators = fold with_creator [] (labels boxes)

    -- those in whose counters' scope a box is, in tree order
    abbrev pub creators_around : BoxId → List DocumentBox
    creators_around box = filter (λ (creator : DocumentBox). is_in_scope boxes creator.id box) creators

    -- 4.4: its innermost counter of the name is that of the last of them
    abbrev pub innermost_creator : BoxId → Option DocumentBox
    innermost_creator box = last_or None (creators_around box)
