-- How much of two merged forests a walk evaluates, and how many steps are set aside for it (our own).
use Rattle.std.specs.Prelude.{ℕ, ◌+◌, ◌*◌, Bool, not, ◌||◌, if◌then◌else◌}
use Rattle.forest.specs.Forest.{Forest, Empty, Tree}
use Rattle.forest.specs.Keys.{Keyed}
use Rattle.merged_walk.specs.Merges.{Merge, End, Kept, Turned, Gone, Come, old_of, new_of, has_place}
use Rattle.merged_walk.specs.Evaluators.{Evaluator, past_all, count_of_elements}

module _ {L : Type 0} where
  -- the weights of the trees that go and of those that come, added up
  abbrev pub weigh_places : (gone come : Forest (Keyed L) → ℕ) → Merge L → ℕ
  weigh_places gone come End = 0
  weigh_places gone come (Kept node children after) = weigh_places gone come children + weigh_places gone come after
  weigh_places gone come (Turned was node children after) = weigh_places gone come children + weigh_places gone come after
  weigh_places gone come (Gone node children after) = gone (Tree node children Empty) + weigh_places gone come after
  weigh_places gone come (Come node children after) = come (Tree node children Empty) + weigh_places gone come after

  -- how many trees go or come
  abbrev pub place_count : Merge L → ℕ
  place_count merge = weigh_places (λ _. 1) (λ _. 1) merge

  -- how many elements there are in the trees that go
  abbrev pub gone_count : (L → Bool) → Merge L → ℕ
  gone_count is_element merge = weigh_places (count_of_elements is_element) (λ _. 0) merge

  -- and in those that come
  abbrev pub come_count : (L → Bool) → Merge L → ℕ
  come_count is_element merge = weigh_places (λ _. 0) (count_of_elements is_element) merge

  -- how many nodes are turned, or are kept and have a place under them: a walk is led into them by its stops
  abbrev pub led_count : Merge L → ℕ
  led_count End = 0
  led_count (Kept node children after) = (if has_place children then 1 else 0) + (led_count children + led_count after)
  led_count (Turned was node children after) = 1 + (led_count children + led_count after)
  led_count (Gone node children after) = led_count after
  led_count (Come node children after) = led_count after

module _ {L K H : Type 0} (evaluator : Evaluator L K H) where
  -- How many elements that are kept are handed something else than before, where the level is handed this and was
  -- handed that.
  abbrev pub other_count : (handed was_handed : H) → Merge L → ℕ
  other_count handed was_handed End = 0
  other_count handed was_handed (Kept node children after) =
      (if evaluator.is_element node.label then (if evaluator.is_same handed was_handed then 0 else 1) else 0)
      + (other_count (evaluator.within node handed) (evaluator.within node was_handed) children
      + other_count (evaluator.past node handed (past_all evaluator (evaluator.within node handed) (new_of children)))
      (evaluator.past node was_handed (past_all evaluator (evaluator.within node was_handed) (old_of children))) after)
  other_count handed was_handed (Turned was node children after) =
      other_count (evaluator.within node handed) (evaluator.within was was_handed) children
      + other_count (evaluator.past node handed (past_all evaluator (evaluator.within node handed) (new_of children)))
      (evaluator.past was was_handed (past_all evaluator (evaluator.within was was_handed) (old_of children))) after
  other_count handed was_handed (Gone node children after) =
      other_count handed (evaluator.past node was_handed (past_all evaluator (evaluator.within node was_handed) children)) after
  other_count handed was_handed (Come node children after) =
      other_count (evaluator.past node handed (past_all evaluator (evaluator.within node handed) children)) was_handed after

  -- How many elements that stay a walk evaluates anew: those that are turned, have a place under them, or are handed
  -- something else.
  abbrev pub anew_count : (handed was_handed : H) → Merge L → ℕ
  anew_count handed was_handed End = 0
  anew_count handed was_handed (Kept node children after) =
      (if evaluator.is_element node.label then (if has_place children || not (evaluator.is_same handed was_handed) then 1 else 0) else 0)
      + (anew_count (evaluator.within node handed) (evaluator.within node was_handed) children
      + anew_count (evaluator.past node handed (past_all evaluator (evaluator.within node handed) (new_of children)))
      (evaluator.past node was_handed (past_all evaluator (evaluator.within node was_handed) (old_of children))) after)
  anew_count handed was_handed (Turned was node children after) =
      1
      + (anew_count (evaluator.within node handed) (evaluator.within was was_handed) children
      + anew_count (evaluator.past node handed (past_all evaluator (evaluator.within node handed) (new_of children)))
      (evaluator.past was was_handed (past_all evaluator (evaluator.within was was_handed) (old_of children))) after)
  anew_count handed was_handed (Gone node children after) =
      anew_count handed (evaluator.past node was_handed (past_all evaluator (evaluator.within node was_handed) children)) after
  anew_count handed was_handed (Come node children after) =
      anew_count (evaluator.past node handed (past_all evaluator (evaluator.within node handed) children)) was_handed after

-- The steps that are set aside for so many elements that stay and so many that come. One that stays takes 3 to be read
-- and entered and 2 to be left and put; with 2 for trees skipped in it and 2 for those skipped behind it that makes 9.
-- One that comes isn't read, and nothing is skipped in it.
abbrev pub set_aside : (stay come : ℕ) → ℕ
set_aside stay come = 9 * stay + 6 * come

-- The most steps that a walk over two merged forests takes, each put counted as one: also 2 for trees skipped behind
-- each tree that goes or comes, and 2 for those skipped before the first stop.
abbrev pub budget : {L K H : Type 0} → Evaluator L K H → (handed was_handed : H) → Merge L → ℕ
budget evaluator handed was_handed merge =
    set_aside (anew_count evaluator handed was_handed merge) (come_count evaluator.is_element merge)
    + 2 * place_count merge + 2
