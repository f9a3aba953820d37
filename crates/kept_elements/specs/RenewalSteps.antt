-- How many steps it may take to make texts again after an edit (our own).
use Rattle.std.specs.Prelude.{◌≡◌, ◌≤◌, ◌+◌, ℕ, Bool, true, List, ◌++◌, filter, length, sum_by}
use Rattle.forest.specs.Keys.{HasDistinctKeys}
use Rattle.plain_types.specs.declared.edit.Edit.{Edit}
use Rattle.plain_types.specs.declared.node.Node.{Node}
use Rattle.merged_walk.specs.Merges.{Merge}
use Rattle.surroundings.specs.declared.told.Told.{Told}
use Rattle.edit_work.specs.KeyedSources.{KeyedSource, elements_in, is_among}
use Rattle.edit_work.specs.Work.{work}
use Rattle.reference_reach.specs.ChangedTargets.{Evaluated, references_at, refers, refers_through}
use Rattle.reference_reach.specs.Laws.{evaluated, other_points}
use Rattle.reference_reach.specs.MergedNodes.{entered_elements}
use Rattle.reference_reach.specs.ToldLaws.{keys_of}
use Rattle.kept_elements.specs.Renewals.{is_told}

module _ (before after : Evaluated) where
  -- an element weighs 1, and 1 for each reference that it holds before the edit and after it
  abbrev pub weight_in : ℕ → ℕ
  weight_in key = 1 + (length (references_at before key) + length (references_at after key))

  -- what the elements of the document after it weigh of which this holds
  abbrev pub weight_where : (ℕ → Bool) → ℕ
  weight_where are = sum_by weight_in (filter are (elements_in after.tree))

  -- The weights of the elements that a walk over this merge caught, of those that refer to what the edit touches, and of those
  -- that refer to these, added up. What is of several kinds is counted for each.
  abbrev pub renewal_weight : Merge Node → (caught : List (ℕ × Told)) → ℕ
  renewal_weight merge caught =
      let changed = keys_of caught ++ entered_elements merge in
      weight_where (is_told caught)
      + (weight_where (refers before after changed) + weight_where (refers_through before after changed))

-- That is within the work of an edit, where each element that was caught and each that the merge enters falls under a point of it
-- that is not that of references.
abbrev pub RenewalIsPaid : Type 0
RenewalIsPaid =
    (edit : Edit) (before after : KeyedSource) (merge : Merge Node) (caught : List (ℕ × Told)) → HasDistinctKeys after.tree
    → ((key : ℕ) → is_among (keys_of caught ++ entered_elements merge) key ≡ true → is_among (other_points edit before after) key ≡ true)
    → renewal_weight (evaluated before) (evaluated after) merge caught ≤ work edit before after
