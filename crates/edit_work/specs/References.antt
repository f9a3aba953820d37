-- The elements that refer to what an edit touches (our own, over CSS Generated Content 3, 2.6).
use Rattle.std.specs.Prelude.{ℕ, nat_eq, Bool, false, not, ◌||◌, List, filter}
use Rattle.std.specs.List.{list_any}
use Rattle.std.specs.Option.{option_eq, option_map_or}
use Rattle.generated_texts.specs.References.{first_holder}
use Rattle.edit_work.specs.KeyedSources.{KeyedSource, either, elements_in, is_among, references_held}

-- the elements that hold a reference to such an id
abbrev pub elements_referring : (List ℕ → Bool) → KeyedSource → List ℕ
elements_referring names source = filter (λ key. list_any names (references_held source key)) (elements_in source.tree)

module _ (before after : KeyedSource) where
  -- an id names one of these elements, before or after
  abbrev pub names_one : List ℕ → List ℕ → Bool
  names_one keys id =
      option_map_or (is_among keys) (first_holder before.tree id) false
      || option_map_or (is_among keys) (first_holder after.tree id) false

  -- it names another element than before, or one of these
  abbrev pub is_touched_id : List ℕ → List ℕ → Bool
  is_touched_id keys id = not (option_eq nat_eq (first_holder before.tree id) (first_holder after.tree id)) || names_one keys id

  -- the elements that refer to ids touched through these elements, before or after
  abbrev pub referring_first : List ℕ → List ℕ
  referring_first keys = either (elements_referring (is_touched_id keys) before) (elements_referring (is_touched_id keys) after)

  -- the elements that refer to these: the text of a target may itself contain that of another
  abbrev pub referring_second : List ℕ → List ℕ
  referring_second first = either (elements_referring (names_one first) before) (elements_referring (names_one first) after)
