-- Elements that were added once for all ids that name them (our own).
use Rattle.std.specs.Prelude.{◌≡◌, ℕ, true, is_some, List}
use Rattle.edit_work.specs.KeyedSources.{is_among}
use Rattle.target_index.specs.declared.index.Index.{Index}
use Rattle.target_index.specs.Holders.{is_reference}
use Rattle.referring_elements.specs.ElementsById.{element_of}

-- of each id for which an element is kept, the elements that refer to it are found
abbrev pub AreAdded : Index → (added : List (List ℕ × ℕ)) → (found : List ℕ) → Type 0
AreAdded index added found = (id : List ℕ) → is_some (element_of added id) ≡ true → (key : ℕ) → is_reference index id key ≡ true → is_among found key ≡ true
