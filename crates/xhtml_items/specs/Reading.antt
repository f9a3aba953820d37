-- What is read from the front of a text: what stands there, if it does, and the characters after it.
use Rattle.std.specs.Prelude.{ℕ, if◌then◌else◌, List, [], ◌∷◌, Option, Some, None}
use Rattle.reading.specs.Reading.{◌then◌, past_text, span}
use Rattle.xml_definitions.specs.Characters.{is_name_start, is_name_character}

-- one way where there is something, and else another
abbrev pub either_way : {A B : Type 0} → Option A → (A → B) → B → B
either_way (Some x) next other = next x
either_way None next other = other

-- a name
unfoldable pub name_at : List ℕ → Option (List ℕ × List ℕ)
name_at [] = None
name_at (c ∷ cs) = if is_name_start c then Some (span is_name_character (c ∷ cs)) else None

abbrev pub with_first : ℕ → List ℕ × List ℕ → Option (List ℕ × List ℕ)
with_first c text = Some (c ∷ text.0, text.1)

-- what stands before the first of these words, and what stands after it
unfoldable pub split_once : List ℕ → List ℕ → Option (List ℕ × List ℕ)
split_once stop [] = None
split_once stop (c ∷ cs) = either_way (past_text stop (c ∷ cs)) (λ rest. Some ([], rest)) (split_once stop cs then λ text. with_first c text)
