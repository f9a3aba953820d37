-- The words of a line, as they are read.
use Rattle.std.specs.Prelude.{◌≡◌, ℕ, Bool, false, not, ◌==◌, if◌then◌else◌, IsTrue, List, [], ◌∷◌, ◌++◌}
use Rattle.std.specs.Fmt.{decimal}
use Rattle.std.specs.List.{flat_map, list_all}
use Rattle.reading.specs.Characters.{is_digit}
use Rattle.xml_definitions.specs.Spelling.{IsName}
use Rattle.edit_script.specs.Scripts.{IsPath, IsPosition}

-- a line that a line feed ended, without the carriage return that belongs to its end
abbrev pub without_return : List ℕ → List ℕ
without_return [] = []
without_return (last ∷ []) = if last == 13 then [] else last ∷ []
without_return (first ∷ second ∷ rest) = first ∷ without_return (second ∷ rest)

-- no space stands in it
abbrev pub is_spaceless : List ℕ → Bool
is_spaceless characters = list_all (λ c. not (c == 32)) characters

-- the text is a word, a space, and the rest
pub record IsWordAndRest (text word rest : List ℕ) : Type 0 where
  pub parts : text ≡ word ++ 32 ∷ rest
  pub spaceless : IsTrue (is_spaceless word)

-- the text is two parts with a space between them
abbrev pub AreParts : List ℕ → List ℕ × List ℕ → Type 0
AreParts text parts = text ≡ parts.0 ++ 32 ∷ parts.1

-- the text is this name
pub record IsNameText (text name : List ℕ) : Type 0 where
  pub same : name ≡ text
  pub named : IsName text

-- a name and a value behind it, as far as they are told apart: by the first space, if there is one
pub data IsNameAndValue (text name value : List ℕ) : Type 0 where
  with_value : IsWordAndRest text name value → IsNameAndValue text name value
  without_value : IsTrue (is_spaceless text) → name ≡ text → value ≡ [] → IsNameAndValue text name value

-- the text is this position
pub record IsPositionText (text : List ℕ) (number : ℕ) : Type 0 where
  pub written : text ≡ decimal number
  pub sound : IsPosition number

-- the positions of a path, each behind its slash
abbrev pub positions_text : List ℕ → List ℕ
positions_text path = flat_map (λ position. 47 ∷ decimal position) path

-- the text is the positions of this path
pub record ArePositions (text path : List ℕ) : Type 0 where
  pub written : text ≡ positions_text path
  pub sound : IsPath path

-- These positions stand at the front of the text, and no others do.
pub record HasPositions (text positions rest : List ℕ) : Type 0 where
  pub parts : text ≡ positions_text positions ++ rest
  pub sound : IsPath positions
  pub only : (path : List ℕ) → ArePositions text path → (more : List ℕ) × (path ≡ positions ++ more) × ArePositions rest more

abbrev pub starts_with_digit : List ℕ → Bool
starts_with_digit [] = false
starts_with_digit (first ∷ rest) = is_digit first

-- the text is a slash, this position, and a rest that does not go on with a digit
pub record IsPositionAndRest (text : List ℕ) (number : ℕ) (rest : List ℕ) : Type 0 where
  pub parts : text ≡ 47 ∷ (decimal number ++ rest)
  pub sound : IsPosition number
  pub ends : starts_with_digit rest ≡ false

abbrev pub IsPositionFront : List ℕ → ℕ × List ℕ → Type 0
IsPositionFront text parts = IsPositionAndRest text parts.0 parts.1
