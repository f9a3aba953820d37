-- A text with elements put in (our own). Nothing here knows what a document is.
use Rattle.std.specs.Prelude.{ℕ, List, [], ◌∷◌, ◌++◌, codes}
use Rattle.std.specs.List.{flat_map}
use Rattle.bake_definitions.specs.Insertions.{Insertion}
use Rattle.bake_definitions.specs.Woven.{insertion_text}
use Rattle.xml_definitions.specs.Spelling.{IsName}

-- an insertion into an element of this name, as text
abbrev pub placed_text : List ℕ × Insertion → List ℕ
placed_text placed = insertion_text placed.0 placed.1

-- the names are names of XML
abbrev pub AreNamed : List (List ℕ × Insertion) → Type 0
AreNamed [] = Unit {0}
AreNamed (placed ∷ others) = IsName placed.0 × AreNamed others

-- The second text is the first with insertions, anywhere in it, each as an element of some name would have it; and where at
-- least one stands at a `/>`, this has become `>`, the insertions, and an end tag of some name. That the names are those of
-- the document's elements is said by `IsBaked`, and not here.
pub data IsGrown : List ℕ → List ℕ → Type 0 where
  at_end : IsGrown [] []
  kept : (c : ℕ) {old new : List ℕ} → IsGrown old new → IsGrown (c ∷ old) (c ∷ new)
  put_in : (placed : List ℕ × Insertion) → IsName placed.0 → {old new : List ℕ} → IsGrown old new → IsGrown old (placed_text placed ++ new)
  tag_opened : (name : List ℕ) → IsName name → (first : List ℕ × Insertion) (others : List (List ℕ × Insertion)) → AreNamed (first ∷ others)
      → {old new : List ℕ} → IsGrown old new
      → IsGrown (codes "/>" ++ old) (codes ">" ++ (flat_map placed_text (first ∷ others) ++ (codes "</" ++ name ++ codes ">" ++ new)))
