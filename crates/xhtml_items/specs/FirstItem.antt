-- What stands at the front of a text.
use Rattle.std.specs.Prelude.{◌≡◌, ℕ, List, ◌++◌}
use Rattle.xml_definitions.specs.Items.{Item}
use Rattle.xml_definitions.specs.Spelling.{Spells}

-- The text begins with characters that spell this item, and goes on with the rest.
pub record BeginsWith (text : List ℕ) (item : Item) (rest : List ℕ) : Type 0 where
  pub front : List ℕ
  pub spelled : Spells front item
  pub parts : text ≡ front ++ rest

-- no item is spelled at the front of the text
abbrev pub BeginsWithNone : List ℕ → Type 0
BeginsWithNone text = (item : Item) (rest : List ℕ) → BeginsWith text item rest → ⊥
