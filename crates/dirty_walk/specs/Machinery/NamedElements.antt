-- The elements that ids name, found before (our own).
use Rattle.std.specs.Prelude.{◌≡◌, ℕ, List, Option}
use Rattle.std.specs.Option.{option_map_or}
use Rattle.forest.specs.Forest.{Forest}
use Rattle.forest.specs.Keys.{Keyed}
use Rattle.plain_types.specs.declared.node.Node.{Node}
use Rattle.generated_texts.specs.References.{first_holder}
use Rattle.referring_elements.specs.declared.first_holders.FirstHolders.{FirstHolders}

-- the first holders, where they were found, are those of the document
abbrev pub AreHoldersOf : Option FirstHolders → Forest (Keyed Node) → Type 0
AreHoldersOf first document = (id : List ℕ) → option_map_or (λ (holders : FirstHolders). first_holder holders.arena.now.tree id) first (first_holder document id) ≡ first_holder document id
