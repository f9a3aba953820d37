-- Where the element of a key stands. Of a key that no element has this says nothing.
use Rattle.std.proofs.Common.{◌≡◌, ℕ, Bool, true, not, Option, [], ◌∷◌, IsSome}
use Rattle.std.specs.Prelude.{unwrap_or, if◌then◌else◌}
use Rattle.forest.specs.Forest.{Forest}
use Rattle.forest.specs.Keys.{Keyed}
use Rattle.forest.specs.Spots.{IsLive, next_sibling_of, previous_sibling_of}
use Rattle.plain_types.specs.declared.node.Node.{Node}
use Rattle.selector_match.specs.Elements.{Standing, standing_of}
use Rattle.selector_match.specs.Positions.{siblings}

-- an element of the document has this key
abbrev pub IsElement : Forest (Keyed Node) → ℕ → Type 0
IsElement tree key = IsSome (standing_of tree key)

-- a node of the document has this key, and is an element
abbrev pub IsElementThere : Forest (Keyed Node) → ℕ → Type 0
IsElementThere tree key = IsLive tree key × IsElement tree key

abbrev pub nowhere : Standing
nowhere = record { level = record { element = record { name = []; attrs = []; is_empty = true }; earlier = []; later = [] }; above = [] }

abbrev pub standing_at : Forest (Keyed Node) → ℕ → Standing
standing_at tree key = unwrap_or (standing_of tree key) nowhere

-- the sibling after a node, or before it
abbrev pub beside_of : Forest (Keyed Node) → Bool → ℕ → Option ℕ
beside_of tree after key = if after then next_sibling_of tree key else previous_sibling_of tree key

-- the second element stands beside the first, after it or before it, and no element stands between
pub record IsBeside (after : Bool) (first second : Standing) : Type 0 where
  pub onward : siblings after first.level ≡ second.level.element ∷ siblings after second.level
  pub back : siblings (not after) second.level ≡ first.level.element ∷ siblings (not after) first.level
  pub above : second.above ≡ first.above

-- the element of this key stands there
pub record IsElementBeside (tree : Forest (Keyed Node)) (after : Bool) (key other : ℕ) : Type 0 where
  pub live : IsLive tree other
  pub element : IsElement tree other
  pub beside : IsBeside after (standing_at tree key) (standing_at tree other)
