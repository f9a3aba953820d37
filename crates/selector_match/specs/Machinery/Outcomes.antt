-- What came of matching the left parts of selectors, as it is kept under the keys of elements.
use Rattle.std.specs.Prelude.{◌≡◌, ℕ, nat_eq, false, List, Option, Some, None}
use Rattle.std.specs.List.{All}
use Rattle.std.specs.Map.{lookup}
use Rattle.forest.specs.Forest.{Forest}
use Rattle.forest.specs.Keys.{Keyed}
use Rattle.plain_types.specs.declared.node.Node.{Node}
use Rattle.plain_types.specs.declared.selector.Selector.{Selector}
use Rattle.selector_match.specs.declared.outcomes.LeftPart.{LeftPart}
use Rattle.selector_match.specs.declared.outcomes.PartOutcomes.{PartOutcomes}
use Rattle.selector_match.specs.Elements.{Standing}
use Rattle.selector_match.specs.Machinery.Lookups.{standing_at}
use Rattle.selector_match.specs.Machinery.Walks.{EndsRow, matched_before}

-- the sibling combinators before a place end so before an element, or what is before the place is not matched there
abbrev pub IsOutcome : Selector → ℕ → Standing → Option ℕ → Type 0
IsOutcome selector place element (Some left) = EndsRow selector place element left
IsOutcome selector place element None = matched_before selector place element ≡ false

-- it is the part of this selector before this place
abbrev pub IsFor : Selector → ℕ → LeftPart → Type 0
IsFor selector place part = (part.selector ≡ selector) × (part.place ≡ place)

-- what is kept of elements is so
abbrev pub AreOfPart : Forest (Keyed Node) → PartOutcomes → Type 0
AreOfPart tree outcomes = (key : ℕ) (outcome : Option ℕ) → lookup (nat_eq key) outcomes.by_key.entries ≡ Some outcome
    → IsOutcome outcomes.part.selector outcomes.part.place (standing_at tree key) outcome

abbrev pub AreOutcomes : Forest (Keyed Node) → List PartOutcomes → Type 0
AreOutcomes tree parts = All (AreOfPart tree) parts
