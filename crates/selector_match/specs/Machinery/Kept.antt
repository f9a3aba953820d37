-- The counts of siblings that are kept under the keys of elements.
use Rattle.std.specs.Prelude.{◌≡◌, ℕ, nat_eq, Bool, true, false, List, Some, if◌then◌else◌, unwrap_or}
use Rattle.std.specs.Borrow.{Bor}
use Rattle.std.specs.Map.{lookup}
use Rattle.std.specs.Str.{bytes_eq}
use Rattle.forest.specs.Forest.{Forest}
use Rattle.forest.specs.Keys.{Keyed}
use Rattle.plain_types.specs.declared.node.Node.{Node}
use Rattle.selector_match.specs.declared.kept.Count.{Count}
use Rattle.selector_match.specs.declared.kept.Kept.{Kept}
use Rattle.selector_match.specs.Positions.{sibling_count}
use Rattle.selector_match.specs.Machinery.Lookups.{standing_at}
use Rattle.selector_match.specs.Machinery.Outcomes.{AreOutcomes}

-- so many siblings count: all, or those of the element's name
abbrev pub count_in : Count → Bool → ℕ
count_in count same_type = if same_type then count.of_type else count.all

-- so many siblings of this element count on this side
abbrev pub IsCount : Forest (Keyed Node) → Bool → ℕ → Count → Type 0
IsCount tree after key count = (same_type : Bool) → count_in count same_type ≡ sibling_count after same_type (standing_at tree key).level

-- what is kept of elements is so
abbrev pub AreCounts : Forest (Keyed Node) → Bool → List (ℕ × Count) → Type 0
AreCounts tree after entries = (key : ℕ) (count : Count) → lookup (nat_eq key) entries ≡ Some count → IsCount tree after key count

-- what is kept on a side
abbrev pub kept_on : Bool → Kept → List (ℕ × Count)
kept_on after kept = if after then kept.later.entries else kept.earlier.entries

-- what is kept on both sides is so, and what came of matching
abbrev pub AreRight : Forest (Keyed Node) → Kept → Type 0
AreRight tree kept = AreCounts tree false kept.earlier.entries × AreCounts tree true kept.later.entries × AreOutcomes tree kept.outcomes.parts.items

-- a name was passed so often
abbrev pub times_passed : List (Bor (List ℕ) × ℕ) → Bor (List ℕ) → ℕ
times_passed passed name = unwrap_or (lookup (λ (other : Bor (List ℕ)). bytes_eq name.now other.now) passed) 0
