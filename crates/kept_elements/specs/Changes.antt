-- Which entries come to a board (our own).
use Rattle.std.specs.Prelude.{◌≡◌, ◌<◌, ◌≤◌, ◌⊎◌, ℕ, List, [], ◌∷◌, Option, Some, length, map, option_map}
use Rattle.std.specs.Ordering.{nat_cmp}
use Rattle.std.specs.FinMap.{FinMap, get}
use Rattle.std.specs.List.{AllByRecursion}
use Rattle.generated_texts.specs.declared.entry.NodeEntry.{NodeEntry}
use Rattle.merged_walk.specs.Entries.{AreAmong, Covers}
use Rattle.changed_lines.specs.Changes.{shows_other}
use Rattle.surroundings.specs.declared.walked.Walked.{Walked}
use Rattle.kept_elements.specs.declared.kept.Kept.{Kept}
use Rattle.kept_elements.specs.declared.kept_change.KeptChange.{KeptChange}

-- the entry that a map holds under a key
abbrev pub entry_at : FinMap nat_cmp Kept → ℕ → Option NodeEntry
entry_at held key = option_map (λ (kept : Kept). kept.entry) (get held key)

-- what the element of a key was handed, and what was handed on behind its children, as a map holds it
abbrev pub walked_at : FinMap nat_cmp Kept → ℕ → Option Walked
walked_at held key = option_map (λ (kept : Kept). kept.walked) (get held key)

-- this comes to be kept under a key: the element shows another text in a box, or it does not, by what a map holds there, and that
-- tells what the element was handed before
abbrev pub change_from : FinMap nat_cmp Kept → ℕ → Kept → KeptChange
change_from held key kept = record { kept = kept; shows_other = shows_other (entry_at held key) (Some kept.entry); was = walked_at held key }

-- what these changes put under the keys of the elements
abbrev pub puts_of : List (ℕ × KeptChange) → List (ℕ × Kept)
puts_of changes = map (λ (change : ℕ × KeptChange). (change.0, change.1.kept)) changes

-- each tells whether its element shows another text than by what a map holds
abbrev pub TellShown : FinMap nat_cmp Kept → List (ℕ × KeptChange) → Type 0
TellShown held changes =
    AllByRecursion (λ (change : ℕ × KeptChange). change.1.shows_other ≡ shows_other (entry_at held change.0) (Some change.1.kept.entry)) changes

-- each tells what its element was handed before, and what was handed on behind its children: as a map holds it, or none
abbrev pub TellWere : FinMap nat_cmp Kept → List (ℕ × KeptChange) → Type 0
TellWere held changes = AllByRecursion (λ (change : ℕ × KeptChange). change.1.was ≡ walked_at held change.0) changes

-- the entries that a map does not hold, in their order
abbrev pub AreChanges : FinMap nat_cmp Kept → List (ℕ × Kept) → List (ℕ × KeptChange) → Type 0
AreChanges held [] changes = changes ≡ []
AreChanges held (entry ∷ entries) changes =
    ((get held entry.0 ≡ Some entry.1) × AreChanges held entries changes)
    ⊎ ((get held entry.0 ≡ Some entry.1 → ⊥) × ((rest : List (ℕ × KeptChange)) × (changes ≡ (entry.0, change_from held entry.0 entry.1) ∷ rest) × AreChanges held entries rest))

-- each of these is another than what is kept under its key
abbrev pub AreOthers : FinMap nat_cmp Kept → List (ℕ × Kept) → Type 0
AreOthers kept entries = AllByRecursion (λ (entry : ℕ × Kept). get kept entry.0 ≡ Some entry.1 → ⊥) entries

-- what comes to a map of which all this is to be kept: it is of that, and is not held already, and the rest is held; and of
-- each element it is told whether it shows another text
pub record Renews (held : FinMap nat_cmp Kept) (all : List (ℕ × Kept)) (changes : List (ℕ × KeptChange)) : Type 0 where
  pub among : AreAmong (puts_of changes) all
  pub covers : Covers (puts_of changes) (get held) all
  pub others : AreOthers held (puts_of changes)
  pub shown : TellShown held changes
  pub few : length changes ≤ length all

-- all keys are below a room
abbrev pub AreBelow : {V : Type 0} → ℕ → List (ℕ × V) → Type 0
AreBelow {V} room kept = AllByRecursion (λ (entry : ℕ × V). entry.0 < room) kept
