-- What is kept of elements, as laws (our own).
use Rattle.std.specs.Prelude.{◌≡◌, ℕ, List, Option, option_map}
use Rattle.std.specs.Ordering.{nat_cmp}
use Rattle.std.specs.FinMap.{FinMap, get}
use Rattle.merged_walk.specs.Entries.{put_over}
use Rattle.surroundings.specs.declared.told.Told.{Told}
use Rattle.surroundings.specs.declared.walked.Walked.{Walked}
use Rattle.snapshot_board.specs.Records.{put_all, take_all}
use Rattle.zero_walks.specs.Told.{walked_of}

-- of each element of which something is told, what it was handed and what was handed on behind its children is kept; nothing of
-- others
abbrev pub KeepsWalks : FinMap nat_cmp Walked → (ℕ → Option Told) → Type 0
KeepsWalks held told = (key : ℕ) → get held key ≡ option_map (λ (told : Told). told.walked) (told key)

-- what is kept goes with what is told: so it is too once some elements went and then changes came
abbrev pub KeepsWhatIsTold : Type 0
KeepsWhatIsTold =
    (held : FinMap nat_cmp Walked) (told : ℕ → Option Told) (changes : List (ℕ × Told)) (takes : List ℕ)
    → KeepsWalks held told → KeepsWalks (put_all (walked_of changes) (take_all takes held)) (put_over changes takes told)
