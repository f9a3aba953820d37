-- What becomes of the texts of a document where the changed lines are put in (our own).
use Rattle.std.specs.Prelude.{ℕ, ◌&&◌, Bool, List, Option, find}
use Rattle.std.specs.Option.{option_map_or}
use Rattle.std.specs.Str.{bytes_eq}
use Rattle.plain_types.specs.declared.box_kind.BoxKind.{BoxKind}
use Rattle.counter_sets.specs.Sets.{is_same_kind}
use Rattle.changed_lines.specs.declared.changed_line.ChangedLine.{ChangedLine}

-- the line tells of this box of the element at this path
abbrev pub tells_of : List ℕ → BoxKind → ChangedLine → Bool
tells_of path kind line = bytes_eq line.path path && is_same_kind line.kind kind

-- the text of a box once the lines are put in: what the line that tells of it says, and where none does the text that it had
abbrev pub put_in : List ChangedLine → List ℕ → BoxKind → Option (List ℕ) → Option (List ℕ)
put_in lines path kind had = option_map_or (λ (line : ChangedLine). line.text) (find (tells_of path kind) lines) had
