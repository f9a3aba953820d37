-- The changed lines of an element, by what a planned edit puts of it (our own).
use Rattle.std.specs.Prelude.{ℕ, Bool, false, List, [], ◌∷◌, Option, Some, None, cond}
use Rattle.std.specs.FinMap.{FinMap}
use Rattle.std.specs.Option.{option_map_or}
use Rattle.std.specs.Ordering.{nat_cmp}
use Rattle.changed_lines.specs.declared.changed_line.ChangedLine.{ChangedLine}
use Rattle.changed_lines.specs.Changes.{element_lines}
use Rattle.kept_elements.specs.declared.kept.Kept.{Kept}
use Rattle.kept_elements.specs.declared.kept_change.KeptChange.{KeptChange}
use Rattle.kept_elements.specs.Changes.{entry_at}

-- something is put, and the element shows another text by it
abbrev pub shows : Option KeptChange → Bool
shows put = option_map_or (λ (change : KeptChange). change.shows_other) put false

-- The node of a key, of which something is put or nothing.
module _ (key : ℕ) where
  -- its key, where what was kept of it before is looked up
  abbrev pub looked_up : Option KeptChange → List ℕ
  looked_up put = cond (shows put) (key ∷ []) []

  -- its lines at a path, where a map holds what was kept before
  abbrev pub put_lines : FinMap nat_cmp Kept → (path : List ℕ) → Option KeptChange → List ChangedLine
  put_lines held path None = []
  put_lines held path (Some change) = cond change.shows_other (element_lines path (entry_at held key) (Some change.kept.entry)) []
