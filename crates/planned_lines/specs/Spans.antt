-- Parts of a document, in tree order (our own).
use Rattle.std.specs.Prelude.{◌≡◌, ◌≤◌, ℕ, List, true, false}
use Rattle.std.specs.List.{AllByRecursion}
use Rattle.forest.specs.Forest.{Forest}
use Rattle.forest.specs.Keys.{Keyed}
use Rattle.forest.specs.Order.{place_of}
use Rattle.forest.specs.Spots.{IsLive}
use Rattle.plain_types.specs.declared.node.Node.{Node}
use Rattle.kept_elements.specs.declared.kept_change.KeptChange.{KeptChange}
use Rattle.planned_lines.specs.declared.span.Span.{Span}

-- no element shows another text by what is put
abbrev pub ShowNoOthers : List (ℕ × KeptChange) → Type 0
ShowNoOthers puts = AllByRecursion (λ (put : ℕ × KeptChange). put.1.shows_other ≡ false) puts

module _ (document : Forest (Keyed Node)) (span : Span) where
  -- both ends are nodes of the document
  pub record HasEnds : Type 0 where
    pub first : IsLive document span.first
    pub last : IsLive document span.last

  -- a node stands behind the first end and before the last one, or is one of them
  pub record IsWithin (key : ℕ) : Type 0 where
    pub first : place_of document span.first ≤ place_of document key
    pub last : place_of document key ≤ place_of document span.last

  -- all elements stand there that show another text by what is put
  abbrev pub AreWithin : List (ℕ × KeptChange) → Type 0
  AreWithin puts = AllByRecursion (λ (put : ℕ × KeptChange). put.1.shows_other ≡ true → IsWithin put.0) puts
