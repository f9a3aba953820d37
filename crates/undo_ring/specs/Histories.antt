-- What a history of edits stands for (our own).
use Rattle.std.specs.Prelude.{◌≡◌, ◌+◌, ◌≤◌, ℕ, List, length, refl}
use Rattle.std.specs.Coded.{Coded, code_by, coded×, coded_list, coded_ℕ}
use Rattle.forest.specs.Keys.{without_keys}
use Rattle.circular_buffer.specs.Buffer.{Buffer}
use Rattle.plain_types.specs.declared.edit.Edit.{Edit}
use Rattle.plain_types.specs.declared.node.Node.{Node}
use Rattle.dirty_walk.specs.Books.{StyledDocument, coded_styled_document}
use Rattle.edit_inverses.specs.Versions.{HavePlaces, Version, versions_after}

-- the book of a history's engine; how many edits can be undone at most; the edits that undo the last ones, the newest
-- first; and the edits that do again what was undone, the next one first
pub record EditHistory : Type 0 where
  pub book : StyledDocument
  pub depth : ℕ
  pub undos : List Edit
  pub redos : List Edit

abbrev pub coded_history : Coded StyledDocument → Coded Edit → Coded EditHistory
coded_history book edit =
    code_by
    (StyledDocument × (ℕ × (List Edit × List Edit)))
    (coded× book (coded× coded_ℕ (coded× (coded_list edit) (coded_list edit))))
    (λ history. (history.book, (history.depth, (history.undos, history.redos))))
    (λ (book, rest). record { book = book; depth = rest.0; undos = rest.1.0; redos = rest.1.1 })
    (λ _. refl)

-- the document of a book without its keys, and the sheet
abbrev pub version_of : StyledDocument → Version
version_of book = record { document = without_keys book.tree; sheet = book.sheet }

-- the version that a history shows
abbrev pub present : EditHistory → Version
present history = version_of history.book

-- the versions to which its edits can be undone, the newest first
abbrev pub past : EditHistory → List Version
past history = versions_after history.undos (present history)

-- the versions to which they can be redone, the next first
abbrev pub future : EditHistory → List Version
future history = versions_after history.redos (present history)

-- Each edit that a history keeps has its place when its turn comes, and of both kinds together there are no more than its
-- depth.
pub record IsHistory (history : EditHistory) : Type 0 where
  pub undos : HavePlaces history.undos (present history)
  pub redos : HavePlaces history.redos (present history)
  pub few : length history.undos + length history.redos ≤ history.depth

-- the history of a book, with the edits that two rings keep, of which each has room for as many as can be undone
abbrev pub in_rings : StyledDocument → Buffer Edit → Buffer Edit → EditHistory
in_rings book undos redos = record { book = book; depth = undos.capacity; undos = undos.items; redos = redos.items }

pub record AreRings (book : StyledDocument) (undos redos : Buffer Edit) : Type 0 where
  pub rooms : redos.capacity ≡ undos.capacity
  pub holds : IsHistory (in_rings book undos redos)
