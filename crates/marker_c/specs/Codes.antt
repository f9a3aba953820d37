-- The numbers of codes, as `include/marker.h` names them (our own).
use Rattle.std.specs.Prelude.{ℕ}

-- the call did what it is for
abbrev pub ok : ℕ
ok = 0

-- memory was wanting
abbrev pub memory : ℕ
memory = 1

-- the document is closed
abbrev pub not_open : ℕ
not_open = 2

-- the document is open
abbrev pub in_use : ℕ
in_use = 3

-- bytes that are no text
abbrev pub not_utf8 : ℕ
not_utf8 = 4

-- a text that is no document
abbrev pub bad_document : ℕ
bad_document = 5

-- a line that is neither an edit nor `show`
abbrev pub bad_line : ℕ
bad_line = 6

-- the line `show`
abbrev pub not_an_edit : ℕ
not_an_edit = 7

-- an edit that is refused: a path leads to no node, or to none that may be edited so, or an index is past the children
abbrev pub no_place : ℕ
no_place = 8

-- an edit that is refused: a node would move into itself
abbrev pub into_itself : ℕ
into_itself = 9

-- the edit is done, and memory was wanting for its list alone
abbrev pub unlisted : ℕ
unlisted = 10
