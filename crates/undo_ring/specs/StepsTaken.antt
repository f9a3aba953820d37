-- One step back or forth (our own), and the steps of evaluation that it takes.
use Rattle.std.specs.Prelude.{◌≡◌, ◌+◌, ◌*◌, ℕ, ◌∷◌, take, drop}
use Rattle.circular_buffer.specs.Buffer.{Buffer, buffer}
use Rattle.plain_types.specs.declared.edit.Edit.{Edit}
use Rattle.dirty_walk.specs.Books.{StyledDocument}
use Rattle.edit_inverses.specs.Laws.{IsAllowed}
use Rattle.document_walk.specs.Elements.{element_count}
use Rattle.edit_inverses.specs.Versions.{Version, undoing, version_after}
use Rattle.undo_ring.specs.Histories.{version_of}

-- the first edit of one ring is done and gone, and the edit that undoes it comes first in the other
pub record TakesStep (edit : Edit) (old new : StyledDocument) (from rest to more : Buffer Edit) : Type 0 where
  pub allowed : IsAllowed edit (version_of old).document
  pub done : version_of new ≡ version_after edit (version_of old)
  pub taken : rest ≡ buffer (drop 1 from.items) from.capacity
  pub given : more ≡ buffer (take to.capacity (undoing edit (version_of old) ∷ to.items)) to.capacity

-- how many evaluations and records an edit of a version takes at most, whatever its work is
abbrev pub most_steps : Edit → Version → ℕ
most_steps edit version = 12 * element_count (version_after edit version).document + 2 * element_count version.document
