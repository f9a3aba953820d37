-- The versions of a document that the commands of a script go through (our own).
use Rattle.std.specs.Prelude.{ℕ, List, [], ◌∷◌, Option, Some, None, take}
use Rattle.plain_types.specs.declared.edit.Edit.{Edit}
use Rattle.edit_inverses.specs.Versions.{Version, version_after}

-- the version that is there; those to which `undo` leads back, the newest first; and those to which `redo` leads on, the next
-- first
pub record Versions : Type 0 where
  pub present : Version
  pub past : List Version
  pub future : List Version

-- no edit yet
abbrev pub begun : Version → Versions
begun version = record { present = version; past = []; future = [] }

-- An edit leaves the edited version. The one before it comes first of the past, of which as many are kept as the depth says,
-- and there is none to be redone.
abbrev pub edited : ℕ → Edit → Versions → Versions
edited depth edit versions = record {
  present = version_after edit versions.present;
  past = take depth (versions.present ∷ versions.past);
  future = [];
}

-- `undo` leaves the first version of the past, if there is one, and the one before it comes first of the future
abbrev pub stepped_back : Version → (past future : List Version) → Option Versions
stepped_back present [] future = None
stepped_back present (version ∷ past) future = Some (record { present = version; past = past; future = present ∷ future })

abbrev pub undone : Versions → Option Versions
undone versions = stepped_back versions.present versions.past versions.future

-- `redo` leaves the first version of the future, if there is one, and the one before it comes first of the past
abbrev pub stepped_forth : Version → (past future : List Version) → Option Versions
stepped_forth present past [] = None
stepped_forth present past (version ∷ future) = Some (record { present = version; past = present ∷ past; future = future })

abbrev pub redone : Versions → Option Versions
redone versions = stepped_forth versions.present versions.past versions.future
