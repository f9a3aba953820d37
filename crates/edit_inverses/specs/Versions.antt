-- Versions of a document and its sheet, and where edits lead from them (our own).
use Rattle.std.specs.Prelude.{◌≡◌, ℕ, List, [], ◌∷◌, None}
use Rattle.forest.specs.Forest.{Forest}
use Rattle.plain_types.specs.declared.edit.Edit.{Edit}
use Rattle.plain_types.specs.declared.node.Node.{Node}
use Rattle.node_arena.specs.Edits.{edited, edited_sheet, place_fault}
use Rattle.same_documents.specs.Sameness.{AreSame}
use Rattle.edit_inverses.specs.Inverses.{inverse_of}

-- a document, and the text of its sheet
pub record Version : Type 0 where
  pub document : Forest Node
  pub sheet : List ℕ

-- the versions are equal but for the order of the attributes of each element
pub record IsSameVersion (version other : Version) : Type 0 where
  pub document : AreSame version.document other.document
  pub sheet : version.sheet ≡ other.sheet

-- so they are one by one
abbrev pub AreSameVersions : List Version → List Version → Type 0
AreSameVersions [] [] = Unit {0}
AreSameVersions (version ∷ versions) (other ∷ others) = IsSameVersion version other × AreSameVersions versions others
AreSameVersions _ _ = ⊥

-- what an edit makes of a version
abbrev pub version_after : Edit → Version → Version
version_after edit version = record { document = edited edit version.document; sheet = edited_sheet edit version.sheet }

-- the versions to which these edits lead, one after the other
abbrev pub versions_after : List Edit → Version → List Version
versions_after [] version = []
versions_after (edit ∷ edits) version = version_after edit version ∷ versions_after edits (version_after edit version)

-- each of these edits has its place where those before it lead
abbrev pub HavePlaces : List Edit → Version → Type 0
HavePlaces [] version = Unit {0}
HavePlaces (edit ∷ edits) version = (place_fault edit version.document ≡ None) × HavePlaces edits (version_after edit version)

-- the edit that undoes an edit of this version
abbrev pub undoing : Edit → Version → Edit
undoing edit version = inverse_of edit version.document version.sheet
