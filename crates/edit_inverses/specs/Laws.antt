-- That inverse edits undo edits (our own).
use Rattle.std.specs.Prelude.{◌≡◌, ℕ, List, ◌∷◌, None, take}
use Rattle.forest.specs.Forest.{Forest}
use Rattle.plain_types.specs.Tree.{AreSound, IsTree}
use Rattle.plain_types.specs.declared.edit.Edit.{Edit}
use Rattle.plain_types.specs.declared.edit.Edit.TheVariants.{Insert, Remove, Move, SetAttr, UnsetAttr, ReplaceSheet}
use Rattle.plain_types.specs.declared.node.Node.{Node}
use Rattle.node_arena.specs.Edits.{edited, edited_sheet, place_fault}
use Rattle.same_documents.specs.Sameness.{AreSame}
use Rattle.edit_inverses.specs.Inverses.{inverse_of}
use Rattle.edit_inverses.specs.Versions.{HavePlaces, AreSameVersions, IsSameVersion, Version, undoing, version_after, versions_after}

-- what an edit inserts is a tree, as every fragment of an `Edit` is
abbrev pub InsertsTree : Edit → Type 0
InsertsTree (Insert parent index fragment) = IsTree fragment
InsertsTree (Remove path) = Unit {0}
InsertsTree (Move from parent index) = Unit {0}
InsertsTree (SetAttr path name value) = Unit {0}
InsertsTree (UnsetAttr path name) = Unit {0}
InsertsTree (ReplaceSheet text) = Unit {0}

-- the document allows the edit: its elements' attributes have distinct names and its texts have no children, as in every
-- document; what comes is a tree; and the edit has its place
pub record IsAllowed (edit : Edit) (document : Forest Node) : Type 0 where
  pub sound : AreSound document
  pub inserts : InsertsTree edit
  pub place : place_fault edit document ≡ None

-- a law of each edit of a document under the sheet of this text
abbrev pub OfEachEdit : (Edit → Forest Node → List ℕ → Type 0) → Type 0
OfEachEdit law = (edit : Edit) (document : Forest Node) (sheet : List ℕ) → IsAllowed edit document → law edit document sheet

-- The document that an edit makes allows its inverse.
abbrev pub InversesAreAllowed : Type 0
InversesAreAllowed = OfEachEdit (λ edit document sheet. IsAllowed (inverse_of edit document sheet) (edited edit document))

-- The inverse makes of it the same document as before, and the same sheet.
abbrev pub InversesUndo : Type 0
InversesUndo = OfEachEdit (λ edit document sheet. AreSame (edited (inverse_of edit document sheet) (edited edit document)) document)

abbrev pub InversesUndoSheets : Type 0
InversesUndoSheets = OfEachEdit (λ edit document sheet. edited_sheet (inverse_of edit document sheet) (edited_sheet edit sheet) ≡ sheet)

-- What is so of edits that are kept to be done one after the other.

-- From same versions the same edits have their places, and lead to same versions.
abbrev pub SameVersionsHavePlaces : Type 0
SameVersionsHavePlaces = (edits : List Edit) (version other : Version) → IsSameVersion version other → HavePlaces edits version → HavePlaces edits other

abbrev pub SameVersionsLeadToSame : Type 0
SameVersionsLeadToSame = (edits : List Edit) (version other : Version) → IsSameVersion version other → AreSameVersions (versions_after edits version) (versions_after edits other)

-- a law of each edit that a version allows, with edits that are kept of this version
abbrev pub OfEachKept : (Edit → List Edit → Version → Type 0) → Type 0
OfEachKept law = (edit : Edit) (kept : List Edit) (version : Version) → IsAllowed edit version.document → law edit kept version

-- After an edit, its inverse leads back to the version before it, and what was kept of that version leads on from there as
-- it did.
abbrev pub InversesLeadBack : Type 0
InversesLeadBack =
    OfEachKept (λ edit kept version. AreSameVersions (versions_after (undoing edit version ∷ kept) (version_after edit version)) (version ∷ versions_after kept version))

-- All these have their places, where what was kept had.
abbrev pub KeptHavePlaces : Type 0
KeptHavePlaces = OfEachKept (λ edit kept version. HavePlaces kept version → HavePlaces (undoing edit version ∷ kept) (version_after edit version))

-- A prefix of the edits leads to the prefix of the versions of that length, and has its places where all have.
abbrev pub PrefixesLeadToPrefixes : Type 0
PrefixesLeadToPrefixes = (count : ℕ) (edits : List Edit) (version : Version) → versions_after (take count edits) version ≡ take count (versions_after edits version)

abbrev pub PrefixesHavePlaces : Type 0
PrefixesHavePlaces = (count : ℕ) (edits : List Edit) (version : Version) → HavePlaces edits version → HavePlaces (take count edits) version

-- Where no more edits are kept than a depth allows: after an edit its inverse, and what was kept before it, lead back to the
-- version before the edit and on from there, cut to the depth.
abbrev pub NewestLeadBack : Type 0
NewestLeadBack =
    (depth : ℕ) → OfEachKept (λ edit kept version. AreSameVersions (versions_after (take depth (undoing edit version ∷ kept)) (version_after edit version)) (take depth (version ∷ versions_after kept version)))

abbrev pub NewestHavePlaces : Type 0
NewestHavePlaces =
    (depth : ℕ) → OfEachKept (λ edit kept version. HavePlaces kept version → HavePlaces (take depth (undoing edit version ∷ kept)) (version_after edit version))
