-- Where edits that are kept lead.
use Rattle.std.proofs.Common.{ℕ, zero, suc, List, [], ◌∷◌, take, refl, sym, ap, subst, ◌∙◌}
use Rattle.plain_types.specs.declared.edit.Edit.{Edit}
use Rattle.node_arena.specs.Edits.{edited_sheet}
use Rattle.same_documents.proofs.SameEdits.{same_edited, same_fault, same_sym}
use Rattle.edit_inverses.specs.Laws.{InversesLeadBack, IsAllowed, KeptHavePlaces, NewestHavePlaces, NewestLeadBack, PrefixesHavePlaces, PrefixesLeadToPrefixes, SameVersionsHavePlaces, SameVersionsLeadToSame}
use Rattle.edit_inverses.specs.Versions.{AreSameVersions, IsSameVersion, Version, undoing, version_after, versions_after}
use Rattle.edit_inverses.proofs.InverseLaws.{inverses_allowed, inverses_undo, inverses_undo_sheets}

after_same : (edit : Edit) (version other : Version) → IsSameVersion version other → IsSameVersion (version_after edit version) (version_after edit other)
after_same edit version other same = record { document = same_edited edit version.document other.document same.document; sheet = ap (edited_sheet edit) same.sheet }

version_sym : (version other : Version) → IsSameVersion version other → IsSameVersion other version
version_sym version other same = record { document = same_sym version.document other.document same.document; sheet = sym same.sheet }

pub allow_same : SameVersionsHavePlaces
allow_same [] version other same allowed = tt
allow_same (edit ∷ edits) version other same allowed = (
  sym (same_fault edit version.document other.document same.document) ∙ allowed.0,
  allow_same edits (version_after edit version) (version_after edit other) (after_same edit version other same) allowed.1,
)

pub lead_same : SameVersionsLeadToSame
lead_same [] version other same = tt
lead_same (edit ∷ edits) version other same =
    let next = after_same edit version other same in (next, lead_same edits (version_after edit version) (version_after edit other) next)

-- the inverse leads back
leads_back : (edit : Edit) (version : Version) → IsAllowed edit version.document → IsSameVersion (version_after (undoing edit version) (version_after edit version)) version
leads_back edit version allowed = record { document = inverses_undo edit version.document version.sheet allowed; sheet = inverses_undo_sheets edit version.document version.sheet allowed }

pub lead_back : InversesLeadBack
lead_back edit kept version allowed =
    let back = leads_back edit version allowed in (back, lead_same kept (version_after (undoing edit version) (version_after edit version)) version back)

pub stay_allowed : KeptHavePlaces
stay_allowed edit kept version allowed were =
    let again = version_after (undoing edit version) (version_after edit version) in (
      (inverses_allowed edit version.document version.sheet allowed).place,
      allow_same kept version again (version_sym again version (leads_back edit version allowed)) were,
    )

pub prefix_versions : PrefixesLeadToPrefixes
prefix_versions zero edits version = refl
prefix_versions (suc count) [] version = refl
prefix_versions (suc count) (edit ∷ edits) version = ap (λ rest. version_after edit version ∷ rest) (prefix_versions count edits (version_after edit version))

pub prefix_places : PrefixesHavePlaces
prefix_places zero edits version allowed = tt
prefix_places (suc count) [] version allowed = tt
prefix_places (suc count) (edit ∷ edits) version allowed = (allowed.0, prefix_places count edits (version_after edit version) allowed.1)

-- prefixes of versions that are the same are the same
cut_same : (count : ℕ) (versions others : List Version) → AreSameVersions versions others → AreSameVersions (take count versions) (take count others)
cut_same zero versions others same = tt
cut_same (suc count) [] [] same = tt
cut_same (suc count) [] (other ∷ others) same = absurd same
cut_same (suc count) (version ∷ versions) [] same = absurd same
cut_same (suc count) (version ∷ versions) (other ∷ others) same = (same.0, cut_same count versions others same.1)

pub newest_back : NewestLeadBack
newest_back depth edit kept version allowed =
    let after = version_after edit version in
    let all : List Edit = undoing edit version ∷ kept in
    subst (λ versions. AreSameVersions versions (take depth (version ∷ versions_after kept version))) (sym (prefix_versions depth all after))
    (cut_same depth (versions_after all after) (version ∷ versions_after kept version) (lead_back edit kept version allowed))

pub newest_places : NewestHavePlaces
newest_places depth edit kept version allowed were =
    prefix_places depth (undoing edit version ∷ kept) (version_after edit version) (stay_allowed edit kept version allowed were)
