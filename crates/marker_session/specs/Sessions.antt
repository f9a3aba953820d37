-- What a session stands for (our own).
use Rattle.std.specs.Prelude.{◌≡◌, ℕ, List, [], Ok, refl}
use Rattle.std.specs.Coded.{Coded, code_by, coded×, coded_list, coded_ℕ}
use Rattle.changed_lines.specs.Listings.{lines_from_nothing}
use Rattle.changed_lines.specs.declared.changed_line.ChangedLine.{ChangedLine}
use Rattle.dirty_walk.specs.Books.{StyledDocument, keyed_source}
use Rattle.marker_engine.specs.Edited.{edited}
use Rattle.marker_engine.specs.Engines.{source_of}
use Rattle.node_arena.specs.Edits.{IsEdited}
use Rattle.plain_types.specs.declared.edit.Edit.{Edit}
use Rattle.marker_session.specs.declared.listing.Listing.{Listing}
use Rattle.marker_session.specs.declared.listing.Listing.TheVariants.{Listed, Unlisted}

-- a document under its sheet, the lines that are listed, and the bytes of the dump that is kept
pub record OpenDocument : Type 0 where
  pub styled : StyledDocument
  pub listed : List ChangedLine
  pub shown : List ℕ

abbrev pub coded_open_document : Coded StyledDocument → Coded ChangedLine → Coded OpenDocument
coded_open_document styled line =
    code_by
    (StyledDocument × (List ChangedLine × List ℕ))
    (coded× styled (coded× (coded_list line) (coded_list coded_ℕ)))
    (λ document. (document.styled, (document.listed, document.shown)))
    (λ (styled, rest). record { styled = styled; listed = rest.0; shown = rest.1 })
    (λ _. refl)

-- All lines of a document: those of each element in tree order, as if nothing of it had been shown before.
abbrev pub all_lines : StyledDocument → List ChangedLine
all_lines styled = lines_from_nothing (keyed_source styled)

-- an edit makes the one of the other; nodes that stay keep their keys
pub record Does (edit : Edit) (old new : StyledDocument) : Type 0 where
  pub source : edited (source_of old) edit ≡ Ok (source_of new)
  pub keys : IsEdited edit old.tree new.tree

-- what is listed after an edit that changed these lines
abbrev pub listed_after : Listing → List ChangedLine → List ChangedLine
listed_after Listed lines = lines
listed_after Unlisted lines = []
