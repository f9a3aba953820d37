-- The texts of boxes in a volume: CSS Generated Content 3, 2.6 "Cross references and the target-* functions". The target of a
-- url may stand in another chapter (our own).
use Rattle.std.specs.Prelude.{ℕ, List, [], ◌∷◌, Option, Some, None, flat_map, option_map}
use Rattle.std.specs.Option.{option_and_then, option_map_or}
use Rattle.reading.specs.Punctuation.{number_sign}
use Rattle.content_eval.specs.Targets.{Known, flat_text, full_text}
use Rattle.content_eval.specs.declared.generated.Piece.{Piece}
use Rattle.content_eval.specs.declared.generated.Piece.TheVariants as piece
use Rattle.box_eval.specs.declared.element_record.ElementRecord.{ElementRecord}
use Rattle.box_eval.specs.declared.made.Made.{Made}
use Rattle.generated_texts.specs.declared.entry.BoxText.{BoxText}
use Rattle.generated_texts.specs.References.{asked_box, known_to_flat_texts, target_record}
use Rattle.book_definitions.specs.Aims.{Aim, aim}
use Rattle.book_definitions.specs.Chapters.{Chapter, chapter_records, chapter_styles}

-- the url of a piece, if it refers to anything
abbrev pub url_of : Piece → Option (List ℕ)
url_of (piece.Chars text) = None
url_of (piece.TargetCounter url name style) = Some url
url_of (piece.TargetCounters url name between style) = Some url
url_of (piece.TargetText url part) = Some url

-- the same piece with another url
abbrev pub with_url : List ℕ → Piece → Piece
with_url url (piece.Chars text) = piece.Chars text
with_url url (piece.TargetCounter old name style) = piece.TargetCounter url name style
with_url url (piece.TargetCounters old name between style) = piece.TargetCounters url name between style
with_url url (piece.TargetText old part) = piece.TargetText url part

-- what is known where there is no target
abbrev pub nothing_known : Known
nothing_known = record { counters = λ id. None; characters = λ id. []; flat = λ id part. None }

-- what flat texts rest on in a chapter: all but flat texts
abbrev pub known_below : Chapter → Known
known_below chapter = known_to_flat_texts (chapter_styles chapter) chapter.document (chapter_records chapter)

module _ (volume : List Chapter) where
  -- The text of a piece of a chapter, by what is known of the elements of each chapter, where `text` gives that of pieces by
  -- what is known in one document. A piece that aims into a chapter has the text of the id alone, by what is known there; one
  -- that aims at nothing has that of a reference without a target.
  abbrev pub text_in_volume : (Chapter → Known) → (Known → List Piece → List ℕ) → Chapter → Piece → List ℕ
  text_in_volume known_of text own refers =
      option_map_or
      (λ (found : Aim). text (known_of found.chapter) (with_url (number_sign ∷ found.id) refers ∷ []))
      (option_and_then (aim volume own) (url_of refers))
      (text nothing_known (refers ∷ []))

  -- The flat text of a box of a chapter. Its counters, also those of targets, are represented by the chapter's own styles.
  abbrev pub flat_in_volume : Chapter → List Piece → List ℕ
  flat_in_volume own pieces = flat_map (text_in_volume known_below (flat_text (chapter_styles own)) own) pieces

  -- what is known of a chapter: its boxes have their flat texts in the volume, represented by its own styles
  abbrev pub known_in_volume : Chapter → Known
  known_in_volume chapter = record (known_below chapter) {
    flat =
        λ id part.
        option_map (λ (made : Made). flat_in_volume chapter made.pieces)
        (option_and_then (λ (element : ElementRecord). asked_box element part) (target_record (chapter_styles chapter) chapter.document (chapter_records chapter) id));
  }

  -- The full text of a box of a chapter: the one that is shown. Its counters are represented by the chapter's own styles, too.
  abbrev pub full_in_volume : Chapter → List Piece → List ℕ
  full_in_volume own pieces = flat_map (text_in_volume known_in_volume (full_text (chapter_styles own)) own) pieces

  -- the texts of a box
  abbrev pub text_of_box : Chapter → Made → BoxText
  text_of_box own made = record { flat = flat_in_volume own made.pieces; full = full_in_volume own made.pieces }
