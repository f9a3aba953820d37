-- What the texts of boxes in a volume rest on, box by box and piece by piece (our own).
use Rattle.std.specs.Prelude.{◌≡◌, ℕ, List, [], ◌∷◌, Some, None}
use Rattle.std.specs.List.{AllByRecursion}
use Rattle.std.specs.Option.{option_and_then}
use Rattle.reading.specs.Punctuation.{number_sign}
use Rattle.content_eval.specs.Targets.{Known, flat_text, full_text}
use Rattle.content_eval.specs.declared.generated.Piece.{Piece}
use Rattle.box_eval.specs.declared.made.Made.{Made}
use Rattle.generated_texts.specs.Entries.{box_text}
use Rattle.book_definitions.specs.Aims.{Aim, aim, target}
use Rattle.book_definitions.specs.Chapters.{Chapter, chapter_styles}
use Rattle.book_definitions.specs.Texts.{known_below, known_in_volume, text_in_volume, text_of_box, url_of, with_url}

-- A box none of whose pieces has a url has in each volume the texts that it has in its document, whatever is known of
-- targets.
abbrev pub BoxesWithoutUrlsStandAlone : Type 0
BoxesWithoutUrlsStandAlone =
    (volume : List Chapter) (own : Chapter) (known : Known) (made : Made) → AllByRecursion (λ (refers : Piece). url_of refers ≡ None) made.pieces
    → text_of_box volume own made ≡ box_text (chapter_styles own) known made

-- the text of a piece of a chapter, in flat texts and in full ones

abbrev pub flat_piece : List Chapter → Chapter → Piece → List ℕ
flat_piece volume own refers = text_in_volume volume known_below (flat_text (chapter_styles own)) own refers

abbrev pub full_piece : List Chapter → Chapter → Piece → List ℕ
full_piece volume own refers = text_in_volume volume (known_in_volume volume) (full_text (chapter_styles own)) own refers

-- what is known where each id names the element of one
abbrev pub of_one_target : Known → List ℕ → Known
of_one_target known id = record { counters = λ each. known.counters id; characters = λ each. known.characters id; flat = λ each part. known.flat id part }

-- A piece that aims into a chapter has the text that it has where its one target is known, by whatever id.
abbrev pub PiecesNeedOneTarget : Type 0
PiecesNeedOneTarget =
    (volume : List Chapter) (own : Chapter) (refers : Piece) (found : Aim) → option_and_then (aim volume own) (url_of refers) ≡ Some found
    → (flat_piece volume own refers ≡ flat_text (chapter_styles own) (of_one_target (known_below found.chapter) found.id) (with_url (number_sign ∷ []) refers ∷ []))
    × (full_piece volume own refers ≡ full_text (chapter_styles own) (of_one_target (known_in_volume volume found.chapter) found.id) (with_url (number_sign ∷ []) refers ∷ []))

-- A piece that aims at no element has no text.
abbrev pub PiecesWithoutTargetsAreEmpty : Type 0
PiecesWithoutTargetsAreEmpty =
    (volume : List Chapter) (own : Chapter) (refers : Piece) (url : List ℕ) → url_of refers ≡ Some url → target volume own url ≡ None
    → (flat_piece volume own refers ≡ []) × (full_piece volume own refers ≡ [])
