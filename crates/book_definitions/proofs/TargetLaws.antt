-- The lines of a chapter rest on the chapters at which its urls aim, and on those at which the urls of these aim.
use Rattle.std.proofs.Common.{◌≡◌, ◌≢◌, ◌∷◌, ◌++◌, ℕ, false, List, [], Option, Some, None, IfSome, ap, ap₂, bytes_eq, cond, option_and_then, refl, sym, ◌∙◌, inl, inr}
use Rattle.std.proofs.Math.Path.{fun_ext}
use Rattle.std.proofs.lemmas.Bool.{cases_Bool}
use Rattle.std.proofs.lemmas.Slice.Eq.{bytes_eq-Decides}
use Rattle.std.specs.List.{AllByRecursion}
use Rattle.std.specs.Option.{option_map_or}
use Rattle.plain_types.specs.declared.content.Part.{Part}
use Rattle.reading.specs.Punctuation.{number_sign}
use Rattle.content_eval.specs.Targets.{Known, flat_text, full_text}
use Rattle.content_eval.specs.declared.generated.Piece.{Piece}
use Rattle.box_eval.specs.declared.element_record.ElementRecord.{ElementRecord}
use Rattle.box_eval.specs.declared.made.Made.{Made}
use Rattle.generated_texts.specs.Lines.{tree_lines}
use Rattle.generated_texts.specs.References.{kept_at}
use Rattle.book_definitions.specs.Aims.{Address, Aim, address, aim, chapter_at, chapter_named}
use Rattle.book_definitions.specs.Chapters.{Chapter, chapter_records, chapter_styles}
use Rattle.book_definitions.specs.Laws.{AimsAtTheSame, EditsKeepOtherAims, EditsKeepOtherLines, LinesNeedTheChaptersAimedAt, NamesAnother, OfEachUrl, OfEachUrlAt, OfEachUrlIn, OfUrlAndBehind, with_chapter}
use Rattle.book_definitions.specs.Texts.{flat_in_volume, full_in_volume, known_below, known_in_volume, nothing_known, text_in_volume, text_of_box, url_of, with_url}
use Rattle.book_definitions.proofs.AimLemmas.{aim_needs}
use Rattle.book_definitions.proofs.UrlLemmas.{asked_holds, asked_of, boxes_same, entries_same}

module _ (volume other : List Chapter) where
  module _ (own : Chapter) where
    abbrev Behind : List ℕ → Type 0
    Behind = OfUrlAndBehind volume own (AimsAtTheSame volume other)

    aimed_same : (url : Option (List ℕ)) → IfSome url (AimsAtTheSame volume other own) → option_and_then (aim volume own) url ≡ option_and_then (aim other own) url
    aimed_same None same = refl
    aimed_same (Some url) same = same

    -- the text of a piece by its aim
    abbrev by_aim : (Chapter → Known) → (Known → List Piece → List ℕ) → Piece → Option Aim → List ℕ
    by_aim known_of text refers found =
        option_map_or (λ (found : Aim). text (known_of found.chapter) (with_url (number_sign ∷ found.id) refers ∷ [])) found (text nothing_known (refers ∷ []))

    piece_same : (known_of : Chapter → Known) (text : Known → List Piece → List ℕ) (refers : Piece) → IfSome (url_of refers) (AimsAtTheSame volume other own)
        → text_in_volume volume known_of text own refers ≡ text_in_volume other known_of text own refers
    piece_same known_of text refers same = ap (by_aim known_of text refers) (aimed_same (url_of refers) same)

    flat_pieces_same : (pieces : List Piece) → AllByRecursion (λ (refers : Piece). IfSome (url_of refers) (AimsAtTheSame volume other own)) pieces
        → flat_in_volume volume own pieces ≡ flat_in_volume other own pieces
    flat_pieces_same [] each = refl
    flat_pieces_same (refers ∷ pieces) each =
        ap₂ (λ text rest. text ++ rest) (piece_same known_below (flat_text (chapter_styles own)) refers each.0) (flat_pieces_same pieces each.1)

  -- what is known of a chapter all of whose urls aim at the same
  known_same : (chapter : Chapter) → OfEachUrlIn (AimsAtTheSame volume other chapter) chapter → known_in_volume volume chapter ≡ known_in_volume other chapter
  known_same chapter each =
      ap (λ (flat : List ℕ → Part → Option (List ℕ)). record (known_below chapter) { flat = flat })
      (fun_ext (λ id. fun_ext (λ asked. boxes_same (AimsAtTheSame volume other chapter)
      (λ (made : Made). flat_in_volume volume chapter made.pieces)
      (λ (made : Made). flat_in_volume other chapter made.pieces)
      (λ made same. flat_pieces_same chapter made.pieces same)
      (asked_of chapter id asked)
      (asked_holds (AimsAtTheSame volume other chapter) chapter each id asked))))

  module _ (own : Chapter) where
    known_at : (refers : Piece) (found : Option Aim) → IfSome found (λ (found : Aim). OfEachUrlIn (AimsAtTheSame volume other found.chapter) found.chapter)
        → by_aim own (known_in_volume volume) (full_text (chapter_styles own)) refers found ≡ by_aim own (known_in_volume other) (full_text (chapter_styles own)) refers found
    known_at refers None each = refl
    known_at refers (Some found) each =
        ap (λ (known : Known). full_text (chapter_styles own) known (with_url (number_sign ∷ found.id) refers ∷ [])) (known_same found.chapter each)

    behind_url : (url : Option (List ℕ)) → IfSome url (Behind own) → IfSome (option_and_then (aim volume own) url) (λ (found : Aim). OfEachUrlIn (AimsAtTheSame volume other found.chapter) found.chapter)
    behind_url None each = tt
    behind_url (Some url) each = each.1

    url_itself : (url : Option (List ℕ)) → IfSome url (Behind own) → IfSome url (AimsAtTheSame volume other own)
    url_itself None each = tt
    url_itself (Some url) each = each.0

    full_piece_same : (refers : Piece) → IfSome (url_of refers) (Behind own)
        → text_in_volume volume (known_in_volume volume) (full_text (chapter_styles own)) own refers ≡ text_in_volume other (known_in_volume other) (full_text (chapter_styles own)) own refers
    full_piece_same refers each =
        known_at refers (option_and_then (aim volume own) (url_of refers)) (behind_url (url_of refers) each)
        ∙ piece_same own (known_in_volume other) (full_text (chapter_styles own)) refers (url_itself (url_of refers) each)

    full_pieces_same : (pieces : List Piece) → AllByRecursion (λ (refers : Piece). IfSome (url_of refers) (Behind own)) pieces
        → full_in_volume volume own pieces ≡ full_in_volume other own pieces
    full_pieces_same [] each = refl
    full_pieces_same (refers ∷ pieces) each = ap₂ (λ text rest. text ++ rest) (full_piece_same refers each.0) (full_pieces_same pieces each.1)

    pieces_themselves : (pieces : List Piece) → AllByRecursion (λ (refers : Piece). IfSome (url_of refers) (Behind own)) pieces
        → AllByRecursion (λ (refers : Piece). IfSome (url_of refers) (AimsAtTheSame volume other own)) pieces
    pieces_themselves [] each = tt
    pieces_themselves (refers ∷ pieces) each = (url_itself (url_of refers) each.0, pieces_themselves pieces each.1)

    box_same : (made : Made) → OfEachUrl (Behind own) made → text_of_box volume own made ≡ text_of_box other own made
    box_same made each =
        ap₂ (λ (flat full : List ℕ). record { flat = flat; full = full })
        (flat_pieces_same own made.pieces (pieces_themselves made.pieces each))
        (full_pieces_same made.pieces each)

pub lines_need_chapters : LinesNeedTheChaptersAimedAt
lines_need_chapters volume other own each =
    ap (λ entries. tree_lines own.document (kept_at entries) own.document)
    (entries_same (Behind volume other own) (text_of_box volume own) (text_of_box other own) (box_same volume other own) (chapter_records own) each)

-- Edits of one chapter.

-- what holds of each url, where it follows from what does
module _ (one other : List ℕ → Type 0) (follows : (url : List ℕ) → one url → other url) where
  url_follows : (url : Option (List ℕ)) → IfSome url one → IfSome url other
  url_follows None each = tt
  url_follows (Some url) each = follows url each

  pieces_follow : (pieces : List Piece) → AllByRecursion (λ (refers : Piece). IfSome (url_of refers) one) pieces → AllByRecursion (λ (refers : Piece). IfSome (url_of refers) other) pieces
  pieces_follow [] each = tt
  pieces_follow (refers ∷ pieces) each = (url_follows (url_of refers) each.0, pieces_follow pieces each.1)

  box_follows : (box : Option Made) → IfSome box (OfEachUrl one) → IfSome box (OfEachUrl other)
  box_follows None each = tt
  box_follows (Some made) each = pieces_follow made.pieces each

  records_follow : (records : List (ℕ × ElementRecord)) → AllByRecursion (λ (element : ℕ × ElementRecord). OfEachUrlAt one element.1) records
      → AllByRecursion (λ (element : ℕ × ElementRecord). OfEachUrlAt other element.1) records
  records_follow [] each = tt
  records_follow (element ∷ records) each = (
    record {
      marker = box_follows element.1.marker each.0.marker;
      before = box_follows element.1.before each.0.before;
      after = box_follows element.1.after each.0.after;
    },
    records_follow records each.1,
  )

  chapter_follows : (chapter : Chapter) → OfEachUrlIn one chapter → OfEachUrlIn other chapter
  chapter_follows chapter each = records_follow (chapter_records chapter) each

module _ (new : Chapter) where
  abbrev put : Chapter → Chapter
  put old = cond (bytes_eq new.name old.name) new old

  not_it : (name : List ℕ) → name ≢ new.name → bytes_eq name new.name ≡ false
  not_it name differs = elim (cases_Bool (bytes_eq name new.name)) [
    | inl e ↦ absurd (differs (let decides = bytes_eq-Decides name new.name in decides.0 e))
    | inr e ↦ e
  ]

  found_same : (name : List ℕ) → name ≢ new.name → (volume : List Chapter) → chapter_named volume name ≡ chapter_named (with_chapter volume new) name
  found_same name differs [] = refl
  found_same name differs (old ∷ volume) = elim (cases_Bool (bytes_eq new.name old.name)) [
    | inl e ↦
        let same : new.name ≡ old.name = (let decides = bytes_eq-Decides new.name old.name in decides.0 e) in
        let not_new : bytes_eq name new.name ≡ false = not_it name differs in
        let not_old : bytes_eq name old.name ≡ false = ap (bytes_eq name) (sym same) ∙ not_new in
        rw (e, not_new, not_old) (found_same name differs volume)
    | inr e ↦ rw e (ap (λ rest. cond (bytes_eq name old.name) (Some old) rest) (found_same name differs volume))
  ]

  at_same : (volume : List Chapter) (own : Chapter) (name : List ℕ) → name ≢ new.name → chapter_at volume own name ≡ chapter_at (with_chapter volume new) own name
  at_same volume own [] differs = refl
  at_same volume own (first ∷ rest) differs = found_same (first ∷ rest) differs volume

  address_same : (volume : List Chapter) (own : Chapter) (found : Option Address) → IfSome found (λ (found : Address). found.name ≢ new.name)
      → IfSome found (λ (found : Address). chapter_at volume own found.name ≡ chapter_at (with_chapter volume new) own found.name)
  address_same volume own None differs = tt
  address_same volume own (Some found) differs = at_same volume own found.name differs

pub aims_kept : EditsKeepOtherAims
aims_kept volume own new url another = let same = aim_needs volume (with_chapter volume new) own own url (address_same new volume own (address url) another) in same.0

module _ (volume : List Chapter) (new : Chapter) where
  behind_kept : (found : Option Aim) → IfSome found (λ (found : Aim). OfEachUrlIn (NamesAnother new.name) found.chapter)
      → IfSome found (λ (found : Aim). OfEachUrlIn (AimsAtTheSame volume (with_chapter volume new) found.chapter) found.chapter)
  behind_kept None each = tt
  behind_kept (Some found) each =
      chapter_follows (NamesAnother new.name) (AimsAtTheSame volume (with_chapter volume new) found.chapter) (λ url another. aims_kept volume found.chapter new url another) found.chapter each

  kept : (own : Chapter) (url : List ℕ) → OfUrlAndBehind volume own (λ chapter. NamesAnother new.name) url → OfUrlAndBehind volume own (AimsAtTheSame volume (with_chapter volume new)) url
  kept own url each = (aims_kept volume own new url each.0, behind_kept (aim volume own url) each.1)

pub lines_kept : EditsKeepOtherLines
lines_kept volume own new each =
    lines_need_chapters volume (with_chapter volume new) own
    (chapter_follows (OfUrlAndBehind volume own (λ chapter. NamesAnother new.name)) (OfUrlAndBehind volume own (AimsAtTheSame volume (with_chapter volume new))) (kept volume new own) own each)
