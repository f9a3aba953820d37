-- A chapter none of whose urls names a chapter has the texts of its document alone.
use Rattle.std.proofs.Common.{◌≡◌, ◌∷◌, ◌++◌, ℕ, List, [], Option, Some, None, IfSome, ap, ap₂, append-nil, flat_map, option_and_then, option_map, refl, sym, unwrap_or, ◌∙◌}
use Rattle.std.proofs.Math.Path.{fun_ext}
use Rattle.std.specs.List.{AllByRecursion}
use Rattle.std.specs.Option.{option_map_or}
use Rattle.forest.specs.Keys.{HasDistinctKeys, numbered, without_keys}
use Rattle.plain_types.specs.declared.content.Part.{Part}
use Rattle.plain_types.specs.declared.content.Part.TheVariants as part
use Rattle.plain_types.specs.declared.counter_style.CounterStyle.{CounterStyle}
use Rattle.dump_definitions.specs.Dump.{dump}
use Rattle.content_eval.specs.Targets.{Known, flat_text, full_text, piece_text, target_counter, target_counters, target_id}
use Rattle.content_eval.specs.declared.generated.Piece.{Piece}
use Rattle.content_eval.specs.declared.generated.Piece.TheVariants as piece
use Rattle.box_eval.specs.declared.made.Made.{Made}
use Rattle.generated_texts.specs.Entries.{box_text}
use Rattle.generated_texts.specs.Lines.{document_lines, keyed_lines, tree_lines}
use Rattle.generated_texts.specs.References.{kept_at, known_targets}
use Rattle.generated_texts.proofs.EachKeying.{each_keying}
use Rattle.generated_texts.proofs.Rekeyed.{tests_apart}
use Rattle.generated_texts.proofs.RekeyedTexts.{keyed_lines_rekeyed}
use Rattle.book_definitions.specs.Aims.{Address, Aim, address, chapter_at}
use Rattle.book_definitions.specs.Chapters.{Chapter, chapter_records, chapter_styles}
use Rattle.book_definitions.specs.Laws.{ClosedChapterHasItsDump, ClosedChapterHasItsEntries, ClosedChapterHasItsLines, VolumeOfOneChapter, GivesNoName, OfEachUrl, OfEachUrlIn}
use Rattle.book_definitions.specs.Texts.{flat_in_volume, full_in_volume, known_below, known_in_volume, nothing_known, text_in_volume, text_of_box, url_of}
use Rattle.book_definitions.proofs.AimLemmas.{address_of_id, own_address}
use Rattle.book_definitions.proofs.UrlLemmas.{asked_holds, asked_of, boxes_same, entries_same}

module _ (volume : List Chapter) (own : Chapter) (known_of : Chapter → Known) where
  -- A text that a reference has by what is known and the id; it is empty without an id, and where nothing is known.
  module _ (text_at : Known → Option (List ℕ) → List ℕ) (none : (known : Known) → text_at known None ≡ []) (nothing : (id : List ℕ) → text_at nothing_known (Some id) ≡ []) where
    abbrev by_address : List ℕ → Option Address → List ℕ
    by_address url found =
        option_map_or (λ (aimed : Aim). text_at (known_of aimed.chapter) (Some aimed.id) ++ [])
        (option_and_then (λ (found : Address). option_map (λ (chapter : Chapter). record { chapter = chapter; id = found.id }) (chapter_at volume own found.name)) found)
        (text_at nothing_known (target_id url) ++ [])

    where_nothing_is : (id : Option (List ℕ)) → text_at nothing_known id ++ [] ≡ []
    where_nothing_is None = ap (λ text. text ++ []) (none nothing_known)
    where_nothing_is (Some id) = ap (λ text. text ++ []) (nothing id)

    by_id : (url : List ℕ) (id : Option (List ℕ)) → by_address url (option_map own_address id) ≡ text_at (known_of own) id
    by_id url None = where_nothing_is (target_id url) ∙ sym (none (known_of own))
    by_id url (Some id) = append-nil (text_at (known_of own) (Some id))

    closed_reference : (url : List ℕ) → GivesNoName url → by_address url (address url) ≡ text_at (known_of own) (target_id url)
    closed_reference url closed = ap (by_address url) (address_of_id url closed) ∙ by_id url (target_id url)

  -- Pieces, where the boxes of targets have such texts.
  module _ (table : List CounterStyle) (box_at : Part → Known → Option (List ℕ) → List ℕ)
      (none : (part : Part) (known : Known) → box_at part known None ≡ []) (nothing : (part : Part) (id : List ℕ) → box_at part nothing_known (Some id) ≡ []) where
    abbrev text_of : Known → List Piece → List ℕ
    text_of known pieces = flat_map (piece_text table known (λ url part. box_at part known (target_id url))) pieces

    closed_piece : (refers : Piece) → IfSome (url_of refers) GivesNoName
        → text_in_volume volume known_of text_of own refers ≡ piece_text table (known_of own) (λ url part. box_at part (known_of own) (target_id url)) refers
    closed_piece (piece.Chars text) closed = append-nil text
    closed_piece (piece.TargetCounter url name style) closed =
        closed_reference (λ known id. option_map_or (target_counter table name style) (option_and_then known.counters id) []) (λ known. refl) (λ id. refl) url closed
    closed_piece (piece.TargetCounters url name between style) closed =
        closed_reference (λ known id. option_map_or (target_counters table name between style) (option_and_then known.counters id) []) (λ known. refl) (λ id. refl) url closed
    closed_piece (piece.TargetText url part.Content) closed =
        closed_reference (λ known id. option_map_or known.characters id []) (λ known. refl) (λ id. refl) url closed
    closed_piece (piece.TargetText url part.Before) closed = closed_reference (box_at part.Before) (none part.Before) (nothing part.Before) url closed
    closed_piece (piece.TargetText url part.After) closed = closed_reference (box_at part.After) (none part.After) (nothing part.After) url closed

    closed_pieces : (pieces : List Piece) → AllByRecursion (λ (refers : Piece). IfSome (url_of refers) GivesNoName) pieces
        → flat_map (text_in_volume volume known_of text_of own) pieces ≡ text_of (known_of own) pieces
    closed_pieces [] closed = refl
    closed_pieces (refers ∷ pieces) closed = ap₂ (λ text rest. text ++ rest) (closed_piece refers closed.0) (closed_pieces pieces closed.1)

module _ (volume : List Chapter) (own : Chapter) where
  flat_closed : (made : Made) → OfEachUrl GivesNoName made → flat_in_volume volume own made.pieces ≡ flat_text (chapter_styles own) (known_below own) made.pieces
  flat_closed made closed = closed_pieces volume own known_below (chapter_styles own) (λ part known id. []) (λ part known. refl) (λ part id. refl) made.pieces closed

  full_closed : (made : Made) → OfEachUrl GivesNoName made → full_in_volume volume own made.pieces ≡ full_text (chapter_styles own) (known_in_volume volume own) made.pieces
  full_closed made closed =
      closed_pieces volume own (known_in_volume volume) (chapter_styles own) (λ part known id. unwrap_or (option_and_then (λ id. known.flat id part) id) []) (λ part known. refl) (λ part id. refl) made.pieces closed

  module _ (closed : OfEachUrlIn GivesNoName own) where
    abbrev known : Known
    known = known_targets (chapter_styles own) own.document (chapter_records own)

    -- what is known of the chapter in the volume is what is known of its document
    known_closed : known_in_volume volume own ≡ known
    known_closed =
        ap (λ (flat : List ℕ → Part → Option (List ℕ)). record (known_below own) { flat = flat })
        (fun_ext (λ id. fun_ext (λ asked. boxes_same GivesNoName
        (λ (made : Made). flat_in_volume volume own made.pieces)
        (λ (made : Made). flat_text (chapter_styles own) (known_below own) made.pieces)
        flat_closed
        (asked_of own id asked)
        (asked_holds GivesNoName own closed id asked))))

    box_closed : (made : Made) → OfEachUrl GivesNoName made → text_of_box volume own made ≡ box_text (chapter_styles own) known made
    box_closed made closed =
        ap₂ (λ (flat full : List ℕ). record { flat = flat; full = full })
        (flat_closed made closed)
        (full_closed made closed ∙ ap (λ (known : Known). full_text (chapter_styles own) known made.pieces) known_closed)

pub entries_alone : ClosedChapterHasItsEntries
entries_alone volume own closed =
    entries_same GivesNoName (text_of_box volume own) (box_text (chapter_styles own) (known volume own closed)) (box_closed volume own closed) (chapter_records own) closed

pub lines_alone : ClosedChapterHasItsLines
lines_alone volume own closed = ap (λ entries. tree_lines own.document (kept_at entries) own.document) (entries_alone volume own closed)

-- a document has the lines of its tree
lines_of_tree : (own : Chapter) → HasDistinctKeys own.document → keyed_lines own.sheet own.document ≡ document_lines own.sheet (without_keys own.document)
unfolding document_lines
lines_of_tree own distinct =
    let keying = each_keying own.document distinct in
    ap (keyed_lines own.sheet) keying.2 ∙ keyed_lines_rekeyed keying.0 (tests_apart keying.0 keying.1) own.sheet (numbered 0 (without_keys own.document))

pub dump_alone : ClosedChapterHasItsDump
dump_alone volume own distinct closed = ap dump (lines_alone volume own closed ∙ lines_of_tree own distinct)

pub one_chapter : VolumeOfOneChapter
one_chapter own = dump_alone (own ∷ []) own
