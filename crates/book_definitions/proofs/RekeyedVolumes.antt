-- Volumes whose documents have other keys.
use Rattle.std.proofs.Common.{◌≡◌, ◌∷◌, ℕ, List, [], Option, Some, None, ap, ap₂, bytes_eq, flat_map, map, option_and_then, option_map, refl, subst, sym, ◌∙◌}
use Rattle.std.specs.Option.{option_map_or}
use Rattle.std.specs.Prelude.{find}
use Rattle.forest.specs.Forest.{Forest}
use Rattle.forest.specs.Keys.{HasDistinctKeys, Keyed}
use Rattle.plain_types.specs.declared.content.Part.{Part}
use Rattle.plain_types.specs.declared.counter_style.CounterStyle.{CounterStyle}
use Rattle.plain_types.specs.declared.node.Node.{Node}
use Rattle.plain_types.specs.declared.sheet.Sheet.{Sheet}
use Rattle.dump_definitions.specs.Dump.{dump}
use Rattle.reading.specs.Punctuation.{number_sign}
use Rattle.content_eval.specs.Targets.{Known, flat_text, full_text}
use Rattle.content_eval.specs.declared.generated.Piece.{Piece}
use Rattle.box_eval.specs.declared.element_record.ElementRecord.{ElementRecord}
use Rattle.box_eval.specs.declared.made.Made.{Made}
use Rattle.generated_texts.specs.declared.entry.BoxText.{BoxText}
use Rattle.generated_texts.specs.declared.entry.NodeEntry.{NodeEntry}
use Rattle.generated_texts.specs.Documents.{counter_styles, document_evaluation}
use Rattle.generated_texts.specs.Keyings.{KeepsApart, rekeyed, rekeyed_entries, rekeyed_entry, rekeyed_made, rekeyed_record, rekeyed_records}
use Rattle.generated_texts.specs.Lines.{tree_lines}
use Rattle.generated_texts.specs.References.{asked_box, kept_at, known_to_flat_texts, target_record}
use Rattle.generated_texts.proofs.EachKeying.{each_keying}
use Rattle.generated_texts.proofs.ListLemmas.{find_map, flat_map_same, map_map, map_or_map, map_or_same, map_same, option_map_map, then_past}
use Rattle.generated_texts.proofs.Rekeyed.{AreApart, tests_apart}
use Rattle.generated_texts.proofs.RekeyedTexts.{IsRekeyed, asked_rekeyed, evaluation_rekeyed, kept_rekeyed, same_flat, same_full, same_sheet, target_rekeyed, to_flat_rekeyed, trees_rekeyed}
use Rattle.book_definitions.specs.Aims.{Address, Aim, address, aim, chapter_at}
use Rattle.book_definitions.specs.Chapters.{Chapter, chapter_records, chapter_sheet, chapter_styles}
use Rattle.book_definitions.specs.Fresh.{chapter_source, fresh_chapter_lines, numbered_chapter}
use Rattle.book_definitions.specs.Laws.{ChapterDumpIsThatOfTheTrees, ChapterLinesAreThoseOfTheTrees, HaveDistinctKeys}
use Rattle.book_definitions.specs.Lines.{chapter_entries, chapter_entry, chapter_lines}
use Rattle.book_definitions.specs.Texts.{flat_in_volume, full_in_volume, known_below, known_in_volume, nothing_known, text_in_volume, text_of_box, url_of, with_url}

-- a chapter, and other keys for its nodes
record Keying : Type 0 where
  chapter : Chapter
  rekey : ℕ → ℕ
  apart : KeepsApart rekey

-- the chapter under these
abbrev moved : Keying → Chapter
moved keying = record keying.chapter { document = rekeyed keying.rekey keying.chapter.document }

abbrev still : Keying → Chapter
still keying = keying.chapter

-- What a chapter says of its own nodes, under other keys.
module _ (own : Keying) where
  are_apart : AreApart own.rekey
  are_apart = tests_apart own.rekey own.apart

  moved_sheet : chapter_sheet (moved own) ≡ chapter_sheet own.chapter
  moved_sheet = same_sheet own.rekey own.chapter.sheet own.chapter.document

  moved_styles : chapter_styles (moved own) ≡ chapter_styles own.chapter
  moved_styles = ap (λ (sheet : Sheet). counter_styles sheet) moved_sheet

  moved_records : chapter_records (moved own) ≡ rekeyed_records own.rekey (chapter_records own.chapter)
  moved_records =
      ap (λ (sheet : Sheet). document_evaluation sheet (rekeyed own.rekey own.chapter.document)) moved_sheet
      ∙ evaluation_rekeyed own.rekey are_apart (chapter_sheet own.chapter) own.chapter.document

  -- what flat texts rest on
  moved_below : IsRekeyed own.rekey (known_below own.chapter) (known_below (moved own))
  moved_below =
      let same : known_below (moved own) ≡ known_to_flat_texts (chapter_styles own.chapter) (rekeyed own.rekey own.chapter.document) (rekeyed_records own.rekey (chapter_records own.chapter)) =
      ap₂ (λ (table : List CounterStyle) (records : List (ℕ × ElementRecord)). known_to_flat_texts table (rekeyed own.rekey own.chapter.document) records) moved_styles moved_records in
      subst (λ (new : Known). IsRekeyed own.rekey (known_below own.chapter) new) (sym same) (to_flat_rekeyed own.rekey are_apart (chapter_styles own.chapter) own.chapter.document (chapter_records own.chapter))

  moved_target : (id : List ℕ)
      → target_record (chapter_styles (moved own)) (moved own).document (chapter_records (moved own)) id
      ≡ option_map (rekeyed_record own.rekey) (target_record (chapter_styles own.chapter) own.chapter.document (chapter_records own.chapter) id)
  moved_target id =
      ap₂ (λ (table : List CounterStyle) (records : List (ℕ × ElementRecord)). target_record table (rekeyed own.rekey own.chapter.document) records id) moved_styles moved_records
      ∙ target_rekeyed own.rekey are_apart (chapter_styles own.chapter) own.chapter.document (chapter_records own.chapter) id

-- Aims rest on names, which stay.
module _ (keyings : List Keying) where
  abbrev keying_at : Keying → List ℕ → Option Keying
  keying_at own [] = Some own
  keying_at own (first ∷ rest) = find (λ (keying : Keying). bytes_eq (first ∷ rest) keying.chapter.name) keyings

  abbrev keying_aimed : Keying → List ℕ → Option (Keying × List ℕ)
  keying_aimed own url = option_and_then (λ (found : Address). option_map (λ (keying : Keying). (keying, found.id)) (keying_at own found.name)) (address url)

  module _ (side : Keying → Chapter) (named : (keying : Keying) → (side keying).name ≡ keying.chapter.name) where
    side_at : (own : Keying) (name : List ℕ) → chapter_at (map side keyings) (side own) name ≡ option_map side (keying_at own name)
    side_at own [] = refl
    side_at own (first ∷ rest) =
        find_map side (λ (keying : Keying). bytes_eq (first ∷ rest) keying.chapter.name) (λ (chapter : Chapter). bytes_eq (first ∷ rest) chapter.name)
        (λ (keying : Keying). ap (bytes_eq (first ∷ rest)) (named keying)) keyings

    abbrev side_aim : Keying × List ℕ → Aim
    side_aim found = record { chapter = side found.0; id = found.1 }

    aim_of_name : (own : Keying) (id : List ℕ) (found : Option Keying)
        → option_map {U = Aim} (λ (chapter : Chapter). record { chapter = chapter; id = id }) (option_map side found) ≡ option_map side_aim (option_map {U = Keying × List ℕ} (λ (keying : Keying). (keying, id)) found)
    aim_of_name own id None = refl
    aim_of_name own id (Some found) = refl

    aim_of_address : (own : Keying) (found : Option Address)
        → option_and_then {U = Aim} (λ (found : Address). option_map {U = Aim} (λ (chapter : Chapter). record { chapter = chapter; id = found.id }) (chapter_at (map side keyings) (side own) found.name)) found
        ≡ option_map side_aim (option_and_then {U = Keying × List ℕ} (λ (found : Address). option_map {U = Keying × List ℕ} (λ (keying : Keying). (keying, found.id)) (keying_at own found.name)) found)
    aim_of_address own None = refl
    aim_of_address own (Some found) =
        ap (option_map {U = Aim} (λ (chapter : Chapter). record { chapter = chapter; id = found.id })) (side_at own found.name) ∙ aim_of_name own found.id (keying_at own found.name)

    aim_of_url : (own : Keying) (url : Option (List ℕ)) → option_and_then (aim (map side keyings) (side own)) url ≡ option_map side_aim (option_and_then (keying_aimed own) url)
    aim_of_url own None = refl
    aim_of_url own (Some url) = aim_of_address own (address url)

    piece_by_side : (known_of : Chapter → Known) (text : Known → List Piece → List ℕ) (own : Keying) (refers : Piece)
        → text_in_volume (map side keyings) known_of text (side own) refers
        ≡ option_map_or (λ (found : Keying × List ℕ). text (known_of (side found.0)) (with_url (number_sign ∷ found.1) refers ∷ [])) (option_and_then (keying_aimed own) (url_of refers)) (text nothing_known (refers ∷ []))
    piece_by_side known_of text own refers =
        let by_aim : Aim → List ℕ = λ (found : Aim). text (known_of found.chapter) (with_url (number_sign ∷ found.id) refers ∷ []) in
        ap (λ (found : Option Aim). option_map_or by_aim found (text nothing_known (refers ∷ []))) (aim_of_url own (url_of refers))
        ∙ map_or_map side_aim (λ (found : Keying × List ℕ). text (known_of (side found.0)) (with_url (number_sign ∷ found.1) refers ∷ [])) by_aim (λ found. refl)
        (option_and_then (keying_aimed own) (url_of refers)) (text nothing_known (refers ∷ []))

  abbrev old_volume : List Chapter
  old_volume = map still keyings

  abbrev new_volume : List Chapter
  new_volume = map moved keyings

  -- Texts of pieces, where those by what is known under other keys are the same.
  module _ (old_known new_known : Chapter → Known) (text : Known → List Piece → List ℕ)
      (same : (keying : Keying) (pieces : List Piece) → text (new_known (moved keying)) pieces ≡ text (old_known keying.chapter) pieces) where
    piece_moved : (own : Keying) (refers : Piece) → text_in_volume new_volume new_known text (moved own) refers ≡ text_in_volume old_volume old_known text own.chapter refers
    piece_moved own refers =
        piece_by_side moved (λ keying. refl) new_known text own refers
        ∙ map_or_same
        (λ (found : Keying × List ℕ). text (old_known found.0.chapter) (with_url (number_sign ∷ found.1) refers ∷ []))
        (λ (found : Keying × List ℕ). text (new_known (moved found.0)) (with_url (number_sign ∷ found.1) refers ∷ []))
        (λ found. same found.0 (with_url (number_sign ∷ found.1) refers ∷ []))
        (option_and_then (keying_aimed own) (url_of refers)) (text nothing_known (refers ∷ []))
        ∙ sym (piece_by_side still (λ keying. refl) old_known text own refers)

    pieces_moved : (own : Keying) (pieces : List Piece) → flat_map (text_in_volume new_volume new_known text (moved own)) pieces ≡ flat_map (text_in_volume old_volume old_known text own.chapter) pieces
    pieces_moved own pieces = flat_map_same (text_in_volume new_volume new_known text (moved own)) (text_in_volume old_volume old_known text own.chapter) (piece_moved own) pieces

  flat_moved : (own : Keying) (pieces : List Piece) → flat_in_volume new_volume (moved own) pieces ≡ flat_in_volume old_volume own.chapter pieces
  flat_moved own pieces =
      ap (λ (table : List CounterStyle). flat_map (text_in_volume new_volume known_below (flat_text table) (moved own)) pieces) (moved_styles own)
      ∙ pieces_moved known_below known_below (flat_text (chapter_styles own.chapter))
      (λ keying texts. same_flat keying.rekey (chapter_styles own.chapter) (known_below keying.chapter) (known_below (moved keying)) (moved_below keying) texts) own pieces

  abbrev asked_text : List Chapter → Chapter → Part → Option ElementRecord → Option (List ℕ)
  asked_text volume own part element = option_map (λ (made : Made). flat_in_volume volume own made.pieces) (option_and_then (λ (element : ElementRecord). asked_box element part) element)

  known_moved : (own : Keying) → IsRekeyed own.rekey (known_in_volume old_volume own.chapter) (known_in_volume new_volume (moved own))
  known_moved own = record {
    counters = (moved_below own).counters;
    characters = (moved_below own).characters;
    flat =
        λ id part.
        let target = target_record (chapter_styles own.chapter) own.chapter.document (chapter_records own.chapter) id in
        let asked : ElementRecord → Option Made = λ (element : ElementRecord). asked_box element part in
        ap (asked_text new_volume (moved own) part) (moved_target own id)
        ∙ ap (option_map (λ (made : Made). flat_in_volume new_volume (moved own) made.pieces))
        (then_past (rekeyed_record own.rekey) (rekeyed_made own.rekey) asked asked (λ element. asked_rekeyed own.rekey element part) target)
        ∙ option_map_map (rekeyed_made own.rekey) (λ (made : Made). flat_in_volume old_volume own.chapter made.pieces) (λ (made : Made). flat_in_volume new_volume (moved own) made.pieces)
        (λ (made : Made). flat_moved own made.pieces) (option_and_then asked target);
  }

  full_moved : (own : Keying) (pieces : List Piece) → full_in_volume new_volume (moved own) pieces ≡ full_in_volume old_volume own.chapter pieces
  full_moved own pieces =
      ap (λ (table : List CounterStyle). flat_map (text_in_volume new_volume (known_in_volume new_volume) (full_text table) (moved own)) pieces) (moved_styles own)
      ∙ pieces_moved (known_in_volume old_volume) (known_in_volume new_volume) (full_text (chapter_styles own.chapter))
      (λ keying texts. same_full keying.rekey (chapter_styles own.chapter) (known_in_volume old_volume keying.chapter) (known_in_volume new_volume (moved keying)) (known_moved keying) texts) own pieces

  -- Entries and lines.
  module _ (own : Keying) where
    box_moved : (made : Made) → text_of_box new_volume (moved own) (rekeyed_made own.rekey made) ≡ text_of_box old_volume own.chapter made
    box_moved made = ap₂ (λ (flat full : List ℕ). record { flat = flat; full = full }) (flat_moved own made.pieces) (full_moved own made.pieces)

    boxes_moved : (box : Option Made) → option_map (text_of_box new_volume (moved own)) (option_map (rekeyed_made own.rekey) box) ≡ option_map (text_of_box old_volume own.chapter) box
    boxes_moved box = option_map_map (rekeyed_made own.rekey) (text_of_box old_volume own.chapter) (text_of_box new_volume (moved own)) box_moved box

    entry_moved : (element : ElementRecord) → chapter_entry new_volume (moved own) (rekeyed_record own.rekey element) ≡ rekeyed_entry own.rekey (chapter_entry old_volume own.chapter element)
    entry_moved element =
        let old = rekeyed_entry own.rekey (chapter_entry old_volume own.chapter element) in
        let new = chapter_entry new_volume (moved own) (rekeyed_record own.rekey element) in
        ap (λ (marker : Option BoxText). record new { marker = marker }) (boxes_moved element.marker)
        ∙ ap₂ (λ (before after : Option BoxText). record old { before = before; after = after }) (boxes_moved element.before) (boxes_moved element.after)

    entries_moved : chapter_entries new_volume (moved own) ≡ rekeyed_entries own.rekey (chapter_entries old_volume own.chapter)
    entries_moved =
        let rekey = own.rekey in
        let record_moved : ℕ × ElementRecord → ℕ × ElementRecord = λ (element : ℕ × ElementRecord). (rekey element.0, rekeyed_record rekey element.1) in
        let make : ℕ × ElementRecord → ℕ × NodeEntry = λ (element : ℕ × ElementRecord). (element.0, chapter_entry old_volume own.chapter element.1) in
        let make_moved : ℕ × ElementRecord → ℕ × NodeEntry = λ (element : ℕ × ElementRecord). (element.0, chapter_entry new_volume (moved own) element.1) in
        let with_moved : ℕ × NodeEntry → ℕ × NodeEntry = λ (entry : ℕ × NodeEntry). (rekey entry.0, rekeyed_entry rekey entry.1) in
        let records = chapter_records own.chapter in
        ap (map make_moved) (moved_records own)
        ∙ map_map record_moved make_moved records
        ∙ map_same (λ element. make_moved (record_moved element)) (λ element. with_moved (make element)) (λ (element : ℕ × ElementRecord). ap (λ (entry : NodeEntry). (rekey element.0, entry)) (entry_moved element.1)) records
        ∙ sym (map_map make with_moved records)

    lines_moved : chapter_lines new_volume (moved own) ≡ chapter_lines old_volume own.chapter
    lines_moved =
        let entries = chapter_entries old_volume own.chapter in
        let document = own.chapter.document in
        ap (λ all. tree_lines (rekeyed own.rekey document) (kept_at all) (rekeyed own.rekey document)) entries_moved
        ∙ trees_rekeyed own.rekey (are_apart own) document (kept_at entries) (kept_at (rekeyed_entries own.rekey entries)) (kept_rekeyed own.rekey (are_apart own) (rekeyed_entry own.rekey) entries) document

-- Each volume is one of documents without keys, under other keys than places in tree order.

abbrev by_places : Chapter → Chapter
by_places chapter = numbered_chapter (chapter_source chapter)

abbrev keying_of : (chapter : Chapter) → HasDistinctKeys chapter.document → Keying
keying_of chapter distinct = let each = each_keying chapter.document distinct in record { chapter = by_places chapter; rekey = each.0; apart = each.1 }

moved_from_places : (chapter : Chapter) (distinct : HasDistinctKeys chapter.document) → moved (keying_of chapter distinct) ≡ chapter
moved_from_places chapter distinct =
    let each = each_keying chapter.document distinct in
    ap (λ (document : Forest (Keyed Node)). record chapter { document = document }) (sym each.2)

abbrev keyings_of : (volume : List Chapter) → HaveDistinctKeys volume → List Keying
keyings_of [] distinct = []
keyings_of (chapter ∷ volume) distinct = keying_of chapter distinct.0 ∷ keyings_of volume distinct.1

volume_moved : (volume : List Chapter) (distinct : HaveDistinctKeys volume) → map moved (keyings_of volume distinct) ≡ volume
volume_moved [] distinct = refl
volume_moved (chapter ∷ volume) distinct = ap₂ (λ (first : Chapter) rest. first ∷ rest) (moved_from_places chapter distinct.0) (volume_moved volume distinct.1)

volume_still : (volume : List Chapter) (distinct : HaveDistinctKeys volume) → map still (keyings_of volume distinct) ≡ map numbered_chapter (map chapter_source volume)
volume_still [] distinct = refl
volume_still (chapter ∷ volume) distinct = ap (λ rest. by_places chapter ∷ rest) (volume_still volume distinct.1)

pub lines_of_trees : ChapterLinesAreThoseOfTheTrees
unfolding fresh_chapter_lines
lines_of_trees volume own distinct own_distinct =
    let keyings = keyings_of volume distinct in
    let keying = keying_of own own_distinct in
    ap₂ chapter_lines (sym (volume_moved volume distinct)) (sym (moved_from_places own own_distinct))
    ∙ lines_moved keyings keying
    ∙ ap (λ chapters. chapter_lines chapters (by_places own)) (volume_still volume distinct)

pub dump_of_trees : ChapterDumpIsThatOfTheTrees
dump_of_trees volume own distinct own_distinct = ap dump (lines_of_trees volume own distinct own_distinct)
