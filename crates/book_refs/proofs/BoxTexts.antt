-- The texts of a chapter's boxes, by what is kept of its elements where it stands alone.
use Rattle.std.proofs.Common.{◌≡◌, ◌++◌, ◌≤◌, ◌+◌, ◌*◌, ℕ, Bool, false, List, [], ◌∷◌, Option, Some, None, ap, arith, cond, option_and_then, option_map, count_by, refl, sym, ◌∙◌, inl, inr}
use Rattle.std.proofs.lemmas.Bool.{cases_Bool, or_parts}
use Rattle.std.proofs.lemmas.Option.{none-some, same_Some}
use Rattle.std.specs.List.{AllByRecursion}
use Rattle.std.specs.Option.{option_map_or}
use Rattle.plain_types.specs.declared.box_kind.BoxKind.{BoxKind}
use Rattle.plain_types.specs.declared.box_kind.BoxKind.TheVariants.{Element, Marker, Before, After}
use Rattle.content_eval.specs.declared.generated.Piece.{Piece}
use Rattle.content_eval.specs.declared.generated.Piece.TheVariants as piece
use Rattle.box_eval.specs.declared.element_record.ElementRecord.{ElementRecord}
use Rattle.box_eval.specs.declared.made.Made.{Made}
use Rattle.box_pieces.specs.BoxPieces.{has_url, some_has_url}
use Rattle.dirty_walk.specs.Books.{StyledDocument}
use Rattle.dirty_walk.specs.FreshPieces.{box_with_pieces, fresh_pieces, pieces_to_refer}
use Rattle.generated_texts.specs.Documents.{document_evaluation}
use Rattle.generated_texts.specs.StyleElements.{author_sheet}
use Rattle.book_refs.specs.Volumes.{evaluated_chapter}
use Rattle.generated_texts.specs.declared.entry.BoxText.{BoxText}
use Rattle.generated_texts.specs.declared.entry.NodeEntry.{NodeEntry}
use Rattle.generated_texts.specs.Entries.{box_text, node_entry}
use Rattle.generated_texts.specs.Lines.{first_lines, last_lines, lines_of}
use Rattle.generated_texts.specs.References.{kept_at, known_targets}
use Rattle.kept_elements.proofs.KnownLemmas.{kept_mapped}
use Rattle.book_definitions.specs.BoxLaws.{BoxesWithoutUrlsStandAlone}
use Rattle.book_definitions.specs.Chapters.{Chapter, chapter_records, chapter_styles}
use Rattle.book_definitions.specs.Lines.{chapter_entries, chapter_entry}
use Rattle.book_definitions.specs.Texts.{flat_in_volume, full_in_volume, text_of_box, url_of}
use Rattle.book_refs.specs.Machinery.TargetElements.{own_counters}
use Rattle.book_refs.specs.Machinery.VolumeBoxes.{box_at, box_cost, entry_alone, first_cost, first_of, last_cost, shown_at, text_alone, text_in, text_of}
use Rattle.book_refs.specs.ShowWork.{box_work, element_work, urls_in}

-- Pieces without urls.

url_less : (refers : Piece) → has_url refers ≡ false → url_of refers ≡ None
url_less (piece.Chars text) e = refl
url_less (piece.TargetCounter url name style) e = absurd (cc)
url_less (piece.TargetCounters url name between style) e = absurd (cc)
url_less (piece.TargetText url part) e = absurd (cc)

all_url_less : (pieces : List Piece) → some_has_url pieces ≡ false → AllByRecursion (λ (refers : Piece). url_of refers ≡ None) pieces
all_url_less [] e = tt
all_url_less (refers ∷ pieces) e = let both = or_parts (has_url refers) (some_has_url pieces) e in (url_less refers both.0, all_url_less pieces both.1)

-- what refers of a box: none of its pieces, or all of them
refers_none : (made : Made) → pieces_to_refer made ≡ None → some_has_url made.pieces ≡ false
refers_none made e = elim (cases_Bool (some_has_url made.pieces)) [
  | inl has ↦ absurd (none-some made.pieces (sym e ∙ ap (λ (b : Bool). cond b (Some made.pieces) None) has))
  | inr none ↦ none
]

refers_all : (made : Made) (pieces : List Piece) → pieces_to_refer made ≡ Some pieces → made.pieces ≡ pieces
refers_all made pieces e = elim (cases_Bool (some_has_url made.pieces)) [
  | inl has ↦ same_Some made.pieces pieces (sym (ap (λ (b : Bool). cond b (Some made.pieces) None) has) ∙ e)
  | inr none ↦ absurd (none-some pieces (sym (ap (λ (b : Bool). cond b (Some made.pieces) None) none) ∙ e))
]

-- the pieces of a box that refers, of the chapter for which an engine stands
pub refers_at : (name : List ℕ) (styled : StyledDocument) (key : ℕ) (kind : BoxKind) → fresh_pieces styled key kind ≡ option_and_then pieces_to_refer (box_at (evaluated_chapter name styled) key kind)
refers_at name styled key kind = by (kept_at (document_evaluation (author_sheet styled.sheet styled.tree) styled.tree) key)
  where
    by : (element : Option ElementRecord)
        → option_and_then (λ (element : ElementRecord). option_and_then pieces_to_refer (box_with_pieces element kind)) element
        ≡ option_and_then pieces_to_refer (option_and_then (λ (element : ElementRecord). box_with_pieces element kind) element)
    by None = refl
    by (Some element) = refl

-- A box that refers to nothing has in a volume the texts that it has where its document stands alone; one that does has those
-- of its pieces.
module _ (volume : List Chapter) (own : Chapter) where
  abbrev pub alone_of : Made → BoxText
  alone_of = box_text (chapter_styles own) (known_targets (chapter_styles own) own.document (chapter_records own))

  stands_alone : BoxesWithoutUrlsStandAlone → (made : Option Made) → option_and_then pieces_to_refer made ≡ None → option_map alone_of made ≡ option_map (text_of_box volume own) made
  stands_alone law None e = refl
  stands_alone law (Some made) e =
      ap Some (sym (law volume own (known_targets (chapter_styles own) own.document (chapter_records own)) made (all_url_less made.pieces (refers_none made e))))

  pub kept_alone : BoxesWithoutUrlsStandAlone → (key : ℕ) (kind : BoxKind) → option_and_then pieces_to_refer (box_at own key kind) ≡ None → text_alone own key kind ≡ text_in own key volume kind
  kept_alone law key kind e = stands_alone law (box_at own key kind) e

  told_of : (made : Option Made) (pieces : List Piece) → option_and_then pieces_to_refer made ≡ Some pieces → (box : Made) × (made ≡ Some box) × (box.pieces ≡ pieces)
  told_of None pieces e = absurd (none-some pieces e)
  told_of (Some made) pieces e = (made, refl, refers_all made pieces e)

  pub told_by_pieces : (key : ℕ) (kind : BoxKind) (pieces : List Piece) → option_and_then pieces_to_refer (box_at own key kind) ≡ Some pieces → (box : Made) × (box_at own key kind ≡ Some box) × (box.pieces ≡ pieces)
  told_by_pieces key kind pieces e = told_of (box_at own key kind) pieces e

-- Entries.

module _ (own : Chapter) where
  abbrev made_entry : ElementRecord → NodeEntry
  made_entry = node_entry (chapter_styles own) (known_targets (chapter_styles own) own.document (chapter_records own))

  entry_made : (key : ℕ) → entry_alone own key ≡ option_map made_entry (kept_at (chapter_records own) key)
  entry_made key = kept_mapped made_entry (chapter_records own) key

  text_made : (element : Option ElementRecord) (entry : NodeEntry) (kind : BoxKind) → option_map made_entry element ≡ Some entry
      → text_of entry kind ≡ option_map (box_text (chapter_styles own) (known_targets (chapter_styles own) own.document (chapter_records own))) (option_and_then (λ (element : ElementRecord). box_with_pieces element kind) element)
  text_made None entry kind e = absurd (none-some entry e)
  text_made (Some element) entry kind e = ap (λ (entry : NodeEntry). text_of entry kind) (sym (same_Some (made_entry element) entry e)) ∙ by kind
    where
      by : (kind : BoxKind) → text_of (made_entry element) kind ≡ option_map (box_text (chapter_styles own) (known_targets (chapter_styles own) own.document (chapter_records own))) (box_with_pieces element kind)
      by Element = refl
      by Marker = refl
      by Before = refl
      by After = refl

  pub entry_text : (key : ℕ) (entry : NodeEntry) (kind : BoxKind) → entry_alone own key ≡ Some entry → text_of entry kind ≡ text_alone own key kind
  entry_text key entry kind e = text_made (kept_at (chapter_records own) key) entry kind (sym (entry_made key) ∙ e)

  counters_made : (element : Option ElementRecord) (entry : NodeEntry) → option_map made_entry element ≡ Some entry
      → cond entry.has_box (Some entry.own) None ≡ option_and_then own_counters element
  counters_made None entry e = absurd (none-some entry e)
  counters_made (Some element) entry e = ap (λ (entry : NodeEntry). cond entry.has_box (Some entry.own) None) (sym (same_Some (made_entry element) entry e))

  pub entry_counters : (key : ℕ) (entry : NodeEntry) → entry_alone own key ≡ Some entry → cond entry.has_box (Some entry.own) None ≡ option_and_then own_counters (kept_at (chapter_records own) key)
  entry_counters key entry e = counters_made (kept_at (chapter_records own) key) entry (sym (entry_made key) ∙ e)

  -- Lines and steps.
  module _ (volume : List Chapter) where
    abbrev entry_in : ℕ → Option NodeEntry
    entry_in = kept_at (chapter_entries volume own)

    in_made : (key : ℕ) → entry_in key ≡ option_map (chapter_entry volume own) (kept_at (chapter_records own) key)
    in_made key = kept_mapped (chapter_entry volume own) (chapter_records own) key

    abbrev text_from : Option ElementRecord → BoxKind → Option BoxText
    text_from element kind = option_map (text_of_box volume own) (option_and_then (λ (element : ElementRecord). box_with_pieces element kind) element)

    first_made : (key : ℕ) (element : Option ElementRecord)
        → first_lines own.document (λ _. option_map (chapter_entry volume own) element) key
        ≡ lines_of own.document key Marker (text_from element Marker) ++ lines_of own.document key Before (text_from element Before)
    first_made key None = refl
    first_made key (Some element) = refl

    last_made : (key : ℕ) (element : Option ElementRecord)
        → last_lines own.document (λ _. option_map (chapter_entry volume own) element) key ≡ lines_of own.document key After (text_from element After)
    last_made key None = refl
    last_made key (Some element) = refl

    pub first_lines_are : (key : ℕ)
        → first_lines own.document entry_in key ≡ lines_of own.document key Marker (text_in own key volume Marker) ++ lines_of own.document key Before (text_in own key volume Before)
    first_lines_are key = ap (λ (o : Option NodeEntry). first_lines own.document (λ _. o) key) (in_made key) ∙ first_made key (kept_at (chapter_records own) key)

    pub last_lines_are : (key : ℕ) → last_lines own.document entry_in key ≡ lines_of own.document key After (text_in own key volume After)
    last_lines_are key = ap (λ (o : Option NodeEntry). last_lines own.document (λ _. o) key) (in_made key) ∙ last_made key (kept_at (chapter_records own) key)

    -- a text has no lines
    no_record : (element : Option ElementRecord) → option_map made_entry element ≡ None → element ≡ None
    no_record None e = refl
    no_record (Some element) e = absurd (none-some (made_entry element) (sym e))

    record_missing : (key : ℕ) → entry_alone own key ≡ None → kept_at (chapter_records own) key ≡ None
    record_missing key e = no_record (kept_at (chapter_records own) key) (sym (entry_made key) ∙ e)

    pub first_of_text : (key : ℕ) → entry_alone own key ≡ None → first_lines own.document entry_in key ≡ []
    first_of_text key e = first_lines_are key ∙ ap (λ element. lines_of own.document key Marker (text_from element Marker) ++ lines_of own.document key Before (text_from element Before)) (record_missing key e)

    pub last_of_text : (key : ℕ) → entry_alone own key ≡ None → last_lines own.document entry_in key ≡ []
    last_of_text key e = last_lines_are key ∙ ap (λ element. lines_of own.document key After (text_from element After)) (record_missing key e)

    -- The steps of an element.

    abbrev cost_from : Option ElementRecord → BoxKind → ℕ
    cost_from element kind = shown_at volume own (option_and_then (λ (element : ElementRecord). box_with_pieces element kind) element)

    first_made_cost : (element : Option ElementRecord) (entry : NodeEntry) → option_map made_entry element ≡ Some entry
        → option_map_or (first_of volume own) element 0 ≡ 1 + (cost_from element Marker + cost_from element Before)
    first_made_cost None entry e = absurd (none-some entry e)
    first_made_cost (Some element) entry e = refl

    last_made_cost : (element : Option ElementRecord) (entry : NodeEntry) → option_map made_entry element ≡ Some entry
        → option_map_or (λ (element : ElementRecord). shown_at volume own element.after) element 0 ≡ cost_from element After
    last_made_cost None entry e = absurd (none-some entry e)
    last_made_cost (Some element) entry e = refl

    pub first_costs : (key : ℕ) (entry : NodeEntry) → entry_alone own key ≡ Some entry → first_cost volume own key ≡ 1 + (box_cost volume own key Marker + box_cost volume own key Before)
    first_costs key entry e = first_made_cost (kept_at (chapter_records own) key) entry (sym (entry_made key) ∙ e)

    pub last_costs : (key : ℕ) (entry : NodeEntry) → entry_alone own key ≡ Some entry → last_cost volume own key ≡ box_cost volume own key After
    last_costs key entry e = last_made_cost (kept_at (chapter_records own) key) entry (sym (entry_made key) ∙ e)

    -- all of an element
    both_costs : (element : Option ElementRecord)
        → option_map_or (first_of volume own) element 0 + option_map_or (λ (element : ElementRecord). shown_at volume own element.after) element 0 ≤ 4 * option_map_or (element_work volume own) element 0
    both_costs None = omega arith
    both_costs (Some element) = let marker = box_costs element.marker in let before = box_costs element.before in let after = box_costs element.after in omega (arith, marker, before, after)
      where
        box_costs : (made : Option Made) → shown_at volume own made ≡ 1 + 4 * option_map_or (box_work volume own) made 0
        box_costs None = refl
        box_costs (Some made) = refl

    pub costs_within : (key : ℕ) → first_cost volume own key + last_cost volume own key ≤ 4 * option_map_or (element_work volume own) (kept_at (chapter_records own) key) 0
    costs_within key = both_costs (kept_at (chapter_records own) key)

-- What is read of a box where it has pieces with urls, and where it has none.

pub flat_told : (volume : List Chapter) (own : Chapter) (key : ℕ) (kind : BoxKind) (pieces : List Piece) → option_and_then pieces_to_refer (box_at own key kind) ≡ Some pieces
    → flat_in_volume volume own pieces ≡ option_map_or (λ (made : Made). flat_in_volume volume own made.pieces) (box_at own key kind) []
flat_told volume own key kind pieces e =
    let told = told_by_pieces volume own key kind pieces e in
    ap (flat_in_volume volume own) (sym told.2) ∙ sym (ap (λ (made : Option Made). option_map_or (λ (made : Made). flat_in_volume volume own made.pieces) made []) told.1)

pub full_told : (volume : List Chapter) (own : Chapter) (key : ℕ) (kind : BoxKind) (pieces : List Piece) → option_and_then pieces_to_refer (box_at own key kind) ≡ Some pieces
    → option_map (λ (text : BoxText). text.full) (text_in own key volume kind) ≡ Some (full_in_volume volume own pieces)
full_told volume own key kind pieces e =
    let told = told_by_pieces volume own key kind pieces e in
    ap (λ (made : Option Made). option_map (λ (text : BoxText). text.full) (option_map (text_of_box volume own) made)) told.1 ∙ ap (λ (these : List Piece). Some (full_in_volume volume own these)) told.2

pub urls_told : (volume : List Chapter) (own : Chapter) (key : ℕ) (kind : BoxKind) (pieces : List Piece) → option_and_then pieces_to_refer (box_at own key kind) ≡ Some pieces
    → count_by has_url pieces ≡ urls_in (box_at own key kind)
urls_told volume own key kind pieces e =
    let told = told_by_pieces volume own key kind pieces e in
    ap (count_by has_url) (sym told.2) ∙ sym (ap urls_in told.1)

kept_flat : (volume : List Chapter) (own : Chapter) (made : Option Made) (text : Option BoxText) → text ≡ option_map (text_of_box volume own) made
    → option_map_or (λ (text : BoxText). text.flat) text [] ≡ option_map_or (λ (made : Made). flat_in_volume volume own made.pieces) made []
kept_flat volume own made text e = ap (λ (text : Option BoxText). option_map_or (λ (text : BoxText). text.flat) text []) e ∙ by made
  where
    by : (made : Option Made) → option_map_or (λ (text : BoxText). text.flat) (option_map (text_of_box volume own) made) [] ≡ option_map_or (λ (made : Made). flat_in_volume volume own made.pieces) made []
    by None = refl
    by (Some made) = refl

-- the flat text of a box that has none is kept in its element's entry
pub flat_kept : BoxesWithoutUrlsStandAlone → (volume : List Chapter) (own : Chapter) (key : ℕ) (kind : BoxKind) (entry : NodeEntry) (text : Option BoxText)
    → option_and_then pieces_to_refer (box_at own key kind) ≡ None → Some entry ≡ entry_alone own key → text ≡ text_of entry kind
    → option_map_or (λ (text : BoxText). text.flat) text [] ≡ option_map_or (λ (made : Made). flat_in_volume volume own made.pieces) (box_at own key kind) []
flat_kept law volume own key kind entry text none held is =
    kept_flat volume own (box_at own key kind) text (is ∙ entry_text own key entry kind (sym held) ∙ kept_alone volume own law key kind none)
