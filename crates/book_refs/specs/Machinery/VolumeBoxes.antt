-- The boxes of a chapter's elements, and their texts.
use Rattle.std.specs.Prelude.{◌≡◌, ℕ, ◌+◌, ◌*◌, List, [], Option, None, option_map}
use Rattle.std.specs.Option.{option_and_then, option_map_or}
use Rattle.forest.specs.Spots.{IsLive}
use Rattle.plain_types.specs.declared.box_kind.BoxKind.{BoxKind}
use Rattle.plain_types.specs.declared.box_kind.BoxKind.TheVariants.{Element, Marker, Before, After}
use Rattle.content_eval.specs.declared.generated.Piece.{Piece}
use Rattle.content_eval.specs.declared.generated.Piece.TheVariants as piece
use Rattle.box_eval.specs.declared.element_record.ElementRecord.{ElementRecord}
use Rattle.box_eval.specs.declared.made.Made.{Made}
use Rattle.dirty_walk.specs.FreshPieces.{box_with_pieces}
use Rattle.generated_texts.specs.declared.entry.BoxText.{BoxText}
use Rattle.generated_texts.specs.declared.entry.NodeEntry.{NodeEntry}
use Rattle.generated_texts.specs.Entries.{box_text, document_entries}
use Rattle.generated_texts.specs.References.{kept_at, known_targets}
use Rattle.book_definitions.specs.Chapters.{Chapter, chapter_records, chapter_sheet, chapter_styles}
use Rattle.book_definitions.specs.Texts.{text_of_box}
use Rattle.book_refs.specs.ShowWork.{box_work}

-- the text of a box in an element's entry; its own box has none
abbrev pub text_of : NodeEntry → BoxKind → Option BoxText
text_of entry Element = None
text_of entry Marker = entry.marker
text_of entry Before = entry.before
text_of entry After = entry.after

-- the characters of a piece; one with a url has none of its own
abbrev pub characters_of : Piece → List ℕ
characters_of (piece.Chars text) = text
characters_of (piece.TargetCounter url name style) = []
characters_of (piece.TargetCounters url name between style) = []
characters_of (piece.TargetText url part) = []

module _ (own : Chapter) (key : ℕ) where
  -- what is kept of the element of this key, where its document stands alone
  abbrev pub entry_alone : Option NodeEntry
  entry_alone = kept_at (document_entries (chapter_sheet own) own.document) key

  -- a box of the element
  abbrev pub box_at : BoxKind → Option Made
  box_at kind = option_and_then (λ (element : ElementRecord). box_with_pieces element kind) (kept_at (chapter_records own) key)

  -- its texts where the document stands alone
  abbrev pub text_alone : BoxKind → Option BoxText
  text_alone kind = option_map (box_text (chapter_styles own) (known_targets (chapter_styles own) own.document (chapter_records own))) (box_at kind)

  -- its texts in a volume
  abbrev pub text_in : List Chapter → BoxKind → Option BoxText
  text_in volume kind = option_map (text_of_box volume own) (box_at kind)

-- a node of a chapter's document, of which this is kept where the document stands alone
pub record IsOpenNode (own : Chapter) (key : ℕ) (kept : Option NodeEntry) : Type 0 where
  pub live : IsLive own.document key
  pub entry : kept ≡ entry_alone own key

-- How many steps it takes at most to show the boxes of an element.
module _ (volume : List Chapter) (own : Chapter) where
  abbrev pub shown_at : Option Made → ℕ
  shown_at made = option_map_or (λ (made : Made). 1 + 4 * box_work volume own made) made 1

  -- a box of the element of this key
  abbrev pub box_cost : ℕ → BoxKind → ℕ
  box_cost key kind = shown_at (box_at own key kind)

  -- those before its children, with what is kept of it; and the one behind them
  abbrev pub first_of : ElementRecord → ℕ
  first_of element = 1 + (shown_at element.marker + shown_at element.before)

  abbrev pub first_cost : ℕ → ℕ
  first_cost key = option_map_or first_of (kept_at (chapter_records own) key) 0

  abbrev pub last_cost : ℕ → ℕ
  last_cost key = option_map_or (λ (element : ElementRecord). shown_at element.after) (kept_at (chapter_records own) key) 0
