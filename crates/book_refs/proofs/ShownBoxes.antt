-- The line of a box that is shown.
use Rattle.std.proofs.Common.{◌≡◌, ℕ, List, Option, Some, None, ap, ap₂, append-nil, encode_utf8_all, option_and_then, option_map, sym, ◌∙◌}
use Rattle.std.proofs.lemmas.Option.{none-some, same_Some}
use Rattle.forest.specs.Forest.{Forest}
use Rattle.forest.specs.Keys.{Keyed}
use Rattle.forest.specs.Paths.{path_of}
use Rattle.plain_types.specs.declared.box_kind.BoxKind.{BoxKind}
use Rattle.plain_types.specs.declared.node.Node.{Node}
use Rattle.dump_definitions.specs.Dump.{dump, line_text}
use Rattle.content_eval.specs.declared.generated.Piece.{Piece}
use Rattle.dirty_walk.specs.FreshPieces.{pieces_to_refer}
use Rattle.generated_texts.specs.declared.entry.BoxText.{BoxText}
use Rattle.generated_texts.specs.Lines.{lines_of}
use Rattle.book_definitions.specs.BoxLaws.{BoxesWithoutUrlsStandAlone}
use Rattle.book_definitions.specs.Chapters.{Chapter}
use Rattle.book_definitions.specs.Texts.{full_in_volume}
use Rattle.book_refs.specs.Machinery.VolumeBoxes.{box_at, text_alone, text_in}
use Rattle.book_refs.proofs.BoxTexts.{full_told, kept_alone}

module _ (volume : List Chapter) (own : Chapter) (key : ℕ) (kind : BoxKind) where
  abbrev shown_bytes : Option BoxText → List ℕ
  shown_bytes text = dump (lines_of own.document key kind text)

  abbrev line_bytes : List ℕ → List ℕ → List ℕ
  line_bytes path text = encode_utf8_all (line_text (record { path = path; kind = kind; text = text }))

  shown_line : (path full : List ℕ) (text : Option BoxText) → path ≡ path_of own.document key → option_map (λ (text : BoxText). text.full) text ≡ Some full → line_bytes path full ≡ shown_bytes text
  shown_line path full None at is = absurd (none-some full is)
  shown_line path full (Some text) at is =
      ap₂ line_bytes at (sym (same_Some text.full full is))
      ∙ ap encode_utf8_all (sym (append-nil (line_text (record { path = path_of own.document key; kind = kind; text = text.full }))))

  -- of a box that has pieces with urls
  pub told_line : (path full : List ℕ) (document : Forest (Keyed Node)) (pieces : List Piece) → path ≡ path_of document key → document ≡ own.document
      → Some pieces ≡ option_and_then pieces_to_refer (box_at own key kind) → full ≡ full_in_volume volume own pieces → line_bytes path full ≡ shown_bytes (text_in own key volume kind)
  told_line path full document pieces at same refers told =
      shown_line path full (text_in own key volume kind) (at ∙ ap (λ (d : Forest (Keyed Node)). path_of d key) same)
      (full_told volume own key kind pieces (sym refers) ∙ ap Some (sym told))

  -- of one that has none
  pub kept_line : BoxesWithoutUrlsStandAlone → (path : List ℕ) (document : Forest (Keyed Node)) (given : Option BoxText) (text : BoxText) → path ≡ path_of document key → document ≡ own.document
      → None ≡ option_and_then pieces_to_refer (box_at own key kind) → given ≡ text_alone own key kind → given ≡ Some text → line_bytes path text.full ≡ shown_bytes (text_in own key volume kind)
  kept_line law path document given text at same refers held is =
      shown_line path text.full (text_in own key volume kind) (at ∙ ap (λ (d : Forest (Keyed Node)). path_of d key) same)
      (ap (option_map (λ (text : BoxText). text.full)) (sym (kept_alone volume own law key kind (sym refers)) ∙ sym held ∙ is))
