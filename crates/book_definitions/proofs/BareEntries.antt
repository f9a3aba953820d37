-- All that is kept of an element but its texts rests on its document alone.
use Rattle.std.proofs.Common.{◌≡◌, ◌∷◌, ℕ, List, [], Option, Some, None, ap, ap₂, option_map, refl, sym, ◌∙◌}
use Rattle.box_eval.specs.declared.element_record.ElementRecord.{ElementRecord}
use Rattle.box_eval.specs.declared.made.Made.{Made}
use Rattle.generated_texts.specs.declared.entry.BoxText.{BoxText}
use Rattle.generated_texts.specs.declared.entry.NodeEntry.{NodeEntry}
use Rattle.generated_texts.specs.Entries.{box_text}
use Rattle.generated_texts.specs.References.{known_targets}
use Rattle.book_definitions.specs.Chapters.{chapter_records, chapter_styles}
use Rattle.book_definitions.specs.Laws.{OnlyTextsCrossChapters, OtherChaptersChangeOnlyTexts, bare_entries, no_text, without_texts}
use Rattle.book_definitions.specs.Texts.{text_of_box}
use Rattle.book_definitions.proofs.UrlLemmas.{entries_with, entry_with}

-- whatever texts its boxes have
module _ (one other : Made → BoxText) where
  bare_box : (box : Option Made) → option_map no_text (option_map one box) ≡ option_map no_text (option_map other box)
  bare_box None = refl
  bare_box (Some made) = refl

  bare_entry : (element : ElementRecord) → without_texts (entry_with one element) ≡ without_texts (entry_with other element)
  bare_entry element =
      ap (λ (made : Option BoxText). record (without_texts (entry_with one element)) { marker = made }) (bare_box element.marker)
      ∙ ap₂ (λ (first last : Option BoxText). record (without_texts (entry_with other element)) { before = first; after = last }) (bare_box element.before) (bare_box element.after)

  bare_records : (records : List (ℕ × ElementRecord)) → bare_entries (entries_with one records) ≡ bare_entries (entries_with other records)
  bare_records [] = refl
  bare_records (element ∷ records) =
      ap₂ (λ (entry : NodeEntry) (rest : List (ℕ × NodeEntry)). (element.0, entry) ∷ rest) (bare_entry element.1) (bare_records records)

pub only_texts : OnlyTextsCrossChapters
only_texts volume own =
    bare_records (text_of_box volume own) (box_text (chapter_styles own) (known_targets (chapter_styles own) own.document (chapter_records own))) (chapter_records own)

pub others : OtherChaptersChangeOnlyTexts
others volume other own = only_texts volume own ∙ sym (only_texts other own)
