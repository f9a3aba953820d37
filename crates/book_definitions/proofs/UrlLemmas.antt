-- What holds of each url of a chapter holds of those of its elements and of the boxes that references ask for; and entries
-- are the same where the texts of such boxes are.
use Rattle.std.proofs.Common.{◌≡◌, ◌∷◌, ◌==◌, ℕ, List, [], Option, Some, None, IfSome, ap, ap₂, map, option_and_then, option_map, refl, ◌∙◌, inl, inr}
use Rattle.std.proofs.lemmas.Bool.{cases_Bool}
use Rattle.std.specs.List.{AllByRecursion}
use Rattle.plain_types.specs.declared.content.Part.{Part}
use Rattle.plain_types.specs.declared.content.Part.TheVariants as part
use Rattle.box_eval.specs.declared.element_record.ElementRecord.{ElementRecord}
use Rattle.box_eval.specs.declared.made.Made.{Made}
use Rattle.generated_texts.specs.declared.entry.BoxText.{BoxText}
use Rattle.generated_texts.specs.declared.entry.NodeEntry.{NodeEntry}
use Rattle.generated_texts.specs.Entries.{node_entry}
use Rattle.generated_texts.specs.References.{asked_box, first_holder, kept_at, target_record}
use Rattle.book_definitions.specs.Chapters.{Chapter, chapter_records, chapter_styles}
use Rattle.book_definitions.specs.Laws.{OfEachUrl, OfEachUrlAt, OfEachUrlIn}
use Rattle.book_definitions.specs.Texts.{nothing_known}

-- the box that a reference to this id of a chapter asks for
abbrev pub asked_of : Chapter → List ℕ → Part → Option Made
asked_of chapter id asked = option_and_then (λ (element : ElementRecord). asked_box element asked) (target_record (chapter_styles chapter) chapter.document (chapter_records chapter) id)

-- what is kept of an element, where its boxes have these texts
abbrev pub entry_with : (Made → BoxText) → ElementRecord → NodeEntry
entry_with text element = record (node_entry [] nothing_known element) { marker = option_map text element.marker; before = option_map text element.before; after = option_map text element.after }

abbrev pub entries_with : (Made → BoxText) → List (ℕ × ElementRecord) → List (ℕ × NodeEntry)
entries_with text records = map {B = ℕ × NodeEntry} (λ (element : ℕ × ElementRecord). (element.0, entry_with text element.1)) records

module _ (holds : List ℕ → Type 0) where
  abbrev OfEachRecord : List (ℕ × ElementRecord) → Type 0
  OfEachRecord records = AllByRecursion (λ (element : ℕ × ElementRecord). OfEachUrlAt holds element.1) records

  found_holds : (records : List (ℕ × ElementRecord)) (key : ℕ) → OfEachRecord records → IfSome (kept_at records key) (OfEachUrlAt holds)
  found_holds [] key each = tt
  found_holds (element ∷ records) key each = elim (cases_Bool (element.0 == key)) [
    | inl e ↦ rw e each.0
    | inr e ↦ rw e (found_holds records key each.1)
  ]

  holder_holds : (records : List (ℕ × ElementRecord)) (key : Option ℕ) → OfEachRecord records → IfSome (option_and_then (kept_at records) key) (OfEachUrlAt holds)
  holder_holds records None each = tt
  holder_holds records (Some key) each = found_holds records key each

  box_holds : (asked : Part) (element : Option ElementRecord) → IfSome element (OfEachUrlAt holds)
      → IfSome (option_and_then (λ (element : ElementRecord). asked_box element asked) element) (OfEachUrl holds)
  box_holds asked None each = tt
  box_holds part.Content (Some element) each = tt
  box_holds part.Before (Some element) each = each.before
  box_holds part.After (Some element) each = each.after

  pub asked_holds : (chapter : Chapter) → OfEachUrlIn holds chapter → (id : List ℕ) (asked : Part) → IfSome (asked_of chapter id asked) (OfEachUrl holds)
  asked_holds chapter each id asked =
      box_holds asked (target_record (chapter_styles chapter) chapter.document (chapter_records chapter) id) (holder_holds (chapter_records chapter) (first_holder chapter.document id) each)

  -- two functions that give the same for such boxes
  pub boxes_same : {X : Type 0} (one other : Made → X) → ((made : Made) → OfEachUrl holds made → one made ≡ other made)
      → (box : Option Made) → IfSome box (OfEachUrl holds) → option_map one box ≡ option_map other box
  boxes_same one other same None each = refl
  boxes_same one other same (Some made) each = ap Some (same made each)

  module _ (one other : Made → BoxText) (same : (made : Made) → OfEachUrl holds made → one made ≡ other made) where
    entry_same : (element : ElementRecord) → OfEachUrlAt holds element → entry_with one element ≡ entry_with other element
    entry_same element each =
        ap (λ (made : Option BoxText). record (entry_with one element) { marker = made }) (boxes_same one other same element.marker each.marker)
        ∙ ap₂ (λ (first last : Option BoxText). record (entry_with other element) { before = first; after = last })
        (boxes_same one other same element.before each.before)
        (boxes_same one other same element.after each.after)

    pub entries_same : (records : List (ℕ × ElementRecord)) → OfEachRecord records → entries_with one records ≡ entries_with other records
    entries_same [] each = refl
    entries_same (element ∷ records) each = ap₂ (λ (entry : NodeEntry) (rest : List (ℕ × NodeEntry)). (element.0, entry) ∷ rest) (entry_same element.1 each.0) (entries_same records each.1)
