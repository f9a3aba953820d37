-- The references of the elements of an edited document, by what is held of them and what is told.
use Rattle.std.proofs.Common.{◌≡◌, ◌∙◌, ◌⊎◌, ℕ, nat_eq, Bool, true, false, not, ◌&&◌, ◌||◌, List, [], ◌∷◌, ◌++◌, Option, Some, None, refl, sym, ap, ap₂, inl, inr}
use Rattle.std.specs.Prelude.{Contains, is_some, option_map}
use Rattle.std.specs.Cmp.{nat_eq_equiv}
use Rattle.std.specs.FinMap.{FinMap, get}
use Rattle.std.specs.List.{list_any}
use Rattle.std.specs.Option.{option_and_then, option_map_or}
use Rattle.std.specs.Ordering.{nat_cmp}
use Rattle.std.proofs.lemmas.Bool.{both_ways, cases_Bool, true≢false}
use Rattle.std.proofs.lemmas.List.Elements.{All-contains, All-weaker}
use Rattle.forest.specs.Forest.{Forest}
use Rattle.forest.specs.Keys.{Keyed, HasDistinctKeys}
use Rattle.plain_types.specs.declared.node.Node.{Node}
use Rattle.plain_types.specs.declared.sheet.Sheet.{Sheet}
use Rattle.node_arena.specs.Nodes.{name_of}
use Rattle.content_eval.specs.Targets.{Known}
use Rattle.box_eval.specs.declared.element_record.ElementRecord.{ElementRecord}
use Rattle.box_eval.specs.declared.made.Made.{Made}
use Rattle.box_pieces.specs.BoxPieces.{has_urls, pieces_in, pieces_with_urls}
use Rattle.generated_texts.specs.Documents.{counter_styles}
use Rattle.generated_texts.specs.References.{kept_at, known_targets}
use Rattle.edit_work.specs.KeyedSources.{is_among, references_of}
use Rattle.edit_work.specs.KeyedSources.{references_in as references_made}
use Rattle.merged_walk.specs.Entries.{AreAmong, Covers, first_at}
use Rattle.surroundings.specs.declared.told.Told.{Told}
use Rattle.reference_reach.specs.ChangedTargets.{references_at}
use Rattle.kept_elements.specs.declared.kept.Kept.{Kept}
use Rattle.kept_elements.specs.Renewals.{is_told}
use Rattle.kept_elements.specs.Evaluations.{document_kept, document_told, evaluated_document, kept_of}
use Rattle.referring_elements.specs.References.{said_of}
use Rattle.dirty_walk.specs.Machinery.ReferenceExchanges.{ChangesReferences, references_in, references_kept, references_of_boxes}
use Rattle.kept_elements.proofs.KnownLemmas.{kept_mapped}
use Rattle.kept_elements.proofs.NoReferences.{without_urls}
use Rattle.kept_elements.proofs.RenewalLemmas.{at_first, key_there, kept_there, once_there}
use Rattle.kept_elements.proofs.ToldLemmas.{kept_keys, told_once}

-- Pieces that are kept refer to the ids to which the boxes refer.

in_box : (made : Option Made) → references_in (option_map pieces_in made) ≡ references_made made
in_box None = refl
in_box (Some made) = refl

pub pieces_refer : (said : ElementRecord) → option_map_or references_of_boxes (pieces_with_urls said) [] ≡ references_of said
pieces_refer said = elim (cases_Bool (has_urls said)) [
  | inl e ↦
      rw e (ap₂ (λ (first rest : List (List ℕ)). first ++ rest) (in_box said.marker) (ap₂ (λ (first rest : List (List ℕ)). first ++ rest) (in_box said.before) (in_box said.after)))
  | inr e ↦ rw e (sym (without_urls said e))
]

module _ (author : Sheet) (document : Forest (Keyed Node)) where
  abbrev told_of_it : List (ℕ × Told)
  told_of_it = document_told author document

  abbrev known : Known
  known = known_targets (counter_styles author) document (said_of told_of_it)

  -- what an element refers to, by what is told of it
  abbrev refers_by : Option Told → List (List ℕ)
  refers_by told = option_map_or (λ (one : Told). references_of one.said) told []

  pub references_told : (key : ℕ) → references_at (evaluated_document author document) key ≡ refers_by (kept_at told_of_it key)
  references_told key =
      ap (λ (o : Option ElementRecord). option_map_or references_of o []) (kept_mapped (λ (one : Told). one.said) told_of_it key) ∙ by (kept_at told_of_it key)
    where
      by : (o : Option Told) → option_map_or references_of (option_map (λ (one : Told). one.said) o) [] ≡ refers_by o
      by None = refl
      by (Some one) = refl

  -- where a board holds what is kept of the document
  pub references_held : (held : FinMap nat_cmp Kept) → ((key : ℕ) → get held key ≡ kept_at (document_kept author document) key)
      → (key : ℕ) → references_kept held key ≡ references_at (evaluated_document author document) key
  references_held held kept key =
      ap (λ (o : Option Kept). option_map_or references_of_boxes (option_and_then (λ (one : Kept). one.pieces) o) [])
      (kept key ∙ kept_mapped (kept_of (counter_styles author) known) told_of_it key)
      ∙ by (kept_at told_of_it key)
      ∙ sym (references_told key)
    where
      by : (o : Option Told) → option_map_or references_of_boxes (option_and_then (λ (one : Kept). one.pieces) (option_map (kept_of (counter_styles author) known) o)) [] ≡ refers_by o
      by None = refl
      by (Some one) = pieces_refer one.said

  module _ (distinct : HasDistinctKeys document) where
    pub told_keys : (key : ℕ) → is_some (kept_at told_of_it key) ≡ is_some (name_of document key)
    told_keys key =
        by (kept_at told_of_it key)
        ∙ ap (λ (o : Option Kept). is_some o) (sym (kept_mapped (kept_of (counter_styles author) known) told_of_it key))
        ∙ kept_keys author document distinct key
      where
        by : (o : Option Told) → is_some o ≡ is_some (option_map (kept_of (counter_styles author) known) o)
        by None = refl
        by (Some one) = refl

    -- who is no element refers to none
    none_refers : (key : ℕ) → is_some (name_of document key) ≡ false → references_at (evaluated_document author document) key ≡ []
    none_refers key none = references_told key ∙ by (kept_at told_of_it key) (told_keys key ∙ none)
      where
        by : (o : Option Told) → is_some o ≡ false → refers_by o ≡ []
        by None is = refl
        by (Some one) is = absurd (true≢false is)

    pub told_refers : (element : ℕ × Told) → Contains told_of_it element → references_at (evaluated_document author document) element.0 ≡ references_of element.1.said
    told_refers element there = references_told element.0 ∙ ap refers_by (once_there told_of_it (told_once author document distinct) element there)

pub turned : (key : ℕ) (takes : List ℕ) → is_among takes key ≡ list_any (nat_eq key) takes
turned key [] = refl
turned key (taken ∷ takes) = ap (λ b. b || is_among takes key) (nat_eq_equiv.symm taken key) ∙ ap (λ b. nat_eq key taken || b) (turned key takes)

and_not : (a b : Bool) → (a && not b) ≡ true → b ≡ false
and_not true true e = sym e
and_not true false e = refl
and_not false b e = absurd (true≢false (sym e))

was_none : (a b : Bool) → (a && not b) ≡ false → b ≡ false → a ≡ false
was_none a true e none = absurd (true≢false none)
was_none true false e none = e
was_none false false e none = refl

-- Of an edit: a board holds what is kept of the document before it, these elements go, and the walk has found all changes.
module _ (was_author author : Sheet) (old new : Forest (Keyed Node)) (before : HasDistinctKeys old) (after : HasDistinctKeys new) (held : FinMap nat_cmp Kept)
    (kept : (key : ℕ) → get held key ≡ kept_at (document_kept was_author old) key) (takes : List ℕ)
    (taken : (key : ℕ) → list_any (nat_eq key) takes ≡ (is_some (name_of old key) && not (is_some (name_of new key)))) (told : List (ℕ × Told))
    (covers : Covers told (first_at (document_told was_author old)) (document_told author new)) (among : AreAmong told (document_told author new)) where
  stay : (key : ℕ) → is_among takes key ≡ false → is_told told key ≡ false → references_at (evaluated_document author new) key ≡ references_at (evaluated_document was_author old) key
  stay key untaken silent = by (kept_at (document_told author new) key) refl
    where
      by : (o : Option Told) → kept_at (document_told author new) key ≡ o → references_at (evaluated_document author new) key ≡ references_at (evaluated_document was_author old) key
      by None is =
          let none : is_some (name_of new key) ≡ false = sym (told_keys author new after key) ∙ ap (λ (o : Option Told). is_some o) is in
          let none_before = was_none (is_some (name_of old key)) (is_some (name_of new key)) (sym (taken key) ∙ sym (turned key takes) ∙ untaken) none in
          none_refers author new after key none ∙ sym (none_refers was_author old before key none_before)
      by (Some one) is =
          let its = All-contains (λ (entry : ℕ × Told). Contains told entry ⊎ (first_at (document_told was_author old) entry.0 ≡ Some entry.1)) (document_told author new) (key, one) covers
          (kept_there (document_told author new) key one is) in
          elim its [
            | inl there ↦ absurd (both_ways (is_told told key) silent (key_there told (key, one) there))
            | inr same ↦
                references_told author new key
                ∙ ap (λ (o : Option Told). option_map_or (λ (one : Told). references_of one.said) o []) (is ∙ sym same ∙ at_first (document_told was_author old) key)
                ∙ sym (references_told was_author old key)
          ]

  pub changes_references : ChangesReferences held takes told (evaluated_document was_author old) (evaluated_document author new)
  changes_references = record {
    kept = references_held was_author old held kept;
    gone = λ key there. none_refers author new after key (and_not (is_some (name_of old key)) (is_some (name_of new key)) (sym (taken key) ∙ sym (turned key takes) ∙ there));
    come = All-weaker (Contains (document_told author new)) (λ (element : ℕ × Told). references_at (evaluated_document author new) element.0 ≡ references_of element.1.said)
        (λ element there. told_refers author new after element there) told among;
    others = stay;
  }
