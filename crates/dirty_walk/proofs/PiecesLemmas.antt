-- The pieces that are kept are those of a fresh evaluation.
use Rattle.std.proofs.Common.{◌≡◌, ◌∙◌, ◌||◌, ℕ, false, List, Option, Some, None, refl, sym, ap, inl, inr}
use Rattle.std.specs.Prelude.{option_map}
use Rattle.std.specs.Option.{option_and_then}
use Rattle.std.proofs.lemmas.Bool.{cases_Bool, or_parts}
use Rattle.forest.specs.Forest.{Forest}
use Rattle.forest.specs.Keys.{HasDistinctKeys, Keyed}
use Rattle.plain_types.specs.declared.box_kind.BoxKind.{BoxKind}
use Rattle.plain_types.specs.declared.box_kind.BoxKind.TheVariants.{Element, Marker, Before, After}
use Rattle.plain_types.specs.declared.node.Node.{Node}
use Rattle.plain_types.specs.declared.sheet.Sheet.{Sheet}
use Rattle.content_eval.specs.declared.generated.Piece.{Piece}
use Rattle.box_eval.specs.declared.element_record.ElementRecord.{ElementRecord}
use Rattle.box_eval.specs.declared.made.Made.{Made}
use Rattle.box_pieces.specs.BoxPieces.{has_url_in, has_urls, pieces_in, pieces_with_urls}
use Rattle.box_pieces.specs.declared.box_pieces.BoxPieces.{BoxPieces}
use Rattle.generated_texts.specs.Documents.{counter_styles, document_evaluation}
use Rattle.generated_texts.specs.References.{kept_at, known_targets}
use Rattle.surroundings.specs.declared.told.Told.{Told}
use Rattle.kept_elements.specs.declared.kept.Kept.{Kept}
use Rattle.kept_elements.specs.Evaluations.{document_kept, document_told, kept_of}
use Rattle.referring_elements.specs.References.{said_of}
use Rattle.kept_elements.proofs.KnownLemmas.{kept_mapped}
use Rattle.kept_elements.proofs.ToldLemmas.{said_is}
use Rattle.dirty_walk.specs.FreshPieces.{box_with_pieces, pieces_to_refer}
use Rattle.dirty_walk.specs.Machinery.KeptPieces.{kept_box, kept_pieces, where_url}

-- Boxes.

without_url : (made : Option Made) → has_url_in made ≡ false → option_and_then pieces_to_refer made ≡ None
without_url None none = refl
without_url (Some made) none = rw none refl

its_pieces : (made : Option Made) → option_and_then where_url (option_map pieces_in made) ≡ option_and_then pieces_to_refer made
its_pieces None = refl
its_pieces (Some made) = refl

module _ (said : ElementRecord) where
  pieces_of_box : (kind : BoxKind) → option_and_then where_url (kept_box (record { marker = option_map pieces_in said.marker; before = option_map pieces_in said.before; after = option_map pieces_in said.after }) kind) ≡ option_and_then pieces_to_refer (box_with_pieces said kind)
  pieces_of_box Element = refl
  pieces_of_box Marker = its_pieces said.marker
  pieces_of_box Before = its_pieces said.before
  pieces_of_box After = its_pieces said.after

  none_of_box : (kind : BoxKind) → has_urls said ≡ false → option_and_then pieces_to_refer (box_with_pieces said kind) ≡ None
  none_of_box kind none =
      let first = or_parts (has_url_in said.marker) (has_url_in said.before || has_url_in said.after) none in
      let last = or_parts (has_url_in said.before) (has_url_in said.after) first.1 in
      by kind first.0 last.0 last.1
    where
      by : (kind : BoxKind) → has_url_in said.marker ≡ false → has_url_in said.before ≡ false → has_url_in said.after ≡ false → option_and_then pieces_to_refer (box_with_pieces said kind) ≡ None
      by Element marker before after = refl
      by Marker marker before after = without_url said.marker marker
      by Before marker before after = without_url said.before before
      by After marker before after = without_url said.after after

  pieces_of_element : (kind : BoxKind)
      → option_and_then (λ (boxes : BoxPieces). option_and_then where_url (kept_box boxes kind)) (pieces_with_urls said)
      ≡ option_and_then pieces_to_refer (box_with_pieces said kind)
  pieces_of_element kind = elim (cases_Bool (has_urls said)) [
    | inl e ↦ rw e (pieces_of_box kind)
    | inr e ↦ rw e (sym (none_of_box kind e))
  ]

-- Documents.

module _ (author : Sheet) (tree : Forest (Keyed Node)) (distinct : HasDistinctKeys tree) (kind : BoxKind) where
  abbrev refer_in : ElementRecord → Option (List Piece)
  refer_in element = option_and_then pieces_to_refer (box_with_pieces element kind)

  pub pieces_kept : (key : ℕ) → option_and_then (λ (kept : Kept). kept_pieces kept kind) (kept_at (document_kept author tree) key) ≡ option_and_then refer_in (kept_at (document_evaluation author tree) key)
  pieces_kept key =
      let table = counter_styles author in
      let told = document_told author tree in
      let make = kept_of table (known_targets table tree (said_of told)) in
      ap (option_and_then (λ (kept : Kept). kept_pieces kept kind)) (kept_mapped make told key)
      ∙ by make (λ _. refl) (kept_at told key)
      ∙ ap (option_and_then refer_in) (sym (kept_mapped (λ (one : Told). one.said) told key))
      ∙ ap (λ (records : List (ℕ × ElementRecord)). option_and_then refer_in (kept_at records key)) (said_is author tree distinct)
    where
      by : (make : Told → Kept) → ((told : Told) → (make told).pieces ≡ pieces_with_urls told.said) → (o : Option Told)
          → option_and_then (λ (kept : Kept). kept_pieces kept kind) (option_map make o) ≡ option_and_then refer_in (option_map (λ (one : Told). one.said) o)
      by make pieces None = refl
      by make pieces (Some told) =
          ap (option_and_then (λ (boxes : BoxPieces). option_and_then where_url (kept_box boxes kind))) (pieces told) ∙ pieces_of_element told.said kind
