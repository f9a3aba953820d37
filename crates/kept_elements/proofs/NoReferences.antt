-- Where no piece refers to an id, no element does; and none refers to one where no piece has a url.
use Rattle.std.proofs.Common.{◌≡◌, ◌||◌, ℕ, false, List, [], ◌∷◌, Option, Some, None, refl}
use Rattle.std.specs.Prelude.{is_some}
use Rattle.std.specs.List.{filter_map}
use Rattle.std.proofs.lemmas.Bool.{or_parts, true≢false}
use Rattle.content_eval.specs.declared.generated.Piece.{Piece}
use Rattle.content_eval.specs.declared.generated.Piece.TheVariants as piece
use Rattle.content_eval.specs.Targets.{reference}
use Rattle.box_eval.specs.declared.element_record.ElementRecord.{ElementRecord}
use Rattle.box_eval.specs.declared.made.Made.{Made}
use Rattle.box_pieces.specs.BoxPieces.{has_url, has_url_in, has_urls, refers, refers_in, some_has_url, some_refers}
use Rattle.edit_work.specs.KeyedSources.{references_in, references_of}

none_of : (o : Option (List ℕ)) → is_some o ≡ false → o ≡ None
none_of None none = refl
none_of (Some id) none = absurd (true≢false none)

of_pieces : (pieces : List Piece) → some_refers pieces ≡ false → filter_map reference pieces ≡ []
of_pieces [] none = refl
of_pieces (piece ∷ pieces) none =
    let each = or_parts (is_some (reference piece)) (some_refers pieces) none in
    rw (none_of (reference piece) each.0) (of_pieces pieces each.1)

of_box : (made : Option Made) → refers_in made ≡ false → references_in made ≡ []
of_box None none = refl
of_box (Some made) none = of_pieces made.pieces none

pub of_element : (said : ElementRecord) → refers said ≡ false → references_of said ≡ []
of_element said none =
    let first = or_parts (refers_in said.marker) (refers_in said.before || refers_in said.after) none in
    let last = or_parts (refers_in said.before) (refers_in said.after) first.1 in
    rw (of_box said.marker first.0, of_box said.before last.0, of_box said.after last.1) refl

-- Without a url.

no_reference : (one : Piece) → has_url one ≡ false → is_some (reference one) ≡ false
no_reference (piece.Chars text) none = refl
no_reference (piece.TargetCounter url name style) none = absurd (true≢false none)
no_reference (piece.TargetCounters url name between style) none = absurd (true≢false none)
no_reference (piece.TargetText url part) none = absurd (true≢false none)

none_refers : (pieces : List Piece) → some_has_url pieces ≡ false → some_refers pieces ≡ false
none_refers [] none = refl
none_refers (piece ∷ pieces) none =
    let each = or_parts (has_url piece) (some_has_url pieces) none in
    rw (no_reference piece each.0) (none_refers pieces each.1)

no_box_refers : (made : Option Made) → has_url_in made ≡ false → refers_in made ≡ false
no_box_refers None none = refl
no_box_refers (Some made) none = none_refers made.pieces none

pub without_urls : (said : ElementRecord) → has_urls said ≡ false → references_of said ≡ []
without_urls said none =
    let first = or_parts (has_url_in said.marker) (has_url_in said.before || has_url_in said.after) none in
    let last = or_parts (has_url_in said.before) (has_url_in said.after) first.1 in
    of_element said (rw (no_box_refers said.marker first.0, no_box_refers said.before last.0, no_box_refers said.after last.1) refl)
