-- Reading what stands in pieces, some of which hold nothing, and some of which are not read.
use Rattle.std.proofs.Common.{◌≡◌, List, [], ◌∷◌, ◌++◌, Option, Some, None, sym, ap, ◌∙◌, append_assoc}
use Rattle.std.specs.List.{filter_map}
use Rattle.std.proofs.lemmas.List.{append-nil}
use Rattle.std.proofs.lemmas.List.Elements.{filter_map-append}
use Rattle.reading.specs.Reading.{run_at}
use Rattle.reading.proofs.Runs.{Goes, Goes-start, Goes-more, Goes-read, Shortens}

module _ {E A B : Type 0} (piece_at : List E → Option (Option A × List E)) (read : A → Option B) where
  -- what is read from these pieces
  abbrev pub read_from : List (Option A) → List B
  read_from pieces = filter_map read (filter_map (λ held. held) pieces)

  -- the loop has come to the rest, and has added to what was there before what it read on the way
  pub record Gathers (before : List B) (whole : List E) (found : List B) (rest : List E) : Type 0 where
    pub pieces : List (Option A)
    pub goes : Goes piece_at whole pieces rest
    pub found_is : found ≡ before ++ read_from pieces

  pub Gathers-start : (before : List B) (whole : List E) (found : List B) → found ≡ before → Gathers before whole found whole
  Gathers-start before whole found none = record { pieces = []; goes = Goes-start piece_at whole; found_is = none ∙ sym (append-nil before) }

  read_from-append : (pieces more : List (Option A)) → read_from (pieces ++ more) ≡ read_from pieces ++ read_from more
  read_from-append pieces more = ap (filter_map read) (filter_map-append (λ held. held) pieces more) ∙ filter_map-append read (filter_map (λ held. held) pieces) (filter_map (λ held. held) more)

  pub Gathers-more : (before : List B) (whole : List E) (found next : List B) (rest : List E) (entry : Option A) (after : List E) → Gathers before whole found rest → piece_at rest ≡ Some (entry, after)
      → next ≡ found ++ read_from (entry ∷ []) → Gathers before whole next after
  Gathers-more before whole found next rest entry after g e n = record {
    pieces = g.pieces ++ entry ∷ [];
    goes = Goes-more piece_at whole g.pieces rest entry after g.goes e;
    found_is =
        n
        ∙ ap (λ (t : List B). t ++ read_from (entry ∷ [])) g.found_is
        ∙ append_assoc before (read_from g.pieces) (read_from (entry ∷ []))
        ∙ ap (λ (t : List B). before ++ t) (sym (read_from-append g.pieces (entry ∷ [])));
  }

  pub Gathers-read : Shortens piece_at → (before : List B) (whole : List E) (found : List B) (rest : List E) → Gathers before whole found rest → piece_at rest ≡ None
      → found ≡ before ++ read_from (run_at piece_at whole).0
  Gathers-read shorter before whole found rest g e =
      let is = Goes-read piece_at shorter whole g.pieces rest g.goes e in
      g.found_is ∙ ap (λ (t : List (Option A) × List E). before ++ read_from t.0) (sym is)
