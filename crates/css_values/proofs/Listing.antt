-- A comma list: the first piece, and those after commas.
use Rattle.std.proofs.Common.{◌≡◌, List, [], ◌∷◌, ◌++◌, Option, Some, None, refl, ◌∙◌}
use Rattle.reading.specs.Reading.{run_at}
use Rattle.reading.proofs.Runs.{Goes, Goes-start, Goes-more, Goes-read, Shortens}

-- the loop has come to the rest, with these pieces after the first
pub record Lists {E X : Type 0} (piece_at : List E → Option (X × List E)) (first : X) (whole : List E) (all : List X) (rest : List E) : Type 0 where
  pub pieces : List X
  pub goes : Goes piece_at whole pieces rest
  pub all_is : all ≡ first ∷ pieces

module _ {E X : Type 0} (piece_at : List E → Option (X × List E)) (first : X) (whole : List E) where
  pub Lists-start : (none all : List X) → none ≡ [] → all ≡ none ++ first ∷ [] → Lists piece_at first whole all whole
  Lists-start none all empty e = record { pieces = []; goes = Goes-start piece_at whole; all_is = e ∙ rw empty refl }

  pub Lists-more : (all next : List X) (rest : List E) (x : X) (after : List E) → Lists piece_at first whole all rest → piece_at rest ≡ Some (x, after) → next ≡ all ++ x ∷ [] → Lists piece_at first whole next after
  Lists-more all next rest x after l e n = record {
    pieces = l.pieces ++ x ∷ [];
    goes = Goes-more piece_at whole l.pieces rest x after l.goes e;
    all_is = n ∙ rw l.all_is refl;
  }

  pub Lists-read : Shortens piece_at → (all : List X) (rest : List E) → Lists piece_at first whole all rest → piece_at rest ≡ None
      → (all ≡ first ∷ (run_at piece_at whole).0) × (rest ≡ (run_at piece_at whole).1)
  Lists-read shorter all rest l e =
      let read = Goes-read piece_at shorter whole l.pieces rest l.goes e in
      (rw read l.all_is, rw read refl)
