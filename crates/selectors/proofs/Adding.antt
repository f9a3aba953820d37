-- What a loop over pieces keeps that appends them to a list.
use Rattle.std.proofs.Common.{◌≡◌, List, [], ◌∷◌, ◌++◌, Option, Some, None, refl, sym, ap, ◌∙◌, append_assoc}
use Rattle.std.proofs.lemmas.List.{append-nil}
use Rattle.reading.specs.Reading.{run_at}
use Rattle.reading.proofs.Runs.{Goes, Goes-start, Goes-more, Goes-read, Shortens}

-- the loop has come to the rest, and the list has the pieces behind what was there
pub record Adds {E X : Type 0} (piece_at : List E → Option (X × List E)) (front : List X) (whole : List E) (all : List X) (rest : List E) : Type 0 where
  pub pieces : List X
  pub goes : Goes piece_at whole pieces rest
  pub all_is : all ≡ front ++ pieces

module _ {E X : Type 0} (piece_at : List E → Option (X × List E)) (front : List X) (whole : List E) where
  pub Adds-start : (all : List X) → all ≡ front → Adds piece_at front whole all whole
  Adds-start all e = record { pieces = []; goes = Goes-start piece_at whole; all_is = e ∙ sym (append-nil front) }

  pub Adds-more : (all next : List X) (rest : List E) (x : X) (after : List E) → Adds piece_at front whole all rest → piece_at rest ≡ Some (x, after) → next ≡ all ++ x ∷ [] → Adds piece_at front whole next after
  Adds-more all next rest x after l e n = record {
    pieces = l.pieces ++ x ∷ [];
    goes = Goes-more piece_at whole l.pieces rest x after l.goes e;
    all_is = n ∙ ap (λ (t : List X). t ++ x ∷ []) l.all_is ∙ append_assoc front l.pieces (x ∷ []);
  }

  pub Adds-read : Shortens piece_at → (all : List X) (rest : List E) → Adds piece_at front whole all rest → piece_at rest ≡ None
      → (all ≡ front ++ (run_at piece_at whole).0) × (rest ≡ (run_at piece_at whole).1)
  Adds-read shorter all rest l e =
      let read = Goes-read piece_at shorter whole l.pieces rest l.goes e in
      (rw read l.all_is, rw read refl)
