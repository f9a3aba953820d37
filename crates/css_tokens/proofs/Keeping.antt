-- The characters that the pieces of a string leave.
use Rattle.std.proofs.Common.{◌≡◌, ℕ, List, [], ◌∷◌, ◌++◌, Option, Some, None, refl, sym, ap, ◌∙◌}
use Rattle.reading.specs.Reading.{run_at}
use Rattle.reading.proofs.Runs.{Goes, Goes-start, Goes-more, Goes-read, Shortens}
use Rattle.css_tokens.specs.Strings.{kept}

-- the loop has come to the rest, with this text
pub record Keeps (piece_at : List ℕ → Option (Option ℕ × List ℕ)) (whole value rest : List ℕ) : Type 0 where
  pub pieces : List (Option ℕ)
  pub goes : Goes piece_at whole pieces rest
  pub value_is : value ≡ kept pieces

kept-append : (xs ys : List (Option ℕ)) → kept (xs ++ ys) ≡ kept xs ++ kept ys
kept-append [] ys = refl
kept-append (Some c ∷ xs) ys = ap (λ (t : List ℕ). c ∷ t) (kept-append xs ys)
kept-append (None ∷ xs) ys = kept-append xs ys

pub Keeps-start : (piece_at : List ℕ → Option (Option ℕ × List ℕ)) (whole : List ℕ) → Keeps piece_at whole [] whole
Keeps-start piece_at whole = record { pieces = []; goes = Goes-start piece_at whole; value_is = refl }

pub Keeps-more : (piece_at : List ℕ → Option (Option ℕ × List ℕ)) (whole value next rest : List ℕ) (left : Option ℕ) (after : List ℕ) → Keeps piece_at whole value rest → piece_at rest ≡ Some (left, after)
    → next ≡ value ++ kept (left ∷ []) → Keeps piece_at whole next after
Keeps-more piece_at whole value next rest left after k e n = record {
  pieces = k.pieces ++ left ∷ [];
  goes = Goes-more piece_at whole k.pieces rest left after k.goes e;
  value_is = n ∙ ap (λ (t : List ℕ). t ++ kept (left ∷ [])) k.value_is ∙ sym (kept-append k.pieces (left ∷ []));
}

pub Keeps-read : (piece_at : List ℕ → Option (Option ℕ × List ℕ)) → Shortens piece_at → (whole value rest : List ℕ) → Keeps piece_at whole value rest → piece_at rest ≡ None
    → (value ≡ kept (run_at piece_at whole).0) × (rest ≡ (run_at piece_at whole).1)
Keeps-read piece_at shorter whole value rest k e =
    let read = Goes-read piece_at shorter whole k.pieces rest k.goes e in
    (rw read k.value_is, rw read refl)
