-- What is read piece by piece is spelled so, and what is spelled so is read.
use Rattle.std.proofs.Common.{◌≡◌, ℕ, Bool, true, ◌<◌, List, [], ◌∷◌, ◌++◌, length, Option, Some, None, refl, sym, ap, ◌∙◌, append_assoc, arith}
use Rattle.std.proofs.lemmas.List.{append-nil, length-append}
use Rattle.std.specs.List.{list_all}
use Rattle.std.proofs.lemmas.Bool.{and_parts}
use Rattle.reading.proofs.Following.{Follows, here, later, Leaves, nothing, left, TakesOne}
use Rattle.reading.proofs.Runs.{Goes, Goes-more, Run, stop, more}
use Rattle.xml_definitions.specs.Items.{ArePieces}

-- pieces of one character each, in a row
pub Goes-over : (piece_at : List ℕ → Option (ℕ × List ℕ)) (test : ℕ → Bool) → ((c : ℕ) (cs : List ℕ) → test c ≡ true → piece_at (c ∷ cs) ≡ Some (c, cs))
    → (whole pieces front after : List ℕ) → list_all test front ≡ true → Goes piece_at whole pieces (front ++ after) → Goes piece_at whole (pieces ++ front) after
Goes-over piece_at test law whole pieces [] after all goes = rw append-nil goes
Goes-over piece_at test law whole pieces (c ∷ front) after all goes =
    let p = and_parts (test c) (list_all test front) all in
    let one = Goes-more piece_at whole pieces (c ∷ (front ++ after)) c (front ++ after) goes (law c (front ++ after) p.0) in
    rw append_assoc at (Goes-over piece_at test law whole (pieces ++ c ∷ []) front after p.1 one)

Follows-after : (front rest : List ℕ) → Follows (front ++ rest) rest
Follows-after [] rest = here
Follows-after (c ∷ front) rest = later c (Follows-after front rest)

module _ {Piece : Type 0} (Spells : List ℕ → Piece → Type 0) (piece_at : List ℕ → Option (Piece × List ℕ)) where
  -- the two laws of one piece
  pub record IsReader : Type 0 where
    pub takes : (cs : List ℕ) (x : Piece × List ℕ) → piece_at cs ≡ Some x → (front : List ℕ) × Spells front x.0 × (cs ≡ front ++ x.1)
    pub again : (piece : Piece) (front rest : List ℕ) → Spells front piece → piece_at (front ++ rest) ≡ Some (piece, rest)
    pub filled : (piece : Piece) (front : List ℕ) → Spells front piece → 0 < length front

  pub shorter : IsReader → (cs : List ℕ) (x : Piece × List ℕ) → piece_at cs ≡ Some x → length x.1 < length cs
  shorter law cs x e =
      let t = law.takes cs x e in
      omega (arith, law.filled x.0 t.0 t.1, ap length t.2, length-append t.0 x.1)

  -- each piece takes a character
  pub takes_one : IsReader → TakesOne piece_at
  takes_one law = record { none = none (piece_at []) refl; leaves = λ first rest. leaves first rest (piece_at (first ∷ rest)) refl }
    where
      none : (o : Option (Piece × List ℕ)) → piece_at [] ≡ o → piece_at [] ≡ None
      none None e = e
      none (Some x) e = absurd (omega (arith, shorter law [] x e))

      follows : (front rest whole after : List ℕ) → 0 < length front → whole ≡ front ++ after → (first : ℕ) → whole ≡ first ∷ rest → Follows rest after
      follows [] rest whole after filled parts first is = absurd (omega arith)
      follows (c ∷ front) rest whole after filled parts first is = let tail : rest ≡ front ++ after = cc in rw tail (Follows-after front after)

      leaves : (first : ℕ) (rest : List ℕ) (o : Option (Piece × List ℕ)) → piece_at (first ∷ rest) ≡ o → Leaves rest o
      leaves first rest None e = nothing
      leaves first rest (Some x) e =
          let t = law.takes (first ∷ rest) x e in
          left x (follows t.0 rest (first ∷ rest) x.1 (law.filled x.0 t.0 t.1) t.2 first refl)

  pub Run-takes : IsReader → {cs : List ℕ} {pieces : List Piece} {rest : List ℕ} → Run piece_at cs pieces rest
      → (front : List ℕ) × ArePieces Spells front pieces × (cs ≡ front ++ rest)
  Run-takes law (stop e) = ([], refl, refl)
  Run-takes law (more piece middle e run) =
      let t = law.takes _ (piece, middle) e in
      let p = Run-takes law run in
      (t.0 ++ p.0, (t.0, p.0, t.1, p.1, refl), t.2 ∙ ap (λ (u : List ℕ). t.0 ++ u) p.2 ∙ sym (append_assoc t.0 p.0 _))

  pub Run-again : IsReader → (pieces : List Piece) (cs rest : List ℕ) → ArePieces Spells cs pieces → piece_at rest ≡ None → Run piece_at (cs ++ rest) pieces rest
  Run-again law [] cs rest p e = rw p (stop e)
  Run-again law (piece ∷ pieces) cs rest p e =
      let regrouped : cs ++ rest ≡ p.0 ++ (p.1 ++ rest) = ap (λ (u : List ℕ). u ++ rest) p.4 ∙ append_assoc p.0 p.1 rest in
      more piece (p.1 ++ rest) (ap piece_at regrouped ∙ law.again piece p.0 (p.1 ++ rest) p.2) (Run-again law pieces p.1 rest p.3 e)
