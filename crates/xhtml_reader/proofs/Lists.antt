-- Tests, and lists of pieces.
use Rattle.std.proofs.Common.{◌≡◌, ℕ, Bool, true, false, cond, List, [], ◌∷◌, ◌++◌, Some, None, refl, sym, ap, ◌∙◌, append_assoc, append-nil}
use Rattle.xml_definitions.specs.Items.{ArePieces}

-- a test that was passed
pub passed : {A : Type 0} (b : Bool) (x y : A) → cond b (Some x) None ≡ Some y → (b ≡ true) × (x ≡ y)
passed true x y e = (refl, cc)
passed false x y e = absurd cc

module _ {Piece : Type 0} (Spells : List ℕ → Piece → Type 0) where
  pub ArePieces-one : (piece : Piece) (characters : List ℕ) → Spells characters piece → ArePieces Spells characters (piece ∷ [])
  ArePieces-one piece characters spelled = (characters, [], spelled, refl, sym (append-nil characters))

  pub ArePieces-append : (first second : List Piece) (a b : List ℕ) → ArePieces Spells a first → ArePieces Spells b second → ArePieces Spells (a ++ b) (first ++ second)
  ArePieces-append [] second a b p q = rw p q
  ArePieces-append (piece ∷ first) second a b p q =
      (p.0, p.1 ++ b, p.2, ArePieces-append first second p.1 b p.3 q, ap (λ (t : List ℕ). t ++ b) p.4 ∙ append_assoc p.0 p.1 b)

  -- the pieces in two parts
  pub record Parts (characters : List ℕ) (first second : List Piece) : Type 0 where
    pub front : List ℕ
    pub rest : List ℕ
    pub front_is : ArePieces Spells front first
    pub rest_is : ArePieces Spells rest second
    pub parts : characters ≡ front ++ rest

  pub ArePieces-parts : (first second : List Piece) (characters : List ℕ) → ArePieces Spells characters (first ++ second) → Parts characters first second
  ArePieces-parts [] second characters p = record { front = []; rest = characters; front_is = refl; rest_is = p; parts = refl }
  ArePieces-parts (piece ∷ first) second characters p =
      let more = ArePieces-parts first second p.1 p.3 in
      record {
        front = p.0 ++ more.front;
        rest = more.rest;
        front_is = (p.0, more.front, p.2, more.front_is, refl);
        rest_is = more.rest_is;
        parts = p.4 ∙ ap (λ (t : List ℕ). p.0 ++ t) more.parts ∙ sym (append_assoc p.0 more.front more.rest);
      }
